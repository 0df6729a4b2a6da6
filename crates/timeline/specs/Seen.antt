-- What the changes of an id are seen as.
use Rattle.std.specs.Prelude.{ℕ, ◌≤◌, List, Option, option_map, map, All}
use Rattle.std.specs.List.Sorted.{IsNonDecreasingBy}
use Rattle.std.specs.declared.sync.Arc.{Arc}
use Rattle.std.specs.declared.alloc.Global.{Global}
use Rattle.timeline.specs.Values.{changes_of}
use Rattle.timeline.specs.declared.history.Entry.{Entry}

-- a change's point and value
abbrev pub seen : {T : Type 0} → Entry T → ℕ × Option T
seen {T} e = (e.from, option_map (λ (a : Arc T Global). a.value) e.value)

-- the changes of an id
abbrev pub said : {T : Type 0} → List (Entry T) → List (ℕ × Option T)
said {T} es = map {A = Entry T} {B = ℕ × Option T} seen es

-- the points don't fall
abbrev pub IsInOrder : {T : Type 0} → List (Entry T) → Type 0
IsInOrder {T} es = IsNonDecreasingBy (λ (c : ℕ × Option T). c.0) (said es)

-- no change of an id is from a point above n on
abbrev pub AreUpTo : {T : Type 0} → ℕ → List (ℕ × List (ℕ × Option T)) → Type 0
AreUpTo {T} n hs = (q : ℕ) → All (λ (c : ℕ × Option T). c.0 ≤ n) (changes_of hs q)
