-- What the calls of the outside keep. An object of the outside has a ghost count of its faults, which never falls, and may tell
-- its content, as those in memory do, or not, as a real file or terminal.
use Rattle.std.specs.Prelude.{◌≡◌, ℕ, ◌<◌, ◌≤◌, ◌-◌, ◌^◌, List, [], ◌++◌, length, take, Option, Some, None, Result, IsOk, IsErr, IfOk, MatchResult, ⊤}

-- A count rose. One kept in a u64 can't rise from its last value, so from there on nothing is said.
abbrev pub Rises : ℕ → ℕ → Type 0
Rises before now = before < 2 ^ 64 - 1 → before < now

-- What each call does to the count: it never falls, it rises in a call that fails, and it stays where the object is steady, whose
-- calls don't fail and leave it steady.
pub record Passes {X T E : Type 0} (faults : X → ℕ) (IsSteady : X → Type 0) (old new : X) (result : Result T E) : Type 0 where
  pub later : faults old ≤ faults new
  pub failed : IsErr result → Rises (faults old) (faults new)
  pub steady : IsSteady old → IsOk result × IsSteady new × (faults new ≡ faults old)

-- a write takes at least one byte of a piece that isn't empty
abbrev pub TakesSome : {E : Type 0} → List ℕ → Result ℕ E → Type 0
TakesSome piece result = IfOk result (λ n. 0 < length piece → 0 < n)

-- The items that are told grow by these, or are told no longer. An object that tells nothing goes on telling nothing.
abbrev pub Grows : {A : Type 0} → Option (List A) → Option (List A) → List A → Type 0
Grows None new items = new ≡ None
Grows (Some old) None items = ⊤
Grows (Some old) (Some new) items = new ≡ old ++ items

-- what a write does to the bytes taken: after n bytes the first n of the piece are added, after a failure none
abbrev pub Writes : {E : Type 0} → Option (List ℕ) → Option (List ℕ) → Result ℕ E → List ℕ → Type 0
Writes old new result piece = MatchResult result (λ n. Grows old new (take n piece)) (λ _. new ≡ old)

-- no item is told
abbrev pub HasNone : {A : Type 0} → Option (List A) → Type 0
HasNone None = ⊤
HasNone (Some items) = items ≡ []
