-- Changes one after another.
use Rattle.std.specs.Prelude.{ℕ, ◌<◌, List, [], ◌∷◌, Option, All}
use Rattle.timeline.specs.Values.{changed}

-- from this point on the id has this value, or none
pub record Change (T : Type 0) : Type 0 where
  pub id : ℕ
  pub from : ℕ
  pub value : Option T

-- the values after these changes, oldest first
abbrev pub after : {T : Type 0} → (ℕ → ℕ → Option T) → List (Change T) → ℕ → ℕ → Option T
after values [] = values
after values (c ∷ cs) = after (changed values c.id c.from c.value) cs

-- each of the changes is from a point above n on
abbrev pub AreAfter : {T : Type 0} → ℕ → List (Change T) → Type 0
AreAfter {T} n cs = All (λ (c : Change T). n < c.from) cs
