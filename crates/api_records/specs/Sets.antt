-- Sets of ids, as tests.
use Rattle.std.specs.Prelude.{ℕ, Bool, true, if◌then◌else◌, ◌==◌, List}
use Rattle.std.specs.List.{list_any}

-- whether the list has the id
abbrev pub has : List ℕ → ℕ → Bool
has ids q = list_any (λ x. q == x) ids

-- the set and one more
abbrev pub added : ℕ → (ℕ → Bool) → ℕ → Bool
added x set q = if x == q then true else set q
