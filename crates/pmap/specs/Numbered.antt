-- Entries whose keys are numbers, one after another.
use Rattle.std.specs.Prelude.{◌≡◌, ℕ, ◌+◌, List, [], ◌∷◌, ⊤}

-- the keys are the numbers from n on
abbrev pub AreNumberedFrom : {X : Type 0} → ℕ → List (ℕ × X) → Type 0
AreNumberedFrom n [] = ⊤
AreNumberedFrom n (e ∷ es) = (e.0 ≡ n) × AreNumberedFrom (n + 1) es
