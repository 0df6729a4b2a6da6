-- What a whole read gives.
use Rattle.std.specs.Prelude.{◌≡◌, ◌⊎◌, ℕ, ◌+◌, ◌-◌, ◌<◌, ◌≤◌, Bool, true, false, List, length, take, drop, Option, Some}

-- filled to its end with the bytes from a place on, or there aren't so many
abbrev pub IsFilled : ℕ → List ℕ → List ℕ → Bool → Type 0
IsFilled at bytes into true = (at + length into ≤ length bytes ⊎ (length into ≡ 0)) × (into ≡ take (length into) (drop at bytes))
IsFilled at bytes into false = length bytes < at + length into

-- these are the first bytes of the disk from a place on, where it tells them
pub record IsPiece (reading : Option (List ℕ)) (from len : ℕ) (bytes : List ℕ) : Type 0 where
  pub size : len ≤ length bytes
  pub same : (b : List ℕ) → reading ≡ Some b → (take len bytes ≡ take len (drop from b)) × (len ≤ length b - from)
