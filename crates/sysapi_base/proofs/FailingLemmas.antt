-- A list without the items that pass a test.
use Rattle.std.proofs.Common.{◌≡◌, suc, ◌<◌, ◌≤◌, ◌||◌, Bool, true, false, not, cond, List, [], ◌∷◌, length, filter, refl, ap, arith}
use Rattle.std.specs.List.{list_any}

module _ {X : Type 0} (p : X → Bool) where
  fewer_or_same : (xs : List X) → length (filter (λ x. not (p x)) xs) ≤ length xs
  fewer_or_same [] = omega arith
  fewer_or_same (x ∷ xs) =
      elim (p x) as (λ b. length (cond (not b) (x ∷ filter (λ x. not (p x)) xs) (filter (λ x. not (p x)) xs)) ≤ suc (length xs)) [
        | true ↦ omega (arith, fewer_or_same xs)
        | false ↦ omega (arith, fewer_or_same xs)
      ]

  -- where an item passes, the rest is shorter
  pub fewer : (xs : List X) → list_any p xs ≡ true → length (filter (λ x. not (p x)) xs) < length xs
  fewer [] any = cc
  fewer (x ∷ xs) any =
      let at : (b : Bool) → (b || list_any p xs) ≡ true → length (cond (not b) (x ∷ filter (λ x. not (p x)) xs) (filter (λ x. not (p x)) xs)) < suc (length xs) =
      elim [
        | true ↦ λ h. omega (arith, fewer_or_same xs)
        | false ↦ λ h. omega (arith, fewer xs h)
      ] in at (p x) any

  -- where none passes, all stay
  pub all_stay : (xs : List X) → list_any p xs ≡ false → filter (λ x. not (p x)) xs ≡ xs
  all_stay [] any = refl
  all_stay (x ∷ xs) any =
      let at : (b : Bool) → (b || list_any p xs) ≡ false → cond (not b) (x ∷ filter (λ x. not (p x)) xs) (filter (λ x. not (p x)) xs) ≡ x ∷ xs =
      elim [
        | true ↦ λ h. cc
        | false ↦ λ h. ap (λ (l : List X). x ∷ l) (all_stay xs h)
      ] in at (p x) any
