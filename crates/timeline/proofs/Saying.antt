-- The last of the changes at or before a point.
use Rattle.std.proofs.Common.{◌≡◌, ℕ, zero, suc, ◌+◌, ◌<◌, ◌≤◌, List, [], ◌∷◌, ◌++◌, length, get_or, Bool, true, false, cond, Option, None, refl, sym, ap, ◌∙◌, arith}
use Rattle.std.specs.Prelude.{nat_le, option_and_then}
use Rattle.std.specs.Option.{option_map_or}
use Rattle.std.specs.List.{slice_get, AllWithin}
use Rattle.std.specs.List.Sorted.{IsPartitionPoint, IsNonDecreasingBy}
use Rattle.std.proofs.lemmas.Bool.Decides.{nat_tests}
use Rattle.std.proofs.lemmas.Option.{slice_get-get_or}
use Rattle.timeline.specs.Values.{last_said}

pub said_by_then : (n m : ℕ) → n ≤ m → nat_le n m ≡ true
said_by_then n m le = grind (arith, nat_tests)

said_later : (n m : ℕ) → m < n → nat_le n m ≡ false
said_later n m lt = grind (arith, nat_tests)

from_true : (n m : ℕ) → nat_le n m ≡ true → n ≤ m
from_true n m is = grind (arith, nat_tests)

from_false : (n m : ℕ) → nat_le n m ≡ false → m < n
from_false n m is = grind (arith, nat_tests)

module _ {T : Type 0} (n : ℕ) where
  abbrev IsPast : ℕ × Option T → Type 0
  IsPast c = c.0 ≤ n

  abbrev IsLater : ℕ × Option T → Type 0
  IsLater c = n < c.0

  -- none of the changes is at or before the point
  none_said : (cs : List (ℕ × Option T)) (older : Option T) → AllWithin IsLater cs 0 (length cs) → last_said cs n older ≡ older
  none_said [] older h = refl
  none_said (c ∷ cs) older h =
      ap (λ b. last_said cs n (cond b c.1 older)) (said_later c.0 n (h 0 c (omega arith) (omega arith)))
      ∙ none_said cs older (λ k d le lt. h (suc k) d (omega arith) (omega arith))

  -- the change at k is, and none after it
  said_last : (cs : List (ℕ × Option T)) (k : ℕ) (older : Option T) → k < length cs → AllWithin IsPast cs 0 (k + 1) → AllWithin IsLater cs (k + 1) (length cs)
      → last_said cs n older ≡ option_and_then (λ (c : ℕ × Option T). c.1) (slice_get cs k)
  said_last [] k older lt at after = absurd (omega (arith, lt))
  said_last (c ∷ cs) zero older lt at after =
      ap (λ b. last_said cs n (cond b c.1 older)) (said_by_then c.0 n (at 0 c (omega arith) (omega arith)))
      ∙ none_said cs c.1 (λ j d le below. after (suc j) d (omega arith) (omega arith))
  said_last (c ∷ cs) (suc k) older lt at after =
      said_last cs k (cond (nat_le c.0 n) c.1 older) (omega arith) (λ j d le below. at (suc j) d (omega arith) (omega arith)) (λ j d le below. after (suc j) d (omega arith) (omega arith))

  -- a search has found k: the change before it is the one, if there is one
  pub said_at_point : (cs : List (ℕ × Option T)) (k m : ℕ) → k ≡ m + 1 → k ≤ length cs → IsPartitionPoint IsPast IsLater cs k → last_said cs n None ≡ option_and_then (λ (c : ℕ × Option T). c.1) (slice_get cs m)
  said_at_point cs k m is le point =
      said_last cs m None (omega arith) (λ j d at below. point.0 j d at (omega arith)) (λ j d at below. point.1 j d (omega arith) below)

  pub none_at_point : (cs : List (ℕ × Option T)) (k : ℕ) → k ≡ 0 → IsPartitionPoint IsPast IsLater cs k → last_said cs n None ≡ None
  none_at_point cs k none point = none_said cs None (λ j d at below. point.1 j d (omega arith) below)

  -- what a search learns of all changes from the one at k
  module _ (cs : List (ℕ × Option T)) (k : ℕ) (rises : IsNonDecreasingBy (λ (c : ℕ × Option T). c.0) cs) (lt : k < length cs) where
    tested : (b : Bool) → b ≡ option_map_or (λ (c : ℕ × Option T). nat_le c.0 n) (slice_get cs k) false → (d : ℕ × Option T) → nat_le (get_or cs k d).0 n ≡ b
    tested b is d = sym (is ∙ ap (λ o. option_map_or (λ (c : ℕ × Option T). nat_le c.0 n) o false) (slice_get-get_or cs k d lt))

    pub past_up_to : true ≡ option_map_or (λ (c : ℕ × Option T). nat_le c.0 n) (slice_get cs k) false → AllWithin IsPast cs 0 (k + 1)
    past_up_to is j d at below = omega (arith, from_true _ _ (tested true is d), rises j k d (omega arith) lt)

    pub later_from : false ≡ option_map_or (λ (c : ℕ × Option T). nat_le c.0 n) (slice_get cs k) false → AllWithin IsLater cs k (length cs)
    later_from is j d at below = omega (arith, from_false _ _ (tested false is d), rises k j d at below)

-- one more change
pub said_more : {T : Type 0} (cs : List (ℕ × Option T)) (n : ℕ) (v : Option T) (m : ℕ) (older : Option T) → last_said (cs ++ (n, v) ∷ []) m older ≡ cond (nat_le n m) v (last_said cs m older)
said_more [] n v m older = refl
said_more (c ∷ cs) n v m older = said_more cs n v m (cond (nat_le c.0 m) c.1 older)
