-- The values after one more change of an id.
use Rattle.std.proofs.Common.{◌≡◌, ℕ, ◌<◌, ◌≤◌, ◌==◌, ◌&&◌, List, [], ◌∷◌, ◌++◌, length, get_or, Bool, true, false, cond, eqb-true, Option, Some, None, unwrap_or, refl, sym, ap, ◌∙◌, subst, arith}
use Rattle.std.specs.Prelude.{nat_le, All}
use Rattle.std.specs.Ordering.{nat_cmp}
use Rattle.std.specs.FinMap.{find, put}
use Rattle.std.proofs.lemmas.List.Elements.{All-push}
use Rattle.timeline.specs.Values.{last_said, changes_of, value_in, changed}
use Rattle.timeline.specs.Seen.{AreUpTo}
use Rattle.timeline.proofs.Entries.{find_put}
use Rattle.timeline.proofs.Saying.{said_more}

module _ {T : Type 0} (hs : List (ℕ × List (ℕ × Option T))) where
  pub put_changes : (id n : ℕ) (v : Option T) (q m : ℕ) → value_in (put nat_cmp id (changes_of hs id ++ (n, v) ∷ []) hs) q m ≡ changed (value_in hs) id n v q m
  put_changes id n v q m =
      ap (λ o. last_said (unwrap_or o []) m None) (find_put id longer hs q)
      ∙ at (id == q) (λ e. said_more (changes_of hs id) n v m None ∙ ap (λ k. cond (nat_le n m) v (value_in hs k m)) (eqb-true id q e))
    where
      longer : List (ℕ × Option T)
      longer = changes_of hs id ++ (n, v) ∷ []

      at : (b : Bool) → (b ≡ true → last_said (changes_of hs id ++ (n, v) ∷ []) m None ≡ cond (nat_le n m) v (value_in hs q m))
          → last_said (unwrap_or (cond b (Some (changes_of hs id ++ (n, v) ∷ [])) (find nat_cmp q hs)) []) m None ≡ cond (b && nat_le n m) v (value_in hs q m)
      at true h = h refl
      at false h = refl

  -- after a change from the last point on, no change is from a point above it
  pub put_up_to : (id last n : ℕ) (v : Option T) → last ≤ n → AreUpTo last hs → AreUpTo n (put nat_cmp id (changes_of hs id ++ (n, v) ∷ []) hs)
  put_up_to id last n v le up q =
      let P : Option (List (ℕ × Option T)) → Type 0 = λ o. All (λ (c : ℕ × Option T). c.0 ≤ n) (unwrap_or o []) in
      subst P (sym (find_put id (changes_of hs id ++ (n, v) ∷ []) hs q)) (at (id == q))
    where
      below : (p k : ℕ) (d : ℕ × Option T) → k < length (changes_of hs p) → (get_or (changes_of hs p) k d).0 ≤ n
      below p k d lt = let h = up p k d lt in omega arith

      at : (b : Bool) → All (λ (c : ℕ × Option T). c.0 ≤ n) (unwrap_or (cond b (Some (changes_of hs id ++ (n, v) ∷ [])) (find nat_cmp q hs)) [])
      at true = All-push (λ (c : ℕ × Option T). c.0 ≤ n) (changes_of hs id) (n, v) (λ k d lt. below id k d lt) (omega arith)
      at false = λ k d lt. below q k d lt
