-- From the last point on a value stays.
use Rattle.std.proofs.Common.{◌≡◌, ℕ, ◌≤◌, List, [], ◌∷◌, cond, Option, None, refl, sym, ap, subst, ◌∙◌, arith}
use Rattle.std.specs.Prelude.{All}
use Rattle.std.proofs.lemmas.List.Elements.{All-head, All-tail}
use Rattle.timeline.specs.Values.{Changes, last_said, changes_of, value_at, last_point}
use Rattle.timeline.specs.Seen.{AreUpTo}
use Rattle.timeline.proofs.Saying.{said_by_then}

module _ {T : Type 0} where
  -- where all that is said was said up to the last point, it is the same at all later points
  said_stays : (cs : List (ℕ × Option T)) (last n m : ℕ) (older : Option T) → All (λ (c : ℕ × Option T). c.0 ≤ last) cs → last ≤ n → n ≤ m → last_said cs m older ≡ last_said cs n older
  said_stays [] last n m older all from le = refl
  said_stays (c ∷ cs) last n m older all from le =
      let first : c.0 ≤ last = All-head (λ (c : ℕ × Option T). c.0 ≤ last) c cs all in
      ap (λ b. last_said cs m (cond b c.1 older)) (said_by_then c.0 m (omega arith))
      ∙ said_stays cs last n m c.1 (All-tail (λ (c : ℕ × Option T). c.0 ≤ last) c cs all) from le
      ∙ sym (ap (λ b. last_said cs n (cond b c.1 older)) (said_by_then c.0 n (omega arith)))

  pub value_stays : (hs : List (ℕ × List (ℕ × Option T))) (last : ℕ) (t : Changes T) → record { by_id = hs; last = last } ≡ t → AreUpTo last hs
      → (q n m : ℕ) → last_point t ≤ n → n ≤ m → value_at t q m ≡ value_at t q n
  unfolding value_at
  value_stays hs last t is up q n m = subst (λ (x : Changes T). last_point x ≤ n → n ≤ m → value_at x q m ≡ value_at x q n) is (λ from le. said_stays (changes_of hs q) last n m None (up q) from le)
