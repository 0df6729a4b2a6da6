-- One more reading of a clock in memory.
use Rattle.std.proofs.Common.{◌≡◌, ℕ, suc, ◌+◌, ◌<◌, ◌≤◌, min, cond, List, [], ◌∷◌, ◌++◌, Option, Some, None, inl, inr, sym, ap, ◌∙◌, arith, eqb}
use Rattle.std.proofs.lemmas.Bool.{ne_eqb, eq-eqb, cases_lt}
use Rattle.sysapi_base.specs.Outside.{Grows}
use Rattle.sysapi_base.specs.InMemory.{reading, readings_of}

module _ (first step : ℕ) where
  abbrev told : ℕ → Option (List ℕ)
  told k = cond (eqb k 18446744073709551615) None (Some (readings_of first step k))

  told_end : (k : ℕ) → k ≡ 18446744073709551615 → told k ≡ None
  told_end k is = ap (λ b. cond b None (Some (readings_of first step k))) (eq-eqb k 18446744073709551615 is)

  told_before : (k : ℕ) → k < 18446744073709551615 → told k ≡ Some (readings_of first step k)
  told_before k lt = ap (λ b. cond b None (Some (readings_of first step k))) (ne_eqb k 18446744073709551615 (λ is. omega arith))

  -- a count that rises by one, up to its last value, tells the reading of that number
  pub reads_on : (k now r : ℕ) → k ≤ 18446744073709551615 → now ≡ min (k + 1) 18446744073709551615 → r ≡ reading first step k → Grows (told k) (told now) (r ∷ [])
  reads_on k now r fits is value =
      elim (cases_lt k 18446744073709551615) [
        | inl lt ↦ elim (cases_lt (k + 1) 18446744073709551615) [
          | inl before ↦
              let next : now ≡ suc k = omega arith in
              rw (told_before k lt, told_before now (omega arith))
              (ap (readings_of first step) next ∙ ap (λ (t : ℕ). readings_of first step k ++ t ∷ []) (sym value))
          | inr end ↦ rw (told_before k lt, told_end now (omega arith)) tt
        ]
        | inr end ↦ rw (told_end k (omega arith)) (told_end now (omega arith))
      ]
