-- Reading parts one after the other, as a loop does.
use Rattle.std.proofs.Common.{◌≡◌, ℕ, suc, ◌-◌, ◌+◌, ◌≤◌, ◌<◌, List, [], ◌∷◌, ◌++◌, Option, Some, None, option_map, option_and_then, refl, sym, ap, ◌∙◌, append_assoc, arith}
use Rattle.std.proofs.lemmas.List.{append-nil}
use Rattle.entry_bytes.specs.declared.error.DecodeError.{DecodeError}
use Rattle.entry_bytes.specs.declared.error.DecodeError.TheVariants.{NotAnEntry, Memory}
use Rattle.entry_bytes.specs.Reading.{Reader, Fails, repeated_at}

-- what was read before, and what is still read
abbrev pub with_front : {A : Type 0} → List A → Option (List A × List ℕ) → Option (List A × List ℕ)
with_front front read = option_map (λ x. (front ++ x.0, x.1)) read

module _ {A : Type 0} (part : Reader A) where
  regroup : (front : List A) (a : A) (read : Option (List A × List ℕ))
      → with_front front (option_map (λ (x : (A × List A) × List ℕ). (x.0.0 ∷ x.0.1, x.1)) (option_map (λ (y : List A × List ℕ). ((a, y.0), y.1)) read)) ≡ with_front (front ++ a ∷ []) read
  regroup front a None = refl
  regroup front a (Some x) = ap (λ (l : List A). Some (l, x.1)) (sym (append_assoc front (a ∷ []) x.0))

  abbrev stepped : ℕ → Option (A × List ℕ) → Option (List A × List ℕ)
  stepped n first = option_map (λ (x : (A × List A) × List ℕ). (x.0.0 ∷ x.0.1, x.1)) (option_and_then (λ (x : A × List ℕ). option_map (λ (y : List A × List ℕ). ((x.0, y.0), y.1)) (repeated_at part n x.1)) first)

  pub goes_on : (front : List A) (count i : ℕ) (bytes : List ℕ) (a : A) (after : List ℕ) (total : Option (List A × List ℕ)) → i < count → part bytes ≡ Some (a, after)
      → with_front front (repeated_at part (count - i) bytes) ≡ total → with_front (front ++ a ∷ []) (repeated_at part (count - (i + 1)) after) ≡ total
  goes_on front count i bytes a after total lt h so_far =
      let k : count - i ≡ suc (count - (i + 1)) = omega arith in
      let one = ap (λ (n : ℕ). with_front front (repeated_at part n bytes)) k in
      let two = ap (λ (o : Option (A × List ℕ)). with_front front (stepped (count - (i + 1)) o)) h in
      sym (regroup front a (repeated_at part (count - (i + 1)) after)) ∙ sym two ∙ sym one ∙ so_far

  pub ends : (e : DecodeError) (front : List A) (count i : ℕ) (bytes : List ℕ) (total : Option (List A × List ℕ)) → i < count → Fails e (part bytes)
      → with_front front (repeated_at part (count - i) bytes) ≡ total → Fails e total
  ends Memory front count i bytes total lt h so_far = tt
  ends NotAnEntry front count i bytes total lt h so_far =
      let k : count - i ≡ suc (count - (i + 1)) = omega arith in
      let one = ap (λ (n : ℕ). with_front front (repeated_at part n bytes)) k in
      let two = ap (λ (o : Option (A × List ℕ)). with_front front (stepped (count - (i + 1)) o)) h in
      sym so_far ∙ one ∙ two

  pub is_done : (front : List A) (count i : ℕ) (bytes : List ℕ) (total : Option (List A × List ℕ)) → count ≤ i → with_front front (repeated_at part (count - i) bytes) ≡ total → total ≡ Some (front, bytes)
  is_done front count i bytes total le so_far =
      let k : count - i ≡ 0 = omega arith in
      sym so_far ∙ ap (λ (n : ℕ). with_front front (repeated_at part n bytes)) k ∙ ap (λ (l : List A). Some (l, bytes)) (append-nil front)
