-- The header that was read.
use Rattle.std.proofs.Common.{◌≡◌, inl, inr, Bool, true, false, ℕ, zero, suc, ◌+◌, ◌<◌, ◌≤◌, List, [], ◌∷◌, ◌++◌, length, get_or, take, drop, refl, sym, ◌∙◌, ap, arith, length-drop, take-append-drop}
use Rattle.std.proofs.lemmas.List.{take-take, get_or-take, get_or-drop, get_or_past, drop_more, drop_all, drop-drop, length-take-le}
use Rattle.std.proofs.lemmas.Nat.{be_bytes_8}
use Rattle.std.proofs.lemmas.Bool.{cases_lt}
use Rattle.std.specs.Prelude.{codes}
use Rattle.std.specs.Int.{to_be_bytes, w64}
use Rattle.journal_disk.specs.Format.{Begins, header, header_of}
use Rattle.journal_disk.specs.Opening.{IsHead, HasHead}
use Rattle.journal_disk.specs.Finding.{number_in}
use Rattle.journal_disk.specs.Reading.{IsFilled}
use Rattle.journal_disk.proofs.Fills.{filled_true}

module _ (b into : List ℕ) (whole : Bool) (filled : IsFilled 0 b into whole) (long : length into ≡ 17) where
  pub too_short : whole ≡ false → HasHead b → ⊥
  too_short is head = short whole is filled
    where
      short : (w : Bool) → w ≡ false → IsFilled 0 b into w → ⊥
      short true is f = cc
      short false is f = let enough = head.0 in omega arith

  module _ (is : whole ≡ true) where
    into_is : into ≡ take 17 b
    into_is = filled_true 0 b into whole is filled ∙ ap (λ (k : ℕ). take k b) long

    pub cell : (i : ℕ) → i < 17 → get_or into i 0 ≡ get_or b i 0
    cell i low = ap (λ (l : List ℕ). get_or l i 0) into_is ∙ get_or-take 17 b i 0 low

    front : take 7 into ≡ take 7 b
    front = ap (λ (l : List ℕ). take 7 l) into_is ∙ take-take 7 17 b (omega arith)

    pub has_head : IsHead into → HasHead b
    has_head head = (enough whole is filled, (sym front ∙ head.0, sym (cell 14 (omega arith)) ∙ head.1, sym (cell 15 (omega arith)) ∙ head.2))
      where
        enough : (w : Bool) → w ≡ true → IsFilled 0 b into w → 17 ≤ length b
        enough true is (inl fits, same) = omega arith
        enough true is (inr none, same) = omega arith
        enough false is f = cc

    pub no_head : (IsHead into → ⊥) → HasHead b → ⊥
    no_head none (enough, head) = none (front ∙ head.0, cell 14 (omega arith) ∙ head.1, cell 15 (omega arith) ∙ head.2)

-- seventeen bytes, cell by cell behind the text
seventeen : (l : List ℕ) → length l ≡ 17 → l ≡ take 7 l ++ (get_or l 7 0 ∷ (take 6 (drop 8 l) ++ (get_or l 14 0 ∷ (get_or l 15 0 ∷ (get_or l 16 0 ∷ [])))))
seventeen l long =
    let last : drop 16 l ≡ get_or l 16 0 ∷ [] = drop_more l 16 0 (omega arith) ∙ ap (λ (t : List ℕ). get_or l 16 0 ∷ t) (drop_all 17 l (omega arith)) in
    let two : drop 15 l ≡ get_or l 15 0 ∷ (get_or l 16 0 ∷ []) = drop_more l 15 0 (omega arith) ∙ ap (λ (t : List ℕ). get_or l 15 0 ∷ t) last in
    let three : drop 14 l ≡ get_or l 14 0 ∷ (get_or l 15 0 ∷ (get_or l 16 0 ∷ [])) = drop_more l 14 0 (omega arith) ∙ ap (λ (t : List ℕ). get_or l 14 0 ∷ t) two in
    let back : drop 8 l ≡ take 6 (drop 8 l) ++ (get_or l 14 0 ∷ (get_or l 15 0 ∷ (get_or l 16 0 ∷ []))) =
    sym (take-append-drop 6 (drop 8 l)) ∙ ap (λ (t : List ℕ). take 6 (drop 8 l) ++ t) (drop-drop 6 8 l ∙ three) in
    let rest : drop 7 l ≡ get_or l 7 0 ∷ (take 6 (drop 8 l) ++ (get_or l 14 0 ∷ (get_or l 15 0 ∷ (get_or l 16 0 ∷ [])))) =
    drop_more l 7 0 (omega arith) ∙ ap (λ (t : List ℕ). get_or l 7 0 ∷ t) back in
    sym (take-append-drop 7 l) ∙ ap (λ (t : List ℕ). take 7 l ++ t) rest

module _ (l : List ℕ) (long : length l ≡ 17) (small : (i : ℕ) → get_or l i 0 < 256) where
  six : length (take 6 (drop 8 l)) ≡ 6
  six = length-take-le 6 (drop 8 l) (omega (arith, length-drop 8 l))

  small_six : (i : ℕ) → get_or (take 6 (drop 8 l)) i 0 < 256
  small_six i = elim (cases_lt i 6) [
    | inl low ↦ let at = get_or-take 6 (drop 8 l) i 0 low ∙ get_or-drop 8 l i 0 in omega (arith, at, small (8 + i))
    | inr past ↦ omega (arith, get_or_past (take 6 (drop 8 l)) i 0 (omega (arith, six)))
  ]

  small_eight : (i : ℕ) → get_or (0 ∷ 0 ∷ take 6 (drop 8 l)) i 0 < 256
  small_eight zero = omega arith
  small_eight (suc zero) = omega arith
  small_eight (suc (suc i)) = small_six i

  number_back : drop 2 (to_be_bytes w64 (number_in l)) ≡ take 6 (drop 8 l)
  unfolding number_in
  number_back = ap (λ (t : List ℕ). drop 2 t) (be_bytes_8 (0 ∷ 0 ∷ take 6 (drop 8 l)) (number_in l) (omega (arith, six)) small_eight refl)

  pub header_read : IsHead l → get_or l 7 0 ≡ 1 → l ≡ header (number_in l) ++ get_or l 16 0 ∷ []
  unfolding header_of
  header_read head version =
      seventeen l long
      ∙ ap (λ (t : List ℕ). t ++ (get_or l 7 0 ∷ (take 6 (drop 8 l) ++ (get_or l 14 0 ∷ (get_or l 15 0 ∷ (get_or l 16 0 ∷ [])))))) head.0
      ∙ ap (λ (v : ℕ). codes "SYSAPIJ" ++ (v ∷ (take 6 (drop 8 l) ++ (get_or l 14 0 ∷ (get_or l 15 0 ∷ (get_or l 16 0 ∷ [])))))) version
      ∙ ap (λ (t : List ℕ). codes "SYSAPIJ" ++ (1 ∷ (t ++ (get_or l 14 0 ∷ (get_or l 15 0 ∷ (get_or l 16 0 ∷ [])))))) (sym number_back)
      ∙ ap (λ (x : ℕ). codes "SYSAPIJ" ++ (1 ∷ (drop 2 (to_be_bytes w64 (number_in l)) ++ (x ∷ (get_or l 15 0 ∷ (get_or l 16 0 ∷ [])))))) head.1
      ∙ ap (λ (x : ℕ). codes "SYSAPIJ" ++ (1 ∷ (drop 2 (to_be_bytes w64 (number_in l)) ++ (0 ∷ (x ∷ (get_or l 16 0 ∷ [])))))) head.2

pub head_begins : (b into : List ℕ) (whole : Bool) → whole ≡ true → IsFilled 0 b into whole → length into ≡ 17 → ((i : ℕ) → get_or into i 0 < 256) → IsHead into → get_or into 7 0 ≡ 1
    → Begins (header (number_in into) ++ get_or into 16 0 ∷ []) b
head_begins b into whole is filled long small head version =
    let all = filled_true 0 b into whole is filled in (
      drop (length into) b,
      sym (take-append-drop (length into) b) ∙ ap (λ (l : List ℕ). l ++ drop (length into) b) (sym all ∙ header_read into long small head version),
    )
