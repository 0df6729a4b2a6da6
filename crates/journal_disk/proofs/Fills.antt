-- A read into the rest of a slice.
use Rattle.std.proofs.Common.{◌≡◌, inl, inr, ◌<◌, ℕ, Bool, true, false, ◌+◌, ◌-◌, ◌≤◌, List, ◌++◌, length, get_or, take, drop, sym, ◌∙◌, ap, arith, length-append, append_assoc}
use Rattle.std.proofs.lemmas.List.{get_or-take, get_or-drop, take-append-le, drop-drop, length-take-le}
use Rattle.std.proofs.Math.Seq.{take-append-add, take-add}
use Rattle.std.proofs.lemmas.Nat.{be_bytes_4}
use Rattle.journal_disk.specs.Finding.{IsNext}
use Rattle.std.specs.Int.{from_be_bytes, w32}
use Rattle.journal_disk.specs.Format.{Begins}
use Rattle.journal_disk.specs.Reading.{IsFilled}
use borrow.Rule.Slice.PartMut.{put_mid, post_of}

module _ (f n at : ℕ) (into sub b : List ℕ) (within : f ≤ length into) (bound : n ≤ length sub) where
  front : length (take f into) ≡ f
  front = length-take-le f into within

  abbrev rest : List ℕ
  rest = post_of f (length into - f) into

  pub fills_within : f + n ≤ length (put_mid f (length into - f) into sub)
  fills_within = omega (arith, front, bound, length-append (take f into) (sub ++ rest), length-append sub rest)

  pub fills_more : take f into ≡ take f (drop at b) → take n sub ≡ take n (drop (at + f) b) → take (f + n) (put_mid f (length into - f) into sub) ≡ take (f + n) (drop at b)
  fills_more first more =
      ap (λ (k : ℕ). take (k + n) (take f into ++ (sub ++ rest))) (sym front)
      ∙ take-append-add (take f into) (sub ++ rest) n
      ∙ ap (λ (l : List ℕ). take f into ++ l) (take-append-le n sub rest bound ∙ more ∙ ap (λ (l : List ℕ). take n l) (sym (drop-drop f at b)))
      ∙ ap (λ (l : List ℕ). l ++ take n (drop f (drop at b))) first
      ∙ sym (take-add f n (drop at b))

pub filled_true : (at : ℕ) (b into : List ℕ) (whole : Bool) → whole ≡ true → IsFilled at b into whole → into ≡ take (length into) (drop at b)
filled_true at b into true is filled = filled.1
filled_true at b into false is filled = cc

filled_within : (at : ℕ) (b into : List ℕ) (whole : Bool) → whole ≡ true → IsFilled at b into whole → 0 < length into → at + length into ≤ length b
filled_within at b into true is (inl fits, same) some = fits
filled_within at b into true is (inr none, same) some = absurd (omega arith)
filled_within at b into false is filled some = cc

pub next_from : (place : ℕ) (b size into : List ℕ) (n : ℕ) (first second : Bool) → n ≡ from_be_bytes w32 size → length size ≡ 4 → ((i : ℕ) → get_or size i 0 < 256) → first ≡ true → IsFilled (place + 1) b size first
    → length into ≡ 1 → second ≡ true → IsFilled (place + 5 + n) b into second → IsNext place b n (get_or into 0 0)
next_from place b size into n first second is four small one filled_size single two filled_into =
    let size_is = filled_true (place + 1) b size first one filled_size in
    let into_is = filled_true (place + 5 + n) b into second two filled_into in
    let within = filled_within (place + 5 + n) b into second two filled_into (omega arith) in
    record {
      number = ap (λ (k : ℕ). take k (drop (place + 1) b)) (sym four) ∙ sym size_is ∙ sym (be_bytes_4 size n four small is);
      within = omega arith;
      gate_is =
          ap (λ (l : List ℕ). get_or l 0 0) into_is ∙ get_or-take (length into) (drop (place + 5 + n) b) 0 0 (omega arith)
          ∙ get_or-drop (place + 5 + n) b 0 0 ∙ ap (λ (k : ℕ). get_or b k 0) (omega arith);
    }

pub less_begins : (front behind b : List ℕ) → Begins (front ++ behind) b → Begins front b
less_begins front behind b begins = (behind ++ begins.0, begins.1 ∙ append_assoc front behind begins.0)
