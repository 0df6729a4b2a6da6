-- What is copied from a piece of a disk.
use Rattle.std.proofs.Common.{◌≡◌, inl, inr, ℕ, ◌+◌, ◌-◌, ◌≤◌, true, List, length, take, drop, Option, Some, sym, ◌∙◌, ap, arith}
use Rattle.std.proofs.lemmas.List.{take-take, drop-take, drop-drop}
use Rattle.std.proofs.lemmas.Bool.{cases_lt}
use Rattle.journal_disk.specs.Reading.{IsFilled, IsPiece}

inner : (k i len : ℕ) (xs : List ℕ) → i + k ≤ len → take k (drop i (take len xs)) ≡ take k (drop i xs)
inner k i len xs fits =
    let split : i + (len - i) ≡ len = omega arith in
    ap (λ (n : ℕ). take k (drop i (take n xs))) (sym split) ∙ ap (λ (l : List ℕ). take k l) (drop-take i (len - i) xs) ∙ take-take k (len - i) (drop i xs) (omega arith)

-- bytes that are taken from a piece are those of the disk
pub piece_filled : (reading : Option (List ℕ)) (from len at : ℕ) (bytes into : List ℕ) → IsPiece reading from len bytes → from ≤ at → at + length into ≤ from + len → into ≡ take (length into) (drop (at - from) bytes)
    → (b : List ℕ) → reading ≡ Some b → IsFilled at b into true
piece_filled reading from len at bytes into piece after within is b told =
    let k = length into in
    let same = piece.same b told in
    let there : from + (at - from) ≡ at = omega arith in
    let copied : into ≡ take k (drop at b) =
    is ∙ sym (inner k (at - from) len bytes (omega arith)) ∙ ap (λ (l : List ℕ). take k (drop (at - from) l)) same.0 ∙ inner k (at - from) len (drop from b) (omega arith)
    ∙ ap (λ (l : List ℕ). take k l) (drop-drop (at - from) from b ∙ ap (λ (n : ℕ). drop n b) there) in
    (elim (cases_lt 0 k) [ inl some ↦ inl (let fits = same.1 in omega arith) | inr none ↦ inr (omega arith) ], copied)

-- a piece of nothing
pub no_piece : (reading : Option (List ℕ)) (from len : ℕ) (bytes : List ℕ) → len ≡ 0 → IsPiece reading from len bytes
no_piece reading from len bytes none = record {
  size = omega arith;
  same = λ b is. (ap (λ (n : ℕ). take n bytes) none ∙ ap (λ (n : ℕ). take n (drop from b)) (sym none), omega arith);
}
