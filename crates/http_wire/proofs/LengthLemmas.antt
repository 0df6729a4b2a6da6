-- The number that a text writes behind another number, and the reading of it digit by digit.
use Rattle.std.proofs.Common.{◌≡◌, ℕ, ◌+◌, ◌*◌, ◌<◌, ◌≤◌, inl, inr, true, cond, ◌&&◌, List, [], ◌∷◌, length, get_or, drop, drop-cons, suc, Option, Some, None, refl, sym, ap, ◌∙◌, arith}
use Rattle.std.specs.List.{list_all}
use Rattle.std.specs.Char.{is_ascii_digit, digit_value}
use Rattle.std.specs.Str.Parse.{digits_value_after}
use Rattle.std.specs.Prelude.{nat_le}
use Rattle.std.proofs.lemmas.Bool.{cases_Bool, and_from, and_parts, and_left, and_right, and_cases, lt-leb, le-leb, lt-ltb, leb-false, cond-true, cond-false}
use Rattle.http_wire.specs.declared.fields.TheConstants.{BODY_MOST}
use Rattle.http_wire.specs.Fields.{with_digit, length_of_text}

-- the number of the text behind n, where it is digits and the limit is kept
abbrev pub from : ℕ → List ℕ → Option ℕ
from n text = cond (list_all is_ascii_digit text && nat_le (digits_value_after 10 n text) BODY_MOST) (Some (digits_value_after 10 n text)) None

-- more digits never make it less
grows : (n : ℕ) (text : List ℕ) → n ≤ digits_value_after 10 n text
grows n [] = omega arith
grows n (d ∷ ds) = omega (arith, grows (n * 10 + digit_value d) ds)

pub from_nothing : (n : ℕ) → n ≤ BODY_MOST → from n [] ≡ Some n
from_nothing n fits = cond-true (true && nat_le n BODY_MOST) (Some n) None (and_from true (nat_le n BODY_MOST) refl (le-leb n BODY_MOST fits))

-- what a first byte decides: one more digit, or the end of the search
pub from_more : (n d : ℕ) (ds : List ℕ) (m : ℕ) → with_digit n d ≡ Some m → from n (d ∷ ds) ≡ from m ds
from_more n d ds m is =
    let more = n * 10 + digit_value d in
    let fits = nat_le more BODY_MOST in
    elim (cases_Bool (is_ascii_digit d && fits)) [
      | inl both ↦
          let some : Some more ≡ Some m = sym (cond-true (is_ascii_digit d && fits) (Some more) None both) ∙ is in
          let same : more ≡ m = cc in
          let digit : is_ascii_digit d ≡ true = (and_parts (is_ascii_digit d) fits both).0 in
          rw (digit, same) refl
      | inr one ↦
          let none : None ≡ Some m = sym (cond-false (is_ascii_digit d && fits) (Some more) None one) ∙ is in
          absurd cc
    ]

from_none : (n d : ℕ) (ds : List ℕ) → with_digit n d ≡ None → from n (d ∷ ds) ≡ None
from_none n d ds is =
    let more = n * 10 + digit_value d in
    let fits = nat_le more BODY_MOST in
    let whole = digits_value_after 10 more ds in
    elim (cases_Bool (is_ascii_digit d && fits)) [
      | inl both ↦
          let some : Some more ≡ None = sym (cond-true (is_ascii_digit d && fits) (Some more) None both) ∙ is in
          absurd cc
      | inr one ↦ cond-false ((is_ascii_digit d && list_all is_ascii_digit ds) && nat_le whole BODY_MOST) (Some whole) None (elim (and_cases (is_ascii_digit d) fits one) [
        | inl letter ↦ and_left (is_ascii_digit d && list_all is_ascii_digit ds) (nat_le whole BODY_MOST) (and_left (is_ascii_digit d) (list_all is_ascii_digit ds) letter)
        | inr large ↦ and_right (is_ascii_digit d && list_all is_ascii_digit ds) (nat_le whole BODY_MOST) (lt-leb whole BODY_MOST (omega (arith, leb-false more BODY_MOST large, grows more ds)))
      ])
    ]

-- a text with a byte is read from its start
pub from_start : (text : List ℕ) → 0 < length text → from 0 text ≡ length_of_text text
from_start text some = rw (lt-ltb 0 (length text) some) refl

-- where a byte ends the search, the whole text has no length
pub none_at : (n i : ℕ) (text : List ℕ) → i < length text → with_digit n (get_or text i 0) ≡ None → from n (drop i text) ≡ length_of_text text → None ≡ length_of_text text
none_at n i text inside none same = sym (ap (from n) (drop-cons text i 0 inside) ∙ from_none n (get_or text i 0) (drop (suc i) text) none) ∙ same
