-- What the tests of a document's limits say of it.
use Rattle.std.proofs.Common.{◌≡◌, ℕ, suc, ◌-◌, ◌≤◌, ◌^◌, ℤ, pos, negsuc, max, Bool, true, false, ltb, ◌&&◌, arith, refl}
use Rattle.std.specs.Prelude.{IsTrue, ◌↔◌}
use Rattle.std.proofs.lemmas.Bool.{and_parts, lt-ltb, ltb-true}
use Rattle.doc_value.specs.Document.{Document, null, truth, whole, text, list, object, Members, no_members, member, Fields, no_fields, field, depth, members_depth, fields_depth, IsInRange, HasRange, MembersHaveRange, FieldsHaveRange}
use Rattle.doc_value.specs.Within.{is_in_range, is_within, are_within, fields_are_within}

both : (a b : Bool) → a ≡ true → b ≡ true → (a && b) ≡ true
both true true p q = refl
both true false p q = q
both false b p q = p

in_range : (z : ℤ) → is_in_range z ≡ true → IsInRange z
in_range (pos n) h = ltb-true n (2 ^ 64) h
in_range (negsuc n) h = ltb-true n (2 ^ 63) h

range_in : (z : ℤ) → IsInRange z → is_in_range z ≡ true
range_in (pos n) h = lt-ltb n (2 ^ 64) h
range_in (negsuc n) h = lt-ltb n (2 ^ 63) h

mutual
  limits : (n : ℕ) (d : Document) → is_within n d ≡ true → HasRange d × (depth d ≤ n)
  limits n null h = (tt, omega arith)
  limits n (truth b) h = (tt, omega arith)
  limits n (whole z) h = (in_range z h, omega arith)
  limits n (text s) h = (tt, omega arith)
  limits n (list ds) h =
      let p = and_parts (ltb 0 n) (are_within (n - 1) ds) h in
      let rest = all_limits (n - 1) ds p.1 in
      (rest.0, omega (arith, ltb-true 0 n p.0, rest.1))
  limits n (object fs) h =
      let p = and_parts (ltb 0 n) (fields_are_within (n - 1) fs) h in
      let rest = field_limits (n - 1) fs p.1 in
      (rest.0, omega (arith, ltb-true 0 n p.0, rest.1))

  all_limits : (n : ℕ) (ds : Members) → are_within n ds ≡ true → MembersHaveRange ds × (members_depth ds ≤ n)
  all_limits n no_members h = (tt, omega arith)
  all_limits n (member d ds) h =
      let p = and_parts (is_within n d) (are_within n ds) h in
      let first = limits n d p.0 in
      let rest = all_limits n ds p.1 in
      ((first.0, rest.0), omega (arith, first.1, rest.1))

  field_limits : (n : ℕ) (fs : Fields) → fields_are_within n fs ≡ true → FieldsHaveRange fs × (fields_depth fs ≤ n)
  field_limits n no_fields h = (tt, omega arith)
  field_limits n (field k d fs) h =
      let p = and_parts (is_within n d) (fields_are_within n fs) h in
      let first = limits n d p.0 in
      let rest = field_limits n fs p.1 in
      ((first.0, rest.0), omega (arith, first.1, rest.1))

mutual
  tested : (n : ℕ) (d : Document) → HasRange d → depth d ≤ n → is_within n d ≡ true
  tested n null h le = refl
  tested n (truth b) h le = refl
  tested n (whole z) h le = range_in z h
  tested n (text s) h le = refl
  tested n (list ds) h le =
      let deeper : suc (members_depth ds) ≤ n = le in
      both (ltb 0 n) (are_within (n - 1) ds) (lt-ltb 0 n (omega arith)) (all_tested (n - 1) ds h (omega arith))
  tested n (object fs) h le =
      let deeper : suc (fields_depth fs) ≤ n = le in
      both (ltb 0 n) (fields_are_within (n - 1) fs) (lt-ltb 0 n (omega arith)) (field_tested (n - 1) fs h (omega arith))

  all_tested : (n : ℕ) (ds : Members) → MembersHaveRange ds → members_depth ds ≤ n → are_within n ds ≡ true
  all_tested n no_members h le = refl
  all_tested n (member d ds) h le =
      let deepest : max (depth d) (members_depth ds) ≤ n = le in
      both (is_within n d) (are_within n ds) (tested n d h.0 (omega arith)) (all_tested n ds h.1 (omega arith))

  field_tested : (n : ℕ) (fs : Fields) → FieldsHaveRange fs → fields_depth fs ≤ n → fields_are_within n fs ≡ true
  field_tested n no_fields h le = refl
  field_tested n (field k d fs) h le =
      let deepest : max (depth d) (fields_depth fs) ≤ n = le in
      both (is_within n d) (fields_are_within n fs) (tested n d h.0 (omega arith)) (field_tested n fs h.1 (omega arith))

pub within_means : (b : Bool) (n : ℕ) (d : Document) → b ≡ is_within n d → IsTrue b ↔ (HasRange d × (depth d ≤ n))
within_means b n d e = rw e ((limits n d), (λ p. tested n d p.0 p.1))
