-- Payloads that are read and spelled.
use Rattle.std.proofs.Common.{◌≡◌, ℕ, ◌≤◌, Bool, true, false, cond, nat_le, List, [], ◌∷◌, Option, Some, None, option_and_then, IsSome, Result, Ok, Err, IfOk, refl, sym, ap, subst, ◌∙◌, arith, ◌||◌, ◌&&◌}
use Rattle.std.specs.Prelude.{not, codes, bytes_eq, is_some, is_none, IsTrue, ◌↔◌}
use Rattle.std.proofs.lemmas.Bool.Decides.{nat_tests}
use Rattle.std.proofs.lemmas.Slice.Eq.{bytes_eq-Decides}
use Rattle.std.specs.Cmp.{first_so, second_so}
use Rattle.doc_value.specs.Document.{Document, null, truth, whole, text, list, object, Fields, no_fields, field, entries, fields_of, field_at, depth, HasRange, IsSound, IsProper}
use Rattle.doc_value.specs.Data.{compact}
use Rattle.doc_value.specs.Read.{reading}
use Rattle.doc_value.specs.Reference.{reference}
use Rattle.doc_value.specs.Seen.{document}
use Rattle.doc_value.specs.declared.doc.Doc.{Doc}
use Rattle.doc_value.specs.declared.doc.Doc.TheVariants as doc
use Rattle.doc_value.specs.declared.error.DocError.{DocError}
use Rattle.doc_value.proofs.RoundTrip.{reading_compact}
use Rattle.api_records.specs.Spelling.{text_bytes, document_bytes}
use Rattle.api_records.specs.Storable.{payload_depth, IsObject, IsPayload}
use Rattle.entry_bytes.specs.declared.error.DecodeError.{DecodeError}
use Rattle.entry_bytes.specs.Sound.{IsKept}
use Rattle.entry_bytes.specs.Reading.{has_right_id, is_object, is_payload, if_payload, Gives, if_ok, payload_in, slice_at, document_at}
use Rattle.entry_bytes.proofs.Parts.{chained, provided, Reads, judged_reads}
use Rattle.entry_bytes.proofs.Fields.{IsAny, slice_reads}

fields_back : (fs : Fields) → fields_of (entries fs) ≡ fs
fields_back no_fields = refl
fields_back (field k d fs) = ap (field k d) (fields_back fs)

entries_back : (es : List (List ℕ × Document)) → entries (fields_of es) ≡ es
entries_back [] = refl
entries_back (e ∷ es) = ap (λ l. e ∷ l) (entries_back es)

-- a payload that was read has this text
if_payload_is : (t : List ℕ) (x : Document) (d : Doc) → if_payload t x ≡ Some d → t ≡ compact (document d)
if_payload_is t null d e = absurd cc
if_payload_is t (truth b) d e = absurd cc
if_payload_is t (whole z) d e = absurd cc
if_payload_is t (text s) d e = absurd cc
if_payload_is t (list ds) d e = absurd cc
if_payload_is t (object fs) d e =
    let g = provided (is_payload (object fs) && bytes_eq (compact (object fs)) t) (doc.Object (entries fs)) d e in
    let same : compact (object fs) ≡ t = (bytes_eq-Decides (compact (object fs)) t).0 (second_so (is_payload (object fs)) (bytes_eq (compact (object fs)) t) g.0) in
    sym same ∙ ap (λ (gs : Fields). compact (object gs)) (sym (fields_back fs)) ∙ ap (λ (x : Doc). compact (document x)) g.1

payload_is : (t : List ℕ) (d : Doc) → payload_in t ≡ Some d → t ≡ compact (document d)
payload_is t d e =
    let x = chained (if_payload t) (if_ok (reading t)) d e in
    if_payload_is t x.0 d x.2

-- ---- and again

all_so : (a b c : Bool) → a ≡ true → b ≡ true → c ≡ true → (a && (b && c)) ≡ true
all_so true true true p q r = refl
all_so true true false p q r = r
all_so true false c p q r = q
all_so false b c p q r = p

object_so : (d : Document) → IsObject d → is_object d ≡ true
object_so (object fs) h = refl
object_so null h = absurd h
object_so (truth b) h = absurd h
object_so (whole z) h = absurd h
object_so (text s) h = absurd h
object_so (list ds) h = absurd h

right : (o : Option Document) (r : Option ℕ) → (IsSome o → IsSome r) → (is_none o || is_some r) ≡ true
right None r h = refl
right (Some d) r h = h refl

shallow_so : (d : Document) → depth d ≤ payload_depth → nat_le (depth d) payload_depth ≡ true
shallow_so d h = grind (arith, nat_tests)

payload_so : (d : Document) → IsPayload d → is_payload d ≡ true
payload_so d h =
    all_so (is_object d) (nat_le (depth d) payload_depth) (has_right_id d) (object_so d h.is_object) (shallow_so d h.shallow)
    (right (field_at (codes "@id") d) (reference d) h.named)

taken : (a b : Bool) (x y : Doc) → a ≡ true → b ≡ true → x ≡ y → cond (a && b) (Some x) None ≡ Some y
taken true true x y p q e = ap Some e
taken true false x y p q e = absurd cc
taken false b x y p q e = absurd cc

object_again : (es : List (List ℕ × Document)) (t : List ℕ) → is_payload (object (fields_of es)) ≡ true → compact (object (fields_of es)) ≡ t → if_payload t (object (fields_of es)) ≡ Some (doc.Object es)
object_again es t is same =
    let fs = fields_of es in
    taken (is_payload (object fs)) (bytes_eq (compact (object fs)) t) (doc.Object (entries fs)) (doc.Object es) is ((bytes_eq-Decides (compact (object fs)) t).1 same)
    (ap (λ (l : List (List ℕ × Document)). doc.Object l) (entries_back es))

payload_again : (d : Doc) → IsKept d → payload_in (compact (document d)) ≡ Some d
payload_again (doc.Object es) kept =
    let d = object (fields_of es) in
    ap (λ (r : Result Document DocError). option_and_then (if_payload (compact d)) (if_ok r)) (reading_compact d kept.0.sound kept.1)
    ∙ object_again es (compact d) (payload_so d kept.0) refl
payload_again doc.Null kept = absurd kept.0.is_object
payload_again (doc.Bool b) kept = absurd kept.0.is_object
payload_again (doc.Whole z) kept = absurd kept.0.is_object
payload_again (doc.Text s) kept = absurd kept.0.is_object
payload_again (doc.List ds) kept = absurd kept.0.is_object

pub document_reads : Reads document_at document_bytes IsAny IsKept
document_reads = judged_reads payload_in slice_at text_bytes IsAny IsAny slice_reads (λ d. compact (document d)) IsAny IsKept (λ t d any e. (payload_is t d e, tt)) payload_again (λ d kept lt. tt)

-- ---- what the code finds

-- a test of numbers and depth is one of depth where the numbers are in range
pub shallow_means : (b : Bool) (d : Document) → IsSound d → (IsTrue b ↔ (HasRange d × (depth d ≤ payload_depth))) → b ≡ nat_le (depth d) payload_depth
shallow_means true d sound means = sym (shallow_so d (means.0 refl).1)
shallow_means false d sound means = not_so (nat_le (depth d) payload_depth) refl
  where
    not_so : (c : Bool) → nat_le (depth d) payload_depth ≡ c → false ≡ c
    not_so false e = refl
    not_so true e = means.1 (sound.range, grind (arith, nat_tests))

is_so : (b : Bool) → not b ≡ false → b ≡ true
is_so true e = refl
is_so false e = absurd cc

pub same_bytes : (w t : List ℕ) → not (bytes_eq w t) ≡ false → w ≡ t
same_bytes w t e = (bytes_eq-Decides w t).0 (is_so (bytes_eq w t) e)

pub payload_checked : (t : List ℕ) (d : Doc) → is_payload (document d) ≡ true → compact (document d) ≡ t → if_payload t (document d) ≡ Some d
payload_checked t (doc.Object es) is same = object_again es t is same
payload_checked t doc.Null is same = absurd cc
payload_checked t (doc.Bool b) is same = absurd cc
payload_checked t (doc.Whole z) is same = absurd cc
payload_checked t (doc.Text s) is same = absurd cc
payload_checked t (doc.List ds) is same = absurd cc

-- ---- what was checked is kept

named : (o : Option Document) (r : Option ℕ) → (is_none o || is_some r) ≡ true → IsSome o → IsSome r
named None r e h = absurd cc
named (Some d) r e h = e

if_payload_kept : (t : List ℕ) (x : Document) (d : Doc) → document d ≡ x → IsSound x → IsProper x → if_payload t x ≡ Some d → IsKept d
if_payload_kept t (object fs) d is sound proper e =
    let g = provided (is_payload (object fs) && bytes_eq (compact (object fs)) t) (doc.Object (entries fs)) d e in
    let all : is_payload (object fs) ≡ true = first_so (is_payload (object fs)) (bytes_eq (compact (object fs)) t) g.0 in
    let less : nat_le (depth (object fs)) payload_depth ≡ true = first_so (nat_le (depth (object fs)) payload_depth) (has_right_id (object fs)) all in
    let id : has_right_id (object fs) ≡ true = second_so (nat_le (depth (object fs)) payload_depth) (has_right_id (object fs)) all in
    let payload : IsPayload (object fs) = record { is_object = tt; sound = sound; shallow = grind (arith, nat_tests); named = named (field_at (codes "@id") (object fs)) (reference (object fs)) id } in
    subst (λ (y : Document). IsPayload y × IsProper y) (sym is) (payload, proper)
if_payload_kept t null d is sound proper e = absurd cc
if_payload_kept t (truth b) d is sound proper e = absurd cc
if_payload_kept t (whole z) d is sound proper e = absurd cc
if_payload_kept t (text s) d is sound proper e = absurd cc
if_payload_kept t (list ds) d is sound proper e = absurd cc

pub result_kept : (r : Result Doc DecodeError) (t : List ℕ) (x : Doc) → IsSound (document x) → IsProper (document x)
    → Gives (λ (d : Doc). d) r (if_payload t (document x)) → IfOk r (λ d. d ≡ x) → IfOk r IsKept
result_kept (Ok d) t x sound proper given same = if_payload_kept t (document x) d (ap document same) sound proper given
result_kept (Err why) t x sound proper given same = tt
