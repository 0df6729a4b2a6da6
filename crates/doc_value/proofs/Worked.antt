-- A text and its document, computed. The names are not in order, and the compact text puts them so.
use Rattle.std.proofs.Common.{◌≡◌, ℕ, List, [], ◌∷◌, codes, length, true, Some, None, Ok, Err, pos, negsuc, refl, ap, ◌∙◌}
use Rattle.std.specs.Str.{is_utf8, chars}
use Rattle.std.specs.Fmt.{digits}
use Rattle.serde_json.proofs.OnLiterals.{serde_json_on_literals}
use Rattle.sysapi_base.specs.Id.{id_of}
use Rattle.doc_value.specs.Document.{Document, null, truth, whole, text, list, object, members_of, fields_of}
use Rattle.doc_value.specs.Data.{compact}
use Rattle.doc_value.specs.Read.{reading}
use Rattle.doc_value.specs.Reference.{references, if_one}
use Rattle.doc_value.specs.declared.error.DocError.TheVariants as errors

abbrev example : Document
example = object (fields_of ((codes "a", list (members_of (truth true ∷ null ∷ []))) ∷ (codes "b", whole (pos 1)) ∷ []))

pub read_so : reading (codes "{\"b\":1,\"a\":[true,null]}") ≡ Ok example
unfolding reading serde_json_on_literals is_utf8 chars
read_so = refl

pub written_so : compact example ≡ codes "{\"a\":[true,null],\"b\":1}"
unfolding serde_json_on_literals digits
written_so = refl

pub length_so : length (compact example) ≡ 23
unfolding serde_json_on_literals digits
length_so = refl

-- an object with this `@id`
abbrev to : List ℕ → Document
to s = object (fields_of ((codes "@id", text s) ∷ (codes "name", null) ∷ []))

pub one_reference : (s : List ℕ) (n : ℕ) → id_of s ≡ Some n → references (to s) ≡ n ∷ []
one_reference s n e = ap (λ o. if_one o []) e

-- members that are no references are passed over
pub two_references : (s t u : List ℕ) (m n : ℕ) → id_of s ≡ Some m → id_of t ≡ Some n → id_of u ≡ None
    → references (list (members_of (null ∷ to s ∷ to u ∷ list (members_of (to s ∷ [])) ∷ to t ∷ []))) ≡ m ∷ n ∷ []
two_references s t u m n a b c =
    ap (λ o. if_one o (if_one (id_of u) (if_one (id_of t) []))) a ∙ ap (λ o. m ∷ if_one o (if_one (id_of t) [])) c ∙ ap (λ o. m ∷ if_one o []) b

pub no_reference : references null ≡ []
no_reference = refl

-- the last value of a name alone counts, whether the number before it was whole or not
pub last_counts : reading (codes "{\"a\":1.5,\"a\":1}") ≡ Ok (object (fields_of ((codes "a", whole (pos 1)) ∷ [])))
unfolding reading serde_json_on_literals is_utf8 chars
last_counts = refl

pub last_not_whole : reading (codes "{\"a\":1,\"a\":1.5}") ≡ Err errors.NotWhole
unfolding reading serde_json_on_literals is_utf8 chars
last_not_whole = refl

-- minus zero is not whole, nor are the numbers next to the range
pub minus_zero : reading (codes "-0") ≡ Err errors.NotWhole
unfolding reading serde_json_on_literals is_utf8 chars
minus_zero = refl

pub above : reading (codes "18446744073709551616") ≡ Err errors.NotWhole
unfolding reading serde_json_on_literals is_utf8 chars
above = refl

pub below : reading (codes "-9223372036854775809") ≡ Err errors.NotWhole
unfolding reading serde_json_on_literals is_utf8 chars
below = refl

pub least : reading (codes "-9223372036854775808") ≡ Ok (whole (negsuc 9223372036854775807))
unfolding reading serde_json_on_literals is_utf8 chars
least = refl

pub not_utf8 : reading (255 ∷ []) ≡ Err errors.NotUtf8
unfolding reading serde_json_on_literals is_utf8 chars
not_utf8 = refl

pub no_json : reading (codes "{") ≡ Err errors.Syntax
unfolding reading serde_json_on_literals is_utf8 chars
no_json = refl
