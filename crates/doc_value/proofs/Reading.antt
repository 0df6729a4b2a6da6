-- Documents that are made one after another, from the values of a list or an object.
use Rattle.std.proofs.Common.{◌≡◌, ℕ, true, false, nat_le, nat_lt, arith, subst, IsUtf8, List, [], ◌∷◌, ◌++◌, map, refl, sym, ap, ◌∙◌, Option, Some, None, option_map, option_and_then, Ok, Err, String, Global, string_bytes, string_cmp, nat_cmp, Ordering, Less, Equal, Greater, cond, Bor}
use Rattle.std.proofs.lemmas.Cmp.{nat_list_cmp_total}
use Rattle.std.proofs.lemmas.List.{map_push}
use Rattle.std.proofs.lemmas.Bool.Decides.{nat_tests}
use Rattle.std.proofs.lemmas.Str.{IsUtf8-from_is_utf8, is_utf8-from_IsUtf8}
use Rattle.std.specs.Cmp.Lexicographic.{slice_cmp}
use Rattle.std.specs.Str.{is_utf8}
use Rattle.std.specs.List.{AllByRecursion}
use Rattle.std.specs.List.Sorted.{IsStrictlySortedBy}
use Rattle.std.specs.Map.{keys_of, lookup}
use Rattle.std.specs.Option.{option_copied}
use Rattle.std.specs.FinMap.{find, put}
use Rattle.std.specs.FinMap.Entries.{by_order}
use Rattle.std.specs.Ordering.{ordering_reverse, is_eq, match_ordering}
use Rattle.std.specs.BTreeMap.{insert_entry, is_at}
use Rattle.serde_json.specs.Data as json
use Rattle.serde_json.specs.Data.{Data, Items, item, depth}
use Rattle.serde_json.specs.Read.{read}
use Rattle.serde_json.proofs.Views.{Entry}
use Rattle.doc_value.specs.declared.doc.Doc.{Doc}
use Rattle.doc_value.specs.Document.{Document, Members, no_members, member, Fields, no_fields, field, members_of, fields_of, entries, HasRange, MembersHaveRange, FieldsHaveRange, IsProper, AreProper, FieldsAreProper}
use Rattle.doc_value.specs.Seen.{document, named, all_named}
use Rattle.doc_value.specs.Data.{document_of, members_in, fields_in}
use Rattle.doc_value.specs.Document.{max_depth}
use Rattle.doc_value.specs.Read.{if_whole, reading}
use Rattle.doc_value.specs.declared.error.DocError.TheVariants as errors

-- these documents, and then those of the rest
abbrev pub members_before : List Document → Members → Members
members_before [] rest = rest
members_before (d ∷ ds) rest = member d (members_before ds rest)

abbrev pub fields_before : List (List ℕ × Document) → Fields → Fields
fields_before [] rest = rest
fields_before (e ∷ es) rest = field e.0 e.1 (fields_before es rest)

pub was_whole : {A : Type 0} (o : Option A) (a : A) → if_whole o ≡ Ok a → o ≡ Some a
was_whole None a e = cc
was_whole (Some b) a e = cc

pub is_whole : {A : Type 0} (o : Option A) (a : A) → o ≡ Some a → if_whole o ≡ Ok a
is_whole o a e = rw e refl

pub members_before_none : (ds : List Document) → members_before ds no_members ≡ members_of ds
members_before_none [] = refl
members_before_none (d ∷ ds) = ap (member d) (members_before_none ds)

members_push : (ds : List Document) (d : Document) (rest : Members) → members_before ds (member d rest) ≡ members_before (ds ++ d ∷ []) rest
members_push [] d rest = refl
members_push (e ∷ ds) d rest = ap (member e) (members_push ds d rest)

one_more_member : (ds : List Document) (d : Document) (o : Option Members) → option_map (members_before ds) (option_map (member d) o) ≡ option_map (members_before (ds ++ d ∷ [])) o
one_more_member ds d None = refl
one_more_member ds d (Some rest) = ap Some (members_push ds d rest)

pub documents_push : (docs new : List Doc) (d : Doc) → new ≡ docs ++ d ∷ [] → map document new ≡ map document docs ++ document d ∷ []
documents_push docs new d e = ap (map document) e ∙ map_push document docs d

-- one more value of a list
pub member_read : (ds : List Document) (d : Document) (v : Data) (vs : Items) → document_of v ≡ Some d
    → option_map (members_before ds) (members_in (item v vs)) ≡ option_map (members_before (ds ++ d ∷ [])) (members_in vs)
member_read ds d v vs e =
    ap (λ o. option_map (members_before ds) (option_and_then (λ f. option_map (member f) (members_in vs)) o)) e ∙ one_more_member ds d (members_in vs)

pub fields_before_none : (es : List (List ℕ × Document)) → fields_before es no_fields ≡ fields_of es
fields_before_none [] = refl
fields_before_none (e ∷ es) = ap (field e.0 e.1) (fields_before_none es)

fields_push : (es : List (List ℕ × Document)) (k : List ℕ) (d : Document) (rest : Fields) → fields_before es (field k d rest) ≡ fields_before (es ++ (k, d) ∷ []) rest
fields_push [] k d rest = refl
fields_push (e ∷ es) k d rest = ap (field e.0 e.1) (fields_push es k d rest)

one_more_field : (es : List (List ℕ × Document)) (k : List ℕ) (d : Document) (o : Option Fields) → option_map (fields_before es) (option_map (field k d) o) ≡ option_map (fields_before (es ++ (k, d) ∷ [])) o
one_more_field es k d None = refl
one_more_field es k d (Some rest) = ap Some (fields_push es k d rest)

-- one more member of an object
pub field_read : (es : List (List ℕ × Document)) (k : List ℕ) (d : Document) (v : Data) (ms : json.Members) → document_of v ≡ Some d
    → option_map (fields_before es) (fields_in (json.member k v ms)) ≡ option_map (fields_before (es ++ (k, d) ∷ [])) (fields_in ms)
field_read es k d v ms e =
    ap (λ o. option_map (fields_before es) (option_and_then (λ f. option_map (field k f) (fields_in ms)) o)) e ∙ one_more_field es k d (fields_in ms)

-- ---- a name that is above those before it goes last

abbrev pub bytes : String Global × Doc → List ℕ
bytes e = string_bytes e.0

insert_last : (es : List (String Global × Doc)) (k : String Global) (d : Doc) → AllByRecursion (λ l. slice_cmp nat_cmp l (string_bytes k) ≡ Less) (map bytes es)
    → all_named (insert_entry string_cmp es k d) ≡ all_named es ++ (string_bytes k, document d) ∷ []
insert_last [] k d h = refl
insert_last (e ∷ es) k d h =
    let above : slice_cmp nat_cmp (string_bytes k) (string_bytes e.0) ≡ Greater =
    nat_list_cmp_total.antisymm (string_bytes k) (string_bytes e.0) ∙ ap ordering_reverse h.0 in
    rw above (ap (λ l. named e ∷ l) (insert_last es k d h.1))

module _ {X : Type 0} where
  abbrev pub named_bytes : String Global × X → List ℕ
  named_bytes e = string_bytes e.0

  below_next : (x : String Global × X) (xs : List (String Global × X)) (e : String Global × X) (more : List (String Global × X)) → AllByRecursion (λ y. string_cmp x.0 y ≡ Less) (keys_of (xs ++ e ∷ more)) → slice_cmp nat_cmp (string_bytes x.0) (string_bytes e.0) ≡ Less
  below_next x [] e more h = h.0
  below_next x (y ∷ xs) e more h = below_next x xs e more h.1

  all_below : (done : List (String Global × X)) (e : String Global × X) (more : List (String Global × X)) → IsStrictlySortedBy string_cmp (keys_of (done ++ e ∷ more))
      → AllByRecursion (λ l. slice_cmp nat_cmp l (string_bytes e.0) ≡ Less) (map named_bytes done)
  unfolding IsStrictlySortedBy
  all_below [] e more h = tt
  all_below (x ∷ xs) e more h = (below_next x xs e more h.0, all_below xs e more h.1)

  pub named_last_as : (es : List (String Global × Doc)) (k : String Global) (d : Doc) (done : List (String Global × X)) (e : String Global × X) (more : List (String Global × X))
      → IsStrictlySortedBy string_cmp (keys_of (done ++ e ∷ more)) → map bytes es ≡ map named_bytes done → string_bytes k ≡ string_bytes e.0
      → all_named (insert_entry string_cmp es k d) ≡ all_named es ++ (string_bytes e.0, document d) ∷ []
  named_last_as es k d done e more sorted same key = insert_last es k d (rw (same, key) (all_below done e more sorted)) ∙ rw key

  pub named_last : (es : List (String Global × Doc)) (d : Doc) (done : List (String Global × X)) (e : String Global × X) (more : List (String Global × X))
      → IsStrictlySortedBy string_cmp (keys_of (done ++ e ∷ more)) → map bytes es ≡ map named_bytes done
      → all_named (insert_entry string_cmp es e.0 d) ≡ all_named es ++ (string_bytes e.0, document d) ∷ []
  named_last es d done e more sorted same = named_last_as es e.0 d done e more sorted same refl

bytes_named : (es : List (String Global × Doc)) → map bytes es ≡ map (λ (e : List ℕ × Document). e.0) (all_named es)
bytes_named [] = refl
bytes_named (e ∷ es) = ap (λ l. bytes e ∷ l) (bytes_named es)

pub names_alike : (es fs : List (String Global × Doc)) → all_named es ≡ all_named fs → map bytes es ≡ map bytes fs
names_alike es fs same = bytes_named es ∙ ap (map (λ x. x.0)) same ∙ sym (bytes_named fs)

-- the names stay those of the entries that were read
pub same_names : (es fs : List (String Global × Doc)) (d : Document) (done : List Entry) (e : Entry) → all_named fs ≡ all_named es ++ (string_bytes e.0, d) ∷ []
    → map bytes es ≡ map (λ (x : Entry). string_bytes x.0) done → map bytes fs ≡ map (λ (x : Entry). string_bytes x.0) (done ++ e ∷ [])
same_names es fs d done e last same =
    bytes_named fs ∙ ap (map (λ x. x.0)) last ∙ map_push (λ (x : List ℕ × Document). x.0) (all_named es) (string_bytes e.0, d)
    ∙ ap (λ l. l ++ string_bytes e.0 ∷ []) (sym (bytes_named es) ∙ same) ∙ sym (map_push (λ (x : Entry). string_bytes x.0) done e)

-- ---- the whole text

pub not_utf8 : (bytes : List ℕ) → ¬ IsUtf8 bytes → reading bytes ≡ Err errors.NotUtf8
unfolding reading
not_utf8 bytes h = let off : is_utf8 bytes ≡ false = elim (is_utf8 bytes) as (λ b. is_utf8 bytes ≡ b → is_utf8 bytes ≡ false) [ true ↦ λ e. absurd (h (IsUtf8-from_is_utf8 bytes e)) | false ↦ λ e. e ] refl in rw off refl

pub refused : (bytes text : List ℕ) → (text ≡ bytes) × IsUtf8 bytes → read text ≡ None → reading bytes ≡ Err errors.Syntax
unfolding reading
refused bytes text h none = let on = is_utf8-from_IsUtf8 bytes h.1 in let r : read bytes ≡ None = subst (λ s. read s ≡ None) h.0 none in rw (on, r) refl

pub too_deep : (bytes text : List ℕ) (v : Data) → (text ≡ bytes) × IsUtf8 bytes → read text ≡ Some v → nat_le (depth v) 100 ≡ false → reading bytes ≡ Err errors.TooDeep
unfolding reading
too_deep bytes text v h found deep =
    let on = is_utf8-from_IsUtf8 bytes h.1 in
    let r : read bytes ≡ Some v = subst (λ s. read s ≡ Some v) h.0 found in
    let more : nat_lt max_depth (depth v) ≡ true = grind (arith, nat_tests) in
    rw (on, r, more) refl

pub converts : (bytes text : List ℕ) (v : Data) → (text ≡ bytes) × IsUtf8 bytes → read text ≡ Some v → nat_le (depth v) 100 ≡ true → reading bytes ≡ if_whole (document_of v)
unfolding reading
converts bytes text v h found shallow =
    let on = is_utf8-from_IsUtf8 bytes h.1 in
    let r : read bytes ≡ Some v = subst (λ s. read s ≡ Some v) h.0 found in
    let more : nat_lt max_depth (depth v) ≡ false = grind (arith, nat_tests) in
    rw (on, r, more) refl

pub range_push : (ds : List Document) (d : Document) → MembersHaveRange (members_of ds) → HasRange d → MembersHaveRange (members_of (ds ++ d ∷ []))
range_push [] d h k = (k, tt)
range_push (e ∷ ds) d h k = (h.0, range_push ds d h.1 k)

pub field_range_push : (es : List (List ℕ × Document)) (k : List ℕ) (d : Document) → FieldsHaveRange (fields_of es) → HasRange d → FieldsHaveRange (fields_of (es ++ (k, d) ∷ []))
field_range_push [] k d h r = (r, tt)
field_range_push (e ∷ es) k d h r = (h.0, field_range_push es k d h.1 r)

-- ---- what is found at a name

found_or : (o : Ordering) (d : Doc) (a : Option Doc) (b : Option Document) → option_map document a ≡ b → option_map document (cond (is_eq o) (Some d) a) ≡ cond (is_eq o) (Some (document d)) b
found_or Less d a b e = e
found_or Equal d a b e = refl
found_or Greater d a b e = e

pub found_at : (name : List ℕ) (es : List (String Global × Doc)) → option_map document (lookup (is_at (λ k. slice_cmp nat_cmp name (string_bytes k))) es) ≡ find (slice_cmp nat_cmp) name (entries (fields_of (all_named es)))
found_at name [] = refl
found_at name (e ∷ es) = found_or (slice_cmp nat_cmp name (string_bytes e.0)) e.1 _ _ (found_at name es)

pub seen_of_ref : (r : Option (Bor Doc)) → option_map (λ x. document x.now) r ≡ option_map document (option_copied r)
seen_of_ref None = refl
seen_of_ref (Some x) = refl

-- ---- a field that is set

found_in : (name : List ℕ) (es : List (String Global × Doc)) → find (slice_cmp nat_cmp) name (entries (fields_of (all_named es))) ≡ find (slice_cmp nat_cmp) name (all_named es)
found_in name [] = refl
found_in name (e ∷ es) = ap (cond (is_eq (slice_cmp nat_cmp name (string_bytes e.0))) (Some (document e.1))) (found_in name es)

pub found_among : (name : List ℕ) (es : List (String Global × Doc)) → option_map document (lookup (is_at (λ k. slice_cmp nat_cmp name (string_bytes k))) es) ≡ find (slice_cmp nat_cmp) name (all_named es)
found_among name es = found_at name es ∙ found_in name es

set_by : (o : Ordering) (a b c : List (String Global × Doc)) → all_named (match_ordering o a b c) ≡ by_order o (all_named a) (all_named b) (all_named c)
set_by Less a b c = refl
set_by Equal a b c = refl
set_by Greater a b c = refl

pub named_insert : (es : List (String Global × Doc)) (k : String Global) (d : Doc) → all_named (insert_entry string_cmp es k d) ≡ put (slice_cmp nat_cmp) (string_bytes k) (document d) (all_named es)
named_insert [] k d = refl
named_insert (e ∷ es) k d = set_by (string_cmp k e.0) _ _ _ ∙ ap (λ l. by_order (string_cmp k e.0) ((string_bytes k, document d) ∷ named e ∷ all_named es) ((string_bytes e.0, document d) ∷ all_named es) (named e ∷ l)) (named_insert es k d)

pub proper_push : (ds : List Document) (d : Document) → AreProper (members_of ds) → IsProper d → AreProper (members_of (ds ++ d ∷ []))
proper_push [] d h k = (k, tt)
proper_push (e ∷ ds) d h k = (h.0, proper_push ds d h.1 k)

pub field_proper_push : (es : List (List ℕ × Document)) (k : List ℕ) (d : Document) → FieldsAreProper (fields_of es) → IsUtf8 k → IsProper d → FieldsAreProper (fields_of (es ++ (k, d) ∷ []))
field_proper_push [] k d h u r = (u, r, tt)
field_proper_push (e ∷ es) k d h u r = (h.0, h.1, field_proper_push es k d h.2 u r)
