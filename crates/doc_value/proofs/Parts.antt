-- What stands in a sound document is sound.
use Rattle.std.proofs.Common.{◌≡◌, ℕ, suc, ◌≤◌, ◌<◌, max, List, [], ◌∷◌, Bool, true, false, cond, Option, Some, None, option_map, IfSome, Bor, Ordering, Less, Equal, Greater, nat_cmp, arith, subst, sym, refl, ap}
use Rattle.std.specs.Cmp.Lexicographic.{slice_cmp}
use Rattle.std.specs.Ordering.{is_eq}
use Rattle.std.specs.List.{All, AllByRecursion}
use Rattle.std.proofs.lemmas.List.Elements.{All-from_recursion, recursion_from_All}
use Rattle.std.specs.FinMap.{find, put}
use Rattle.std.specs.FinMap.Entries.{by_order}
use Rattle.doc_value.specs.declared.doc.Doc.{Doc}
use Rattle.doc_value.specs.Document.{Document, list, object, Fields, no_fields, field, entries, members_of, fields_of, field_at, depth, members_depth, fields_depth, HasRange, MembersHaveRange, FieldsHaveRange, IsSound, max_depth}
use Rattle.doc_value.specs.Seen.{document, documents}

-- in range, and at most so deep
abbrev Fits : ℕ → Document → Type 0
Fits n d = HasRange d × (depth d ≤ n)

one_or : (b : Bool) (d : Document) (o : Option Document) (m n : ℕ) → Fits n d → m ≤ n → IfSome o (Fits m) → IfSome (cond b (Some d) o) (Fits n)
one_or true d o m n h le k = h
one_or false d None m n h le k = tt
one_or false d (Some e) m n h le k = (k.0, omega (arith, k.1, le))

found_fits : (name : List ℕ) (fs : Fields) → FieldsHaveRange fs → IfSome (find (slice_cmp nat_cmp) name (entries fs)) (Fits (fields_depth fs))
found_fits name no_fields h = tt
found_fits name (field k d fs) h =
    one_or (is_eq (slice_cmp nat_cmp name k)) d (find (slice_cmp nat_cmp) name (entries fs)) (fields_depth fs) (max (depth d) (fields_depth fs)) (h.0, omega arith) (omega arith) (found_fits name fs h.1)

fits_sound : (o : Option Document) (n : ℕ) → n ≤ max_depth → IfSome o (Fits n) → IfSome o IsSound
fits_sound None n le h = tt
fits_sound (Some d) n le h = record { range = h.0; shallow = omega (arith, h.1, le) }

-- the document at a name
pub field_sound : (name : List ℕ) (d : Document) → IsSound d → IfSome (field_at name d) IsSound
field_sound name (object fs) h = fits_sound (find (slice_cmp nat_cmp) name (entries fs)) (fields_depth fs) (let k : suc (fields_depth fs) ≤ max_depth = h.shallow in omega arith) (found_fits name fs h.range)
field_sound name d h = tt

same_entries : (es : List (List ℕ × Document)) → entries (fields_of es) ≡ es
same_entries [] = refl
same_entries (e ∷ es) = ap (λ l. e ∷ l) (same_entries es)

pub found_sound : (name : List ℕ) (es : List (List ℕ × Document)) → IsSound (object (fields_of es)) → IfSome (find (slice_cmp nat_cmp) name es) IsSound
found_sound name es h = subst (λ l. IfSome (find (slice_cmp nat_cmp) name l) IsSound) (same_entries es) (field_sound name (object (fields_of es)) h)

-- the same of what a call lends
pub seen_sound : (r : Option (Bor Doc)) (o : Option Document) → option_map (λ x. document x.now) r ≡ o → IfSome o IsSound → IfSome r (λ x. IsSound (document x.now))
seen_sound None o e h = tt
seen_sound (Some x) o e h = subst (λ p. IfSome p IsSound) (sym e) h

-- ---- a field that is set

-- the documents of these fields are in range, and at most so deep
abbrev Within : ℕ → List (List ℕ × Document) → Type 0
Within n es = FieldsHaveRange (fields_of es) × (fields_depth (fields_of es) ≤ n)

by_order_within : (o : Ordering) (n : ℕ) (a b c : List (List ℕ × Document)) → Within n a → Within n b → Within n c → Within n (by_order o a b c)
by_order_within Less n a b c h k l = h
by_order_within Equal n a b c h k l = k
by_order_within Greater n a b c h k l = l

put_within : (n : ℕ) (name : List ℕ) (d : Document) (es : List (List ℕ × Document)) → Fits n d → Within n es → Within n (put (slice_cmp nat_cmp) name d es)
put_within n name d [] h k = ((h.0, tt), omega (arith, h.1))
put_within n name d (e ∷ es) h k =
    let all : max (depth e.1) (fields_depth (fields_of es)) ≤ n = k.1 in
    let rest = put_within n name d es h (k.0.1, omega arith) in
    by_order_within (slice_cmp nat_cmp name e.0) n _ _ _ ((h.0, k.0), omega (arith, h.1)) ((h.0, k.0.1), omega (arith, h.1)) ((k.0.0, rest.0), omega (arith, rest.1))

pub put_sound : (name : List ℕ) (d : Document) (es : List (List ℕ × Document)) → IsSound d → depth d < max_depth → IsSound (object (fields_of es)) → IsSound (object (fields_of (put (slice_cmp nat_cmp) name d es)))
put_sound name d es sound less h =
    let before : suc (fields_depth (fields_of es)) ≤ max_depth = h.shallow in
    let set = put_within 99 name d es (sound.range, omega arith) (h.range, omega arith) in
    record { range = set.0; shallow = omega (arith, set.1) }

-- ---- the members of a list

members_fit : (ds : List Doc) → MembersHaveRange (members_of (documents ds)) → members_depth (members_of (documents ds)) ≤ max_depth → AllByRecursion (λ d. IsSound (document d)) ds
members_fit [] h le = tt
members_fit (d ∷ ds) h le =
    let all : max (depth (document d)) (members_depth (members_of (documents ds))) ≤ max_depth = le in
    (record { range = h.0; shallow = omega arith }, members_fit ds h.1 (omega arith))

pub members_sound : (ds : List Doc) → IsSound (list (members_of (documents ds))) → All (λ d. IsSound (document d)) ds
members_sound ds h =
    let all : suc (members_depth (members_of (documents ds))) ≤ max_depth = h.shallow in
    All-from_recursion (λ d. IsSound (document d)) ds (members_fit ds h.range (omega arith))

-- sound documents below the limit, by recursion on their list
abbrev AreBelow : List Doc → Type 0
AreBelow = AllByRecursion (λ d. IsSound (document d) × (depth (document d) < max_depth))

below_fit : (ds : List Doc) → AreBelow ds → MembersHaveRange (members_of (documents ds)) × (members_depth (members_of (documents ds)) < max_depth)
below_fit [] h = (tt, omega arith)
below_fit (d ∷ ds) h =
    let rest = below_fit ds h.1 in
    ((h.0.0.range, rest.0), omega (arith, h.0.1, rest.1))

pub list_sound : (ds : List Doc) → All (λ d. IsSound (document d) × (depth (document d) < max_depth)) ds → IsSound (list (members_of (documents ds)))
list_sound ds h =
    let fit = below_fit ds (recursion_from_All (λ d. IsSound (document d) × (depth (document d) < max_depth)) ds h) in
    record { range = fit.0; shallow = omega (arith, fit.1) }
