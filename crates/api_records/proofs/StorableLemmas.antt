-- The command of a sound body has right parts.
use Rattle.std.proofs.Common.{rules, arith, ◌≡◌, ℕ, suc, max, ◌≤◌, List, [], ◌∷◌, Bool, true, false, cond, Option, Some, None, IsSome, option_and_then, Result, Ok, Err, IfOk, IfSome, nat_cmp, refl, sym, subst}
use Rattle.std.specs.Prelude.{⊤, codes}
use Rattle.std.specs.List.{All, AllByRecursion}
use Rattle.std.proofs.lemmas.List.Elements.{All-from_recursion, All-nil}
use Rattle.std.specs.Cmp.Lexicographic.{slice_cmp}
use Rattle.std.specs.Ordering.{is_eq}
use Rattle.std.specs.FinMap.{find}
use Rattle.sysapi_base.specs.Id.{id_of}
use Rattle.doc_value.specs.Document.{Document, null, text, list, object, Members, no_members, member, Fields, no_fields, field, entries, field_at, depth, members_depth, fields_depth, HasRange, MembersHaveRange, FieldsHaveRange, IsSound}
use Rattle.doc_value.specs.Reference.{text_in}
use Rattle.doc_value.specs.declared.doc.Doc.{Doc}
use Rattle.doc_value.specs.declared.doc.Doc.TheVariants as doc
use Rattle.api_records.specs.declared.body.ShapeError.{ShapeError}
use Rattle.api_records.specs.declared.command.Change.{Change}
use Rattle.api_records.specs.declared.command.Command.{Command}
use Rattle.api_records.specs.declared.command.Command.TheVariants.{CreateCommit}
use Rattle.api_records.specs.Bodies.{Judged, and_then, or_wrong, optional_text, reference_or_none, references_or_none, right_id, payload_at, change_in, changes_in, all_objects, changes_or_none, commit_in, Shapes}
use Rattle.api_records.specs.Storable.{IsPayload, IsStored, HasRightParts, HasFew}
use Rattle.api_records.proofs.BodyLemmas.{fields_back}

-- ---- the depth of a field

-- in range, and at most so deep
record Fits (n : ℕ) (d : Document) : Type 0 where
  range : HasRange d
  shallow : depth d ≤ n

one_or : (n : ℕ) (b : Bool) (d : Document) (o : Option Document) → Fits n d → IfSome o (Fits n) → IfSome (cond b (Some d) o) (Fits n)
one_or n true d o h rest = h
one_or n false d o h rest = rest

found_fits : (n : ℕ) (name : List ℕ) (fs : Fields) → FieldsHaveRange fs → fields_depth fs ≤ n → IfSome (find (slice_cmp nat_cmp) name (entries fs)) (Fits n)
found_fits n name no_fields range h = tt
found_fits n name (field k d fs) range h =
    let deepest : max (depth d) (fields_depth fs) ≤ n = h in
    one_or n (is_eq (slice_cmp nat_cmp name k)) d (find (slice_cmp nat_cmp) name (entries fs)) (record { range = range.0; shallow = omega arith }) (found_fits n name fs range.1 (omega arith))

field_fits : (n : ℕ) (name : List ℕ) (d : Document) → Fits (suc n) d → IfSome (field_at name d) (Fits n)
field_fits n name (object fs) h = found_fits n name fs h.range (let k : suc (fields_depth fs) ≤ suc n = h.shallow in omega arith)
field_fits n name d h = tt

-- ---- what is judged right

inverted : {A B : Type 0} (j : Judged A) (next : A → Judged B) (b : B) → and_then j next ≡ Ok b → (a : A) × (j ≡ Ok a) × (next a ≡ Ok b)
inverted (Ok a) next b e = (a, refl, e)
inverted (Err key) next b e = absurd cc

same : {A : Type 0} (x y : A) → (let r : Judged A = Ok x in r) ≡ Ok y → x ≡ y
same x y e = cc

-- ---- payloads

has_id : (o : Option ℕ) (u : ⊤) → and_then (or_wrong (codes "@id") o) (λ id. Ok tt) ≡ Ok u → IsSome o
has_id (Some x) u e = search rules
has_id None u e = absurd cc

has_right : (o : Option Document) (u : ⊤) → right_id o ≡ Ok u → IsSome o → IsSome (option_and_then id_of (option_and_then text_in o))
has_right None u e h = h
has_right (Some (text s)) u e h = has_id (id_of s) u e
has_right (Some other) u e h = absurd cc

is_payload : (fs : Fields) (u : ⊤) → Fits 97 (object fs) → right_id (field_at (codes "@id") (object fs)) ≡ Ok u → IsPayload (object fs)
is_payload fs u h e =
    let less : depth (object fs) ≤ 97 = h.shallow in
    record { is_object = tt; sound = record { range = h.range; shallow = omega arith }; shallow = less; named = has_right (field_at (codes "@id") (object fs)) u e }

payload_stored : (found : Option Document) → IfSome found (Fits 97) → (payload : Option Doc) → payload_at found ≡ Ok payload → IsStored payload
payload_stored None h payload e = subst IsStored (same None payload e) tt
payload_stored (Some null) h payload e = subst IsStored (same None payload e) tt
payload_stored (Some (object fs)) h payload e =
    let right = inverted (right_id (field_at (codes "@id") (object fs))) (λ r. Ok (Some (doc.Object (entries fs)))) payload e in
    let whole : IsPayload (object fs) = is_payload fs right.0 h right.1 in
    subst IsStored (same (Some (doc.Object (entries fs))) payload right.2) (subst (λ (gs : Fields). IsPayload (object gs)) (sym (fields_back fs)) whole)
payload_stored (Some other) h payload e = absurd cc

-- ---- changes

change_stored : (d : Document) → Fits 98 d → (c : Change) → change_in d ≡ Ok c → IsStored c.payload
change_stored d h c e =
    let first = inverted (reference_or_none (codes "identity") (field_at (codes "identity") d)) (λ identity. and_then (payload_at (field_at (codes "payload") d)) (λ payload. Ok (record { identity = identity; payload = payload }))) c e in
    let second = inverted (payload_at (field_at (codes "payload") d)) (λ payload. Ok (record { identity = first.0; payload = payload })) c first.2 in
    let made : Change = record { identity = first.0; payload = second.0 } in
    subst (λ (x : Change). IsStored x.payload) (same made c second.2) (payload_stored (field_at (codes "payload") d) (field_fits 97 (codes "payload") d h) second.0 second.1)

abbrev AreStored : List Change → Type 0
AreStored = AllByRecursion (λ c. IsStored c.payload)

members_stored : (ds : Members) → MembersHaveRange ds → members_depth ds ≤ 98 → (cs : List Change) → changes_in ds ≡ Ok cs → AreStored cs
members_stored no_members range h cs e = subst AreStored (same [] cs e) tt
members_stored (member d ds) range h cs e =
    let deepest : max (depth d) (members_depth ds) ≤ 98 = h in
    let first = inverted (change_in d) (λ c. and_then (changes_in ds) (λ xs. Ok (c ∷ xs))) cs e in
    let rest = inverted (changes_in ds) (λ xs. Ok (first.0 ∷ xs)) cs first.2 in
    subst AreStored (same (first.0 ∷ rest.0) cs rest.2) (change_stored d (record { range = range.0; shallow = omega arith }) first.0 first.1, members_stored ds range.1 (omega arith) rest.0 rest.1)

abbrev AllStored : List Change → Type 0
AllStored = All (λ c. IsStored c.payload)

changes_stored : (key : List ℕ) (found : Option Document) → IfSome found (Fits 99) → (cs : List Change) → changes_or_none key found ≡ Ok cs → AllStored cs
changes_stored key None h cs e = subst AllStored (same [] cs e) (All-nil (λ c. IsStored c.payload))
changes_stored key (Some null) h cs e = subst AllStored (same [] cs e) (All-nil (λ c. IsStored c.payload))
changes_stored key (Some (list ds)) h cs e =
    let less : suc (members_depth ds) ≤ 99 = h.shallow in
    let right = inverted (all_objects key ds) (λ r. changes_in ds) cs e in
    All-from_recursion (λ c. IsStored c.payload) cs (members_stored ds h.range (omega arith) cs right.2)
changes_stored key (Some other) h cs e = absurd cc

-- ---- commits

commit_right : (project : ℕ) (branch : Option ℕ) (d : Document) → IsSound d → (command : Command) → commit_in project branch d ≡ Ok command → HasFew command → HasRightParts command
commit_right project branch d sound command e few =
    let changes = inverted (changes_or_none (codes "change") (field_at (codes "change") d)) _ command e in
    let description = inverted (optional_text (codes "description") d) _ command changes.2 in
    let previous = inverted (references_or_none (codes "previousCommit") (field_at (codes "previousCommit") d)) (λ ids. Ok (CreateCommit project branch ids description.0 changes.0)) command description.2 in
    let stored : AllStored changes.0 = changes_stored (codes "change") (field_at (codes "change") d) (field_fits 99 (codes "change") d (record { range = sound.range; shallow = sound.shallow })) changes.0 changes.1 in
    subst (λ (x : Command). HasFew x → HasRightParts x) (same (CreateCommit project branch previous.0 description.0 changes.0) command previous.2) (λ less. (stored, less)) few

pub command_right : (r : Result Command ShapeError) (project : ℕ) (branch : Option ℕ) (d : Document) → IsSound d → Shapes r (commit_in project branch d) → IfOk r HasFew → IfOk r HasRightParts
command_right (Ok command) project branch d sound e few = commit_right project branch d sound command e few
command_right (Err error) project branch d sound e few = tt
