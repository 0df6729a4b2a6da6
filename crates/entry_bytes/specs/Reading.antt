-- Reading from left to right. A reader takes a part from the front of bytes, and gives it with the bytes behind it, or nothing.
use Rattle.std.specs.Prelude.{◌≡◌, ℕ, zero, suc, ◌+◌, ◌*◌, ◌^◌, ◌==◌, Bool, true, false, ◌||◌, ◌&&◌, nat_lt, nat_le, if◌then◌else◌, List, [], ◌∷◌, length, take, drop, Option, Some, None, option_map, option_and_then, is_none, is_some, Result, Ok, Err, codes, bytes_eq, ⊤}
use Rattle.std.specs.Int.{Width, w32, w64, byte_len, from_be_bytes}
use Rattle.std.specs.Str.{is_utf8}
use Rattle.sysapi_base.specs.declared.moment.TheConstants.{END}
use Rattle.doc_value.specs.Document.{Document, object, entries, field_at, depth}
use Rattle.doc_value.specs.Data.{compact}
use Rattle.doc_value.specs.Read.{reading}
use Rattle.doc_value.specs.Reference.{reference}
use Rattle.doc_value.specs.declared.doc.Doc.{Doc}
use Rattle.doc_value.specs.declared.doc.Doc.TheVariants as doc
use Rattle.doc_value.specs.declared.error.DocError.{DocError}
use Rattle.api_records.specs.Storable.{payload_depth}
use Rattle.api_records.specs.declared.command.Change.{Change}
use Rattle.api_records.specs.declared.command.Command.{Command}
use Rattle.api_records.specs.declared.command.Command.TheVariants.{CreateProject, UpdateProject, DeleteProject, CreateCommit, CreateBranch, DeleteBranch, CreateTag, DeleteTag}
use Rattle.entry_codec.specs.declared.entry.Entry.{Entry}
use Rattle.entry_bytes.specs.Spelling.{entry_bytes}
use Rattle.entry_bytes.specs.Sound.{IsEntry, IsProperEntry}
use Rattle.entry_bytes.specs.declared.error.DecodeError.{DecodeError}
use Rattle.entry_bytes.specs.declared.error.DecodeError.TheVariants.{NotAnEntry, Memory}

-- What a call gave, seen by `view`, is what is expected, unless memory ran out.
abbrev pub Fails : {Y : Type 0} → DecodeError → Option Y → Type 0
Fails NotAnEntry expected = expected ≡ None
Fails Memory expected = ⊤

abbrev pub Gives : {X Y : Type 0} → (X → Y) → Result X DecodeError → Option Y → Type 0
Gives view (Ok x) expected = expected ≡ Some (view x)
Gives view (Err e) expected = Fails e expected

abbrev pub Reader : Type 0 → Type 0
Reader A = List ℕ → Option (A × List ℕ)

-- a part and another behind it
abbrev pub both : {A B : Type 0} → Reader A → Reader B → Reader (A × B)
both first second bytes = option_and_then (λ x. option_map (λ y. ((x.0, y.0), y.1)) (second x.1)) (first bytes)

-- what is made of a part
abbrev pub made : {A B : Type 0} → (A → B) → Reader A → Reader B
made make part bytes = option_map (λ x. (make x.0, x.1)) (part bytes)

-- a part from which something can be made, or not
abbrev pub judged : {A B : Type 0} → (A → Option B) → Reader A → Reader B
judged judge part bytes = option_and_then (λ x. option_map (λ b. (b, x.1)) (judge x.0)) (part bytes)

-- ---- parts

unfoldable pub number_at : Width → Reader ℕ
number_at w bytes = if nat_lt (length bytes) (byte_len w) then None else Some (from_be_bytes w (take (byte_len w) bytes), drop (byte_len w) bytes)

-- the first eight bytes of an id, and the others
abbrev pub id_at : Reader ℕ
id_at = made (λ x. x.0 * 2 ^ 64 + x.1) (both (number_at w64) (number_at w64))

abbrev pub optional_at : {A : Type 0} → Reader A → Reader (Option A)
optional_at part [] = None
optional_at part (zero ∷ rest) = Some (None, rest)
optional_at part (suc zero ∷ rest) = made Some part rest
optional_at part (suc (suc flag) ∷ rest) = None

abbrev pub repeated_at : {A : Type 0} → Reader A → ℕ → Reader (List A)
repeated_at part zero bytes = Some ([], bytes)
repeated_at part (suc n) bytes = made (λ x. x.0 ∷ x.1) (both part (repeated_at part n)) bytes

abbrev pub list_at : {A : Type 0} → Reader A → Reader (List A)
list_at part bytes = option_and_then (λ n. repeated_at part n.0 n.1) (number_at w32 bytes)

-- so many bytes
abbrev pub bytes_at : ℕ → Reader (List ℕ)
bytes_at n bytes = if nat_lt (length bytes) n then None else Some (take n bytes, drop n bytes)

-- a length, and so many bytes
abbrev pub slice_at : Reader (List ℕ)
slice_at bytes = option_and_then (λ n. bytes_at n.0 n.1) (number_at w32 bytes)

abbrev pub if_utf8 : List ℕ → Option (List ℕ)
if_utf8 s = if is_utf8 s then Some s else None

abbrev pub text_at : Reader (List ℕ)
text_at = judged if_utf8 slice_at

-- ---- documents

abbrev pub has_right_id : Document → Bool
has_right_id d = is_none (field_at (codes "@id") d) || is_some (reference d)

abbrev pub is_object : Document → Bool
is_object (object fs) = true
is_object other = false

-- an object that is not too deep, with a right `@id`
abbrev pub is_payload : Document → Bool
is_payload d = is_object d && (nat_le (depth d) payload_depth && has_right_id d)

-- a payload, where this is its compact text
abbrev pub if_payload : List ℕ → Document → Option Doc
if_payload text (object fs) = if is_payload (object fs) && bytes_eq (compact (object fs)) text then Some (doc.Object (entries fs)) else None
if_payload text other = None

abbrev pub if_ok : Result Document DocError → Option Document
if_ok (Ok d) = Some d
if_ok (Err e) = None

-- the payload that has this text
abbrev pub payload_in : List ℕ → Option Doc
payload_in text = option_and_then (if_payload text) (if_ok (reading text))

abbrev pub document_at : Reader Doc
document_at = judged payload_in slice_at

-- ---- entries

abbrev pub change_at : Reader Change
change_at = made (λ x. record { identity = x.0; payload = x.1 }) (both (optional_at id_at) (optional_at document_at))

abbrev pub create_project_at : Reader Command
create_project_at = made (λ x. CreateProject x.0 x.1) (both (optional_at text_at) (optional_at text_at))

abbrev pub update_project_at : Reader Command
update_project_at = made (λ x. UpdateProject x.0 x.1.0 x.1.1.0 x.1.1.1) (both id_at (both (optional_at text_at) (both (optional_at text_at) (optional_at id_at))))

abbrev pub delete_project_at : Reader Command
delete_project_at = made (λ x. DeleteProject x) id_at

abbrev pub create_commit_at : Reader Command
create_commit_at = made (λ x. CreateCommit x.0 x.1.0 x.1.1.0 x.1.1.1.0 x.1.1.1.1)
    (both id_at (both (optional_at id_at) (both (list_at id_at) (both (optional_at text_at) (list_at change_at)))))

abbrev pub create_branch_at : Reader Command
create_branch_at = made (λ x. CreateBranch x.0 x.1.0 x.1.1) (both id_at (both (optional_at text_at) (optional_at id_at)))

abbrev pub delete_branch_at : Reader Command
delete_branch_at = made (λ x. DeleteBranch x.0 x.1) (both id_at id_at)

abbrev pub create_tag_at : Reader Command
create_tag_at = made (λ x. CreateTag x.0 x.1.0 x.1.1) (both id_at (both (optional_at text_at) id_at))

abbrev pub delete_tag_at : Reader Command
delete_tag_at = made (λ x. DeleteTag x.0 x.1) (both id_at id_at)

-- the fields behind a tag
abbrev pub fields_at : ℕ → Reader Command
fields_at tag bytes =
    if tag == 1 then create_project_at bytes
    else (if tag == 2 then update_project_at bytes
    else (if tag == 3 then delete_project_at bytes
    else (if tag == 4 then create_commit_at bytes
    else (if tag == 5 then create_branch_at bytes
    else (if tag == 6 then delete_branch_at bytes
    else (if tag == 7 then create_tag_at bytes
    else (if tag == 8 then delete_tag_at bytes
    else None)))))))

abbrev pub command_at : Reader Command
command_at [] = None
command_at (tag ∷ bytes) = fields_at tag bytes

abbrev pub if_moment : ℕ → Option ℕ
if_moment n = if nat_lt n END then Some n else None

abbrev pub entry_at : Reader Entry
entry_at = made (λ x. record { moment = x.0; command = x.1 }) (both (judged if_moment (number_at w64)) command_at)

-- where nothing is left
abbrev pub if_ended : Entry × List ℕ → Option Entry
if_ended x = if length x.1 == 0 then Some x.0 else None

-- the entry that all of the bytes are, of which there are at most 2^27
abbrev pub entry_in : List ℕ → Option Entry
entry_in bytes = if nat_lt (2 ^ 27) (length bytes) then None else option_and_then if_ended (entry_at bytes)

-- ---- laws of the answers of `decode`

-- no entry that can be stored has these bytes
abbrev pub IsNoEntry : List ℕ → Type 0
IsNoEntry bytes = (e : Entry) → IsEntry e → IsProperEntry e → entry_bytes e ≡ bytes → ⊥

-- what an error tells of the bytes
abbrev pub Explains : List ℕ → DecodeError → Type 0
Explains bytes NotAnEntry = IsNoEntry bytes
Explains bytes Memory = ⊤
