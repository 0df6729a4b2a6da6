-- The definitions at worked rows, in repository 1: a project P; a commit on it that sets a datum of a given identity; then further ones.
use Rattle.std.proofs.Common.{◌≡◌, ℕ, ◌+◌, List, [], ◌∷◌, Some, None, refl, ap, ◌∙◌, lit<}
use Rattle.std.specs.Prelude.{true, false, codes}
use Rattle.sysapi_base.specs.Id.{id_text}
use Rattle.doc_value.specs.Document.{text}
use Rattle.doc_value.specs.declared.doc.Doc.{Doc}
use Rattle.doc_value.specs.declared.doc.Doc.TheVariants as doc
use Rattle.api_records.specs.Changes.{free_from, known_with}
use Rattle.sysapi_base.proofs.IdLemmas.{text_back}
use Rattle.api_records.proofs.Serials.{free_from-unknown, free_from-known}
use Rattle.api_records.specs.Records.{project_doc, commit_doc}
use Rattle.api_records.specs.declared.command.Change.{Change}
use Rattle.api_records.specs.declared.command.Command.{Command}
use Rattle.api_records.specs.declared.command.Command.TheVariants.{CreateProject, CreateCommit}
use Rattle.api_records.specs.declared.record.Project.{Project}
use Rattle.api_records.specs.declared.refusal.Refusal.TheVariants.{UnknownProject, UnknownCommit, HeadMoved, MultiplePrevious, IdentityTwice, DeleteUnknown, UnknownPin, UnknownElement}
use Rattle.entry_codec.specs.declared.entry.Entry.{Entry}
use Rattle.entry_codec.specs.declared.call.Call.TheVariants.{Write, Read}
use Rattle.entry_codec.specs.declared.call.ReadCall.TheVariants.{OneProject, OneElement}
use Rattle.entry_codec.specs.declared.reply.Reply.TheVariants.{Made, Found, Refused}
use Rattle.entry_codec.specs.Histories.{tables}
use Rattle.entry_codec.specs.Refusals.{refusal, differ, is_mismatch}
use Rattle.entry_codec.specs.Replies.{reply}

-- the id of a serial
number : ℕ → ℕ
number serial = 1813397952793980616835072 + serial

-- an identity that no server made
given : ℕ
given = 22685491128062790912553268770669400337

part : List ℕ → Doc
part name = doc.Object ((codes "@type", text (codes "Part")) ∷ (codes "name", text name) ∷ [])

-- the same with its identity
stored : List ℕ → Doc
stored name = doc.Object ((codes "@id", text (id_text 22685491128062790912553268770669400337)) ∷ (codes "@type", text (codes "Part")) ∷ (codes "name", text name) ∷ [])

sets : List ℕ → Change
sets name = record { identity = Some 22685491128062790912553268770669400337; payload = Some (part name) }

deletes : Change
deletes = record { identity = Some 22685491128062790912553268770669400337; payload = None }

named_p : Command
named_p = CreateProject (Some (codes "P")) None

commits : List ℕ → List Change → Command
commits previous changes = CreateCommit 1813397952793980616835072 None previous None changes

at : Command → Entry
at command = record { moment = 0; command = command }

-- newest first: the project is 0 and its branch 1, the commits are 2, 4 and 6, and their data versions 3, 5 and 7
one : List Entry
one = at named_p ∷ []

two : List Entry
two = at (commits [] (sets (codes "A") ∷ [])) ∷ one

three : List Entry
three = at (commits [] (sets (codes "B") ∷ [])) ∷ two

four : List Entry
four = at (commits (number 4 ∷ []) (deletes ∷ [])) ∷ three

project : Project
project = record { id = number 0; name = Some (codes "P"); description = None; default_branch = number 1; created = 0 }

-- ---- replies to commands

project_is_made : reply 1 [] 0 (Write named_p) ≡ Made (project_doc project)
unfolding named_p project number
project_is_made = refl

commit_is_made : reply 1 one 0 (Write (commits [] (sets (codes "A") ∷ []))) ≡ Made (commit_doc (record { id = number 2; project = number 0; description = None; previous = None; created = 0 }))
unfolding one at named_p commits sets part number
commit_is_made = refl

commit_follows : reply 1 two 0 (Write (commits (number 2 ∷ []) [])) ≡ Made (commit_doc (record { id = number 4; project = number 0; description = None; previous = Some (number 2); created = 0 }))
unfolding two one at named_p commits sets part number
commit_follows = refl

-- serials: two of the project, and two of each commit of one change
eight_are_drawn : (tables 1 four).next ≡ 8
unfolding four three two one at named_p commits sets deletes part number
eight_are_drawn = refl

-- a datum without an identity gets the least serial behind that of its version
identity_is_drawn : free_from 1 ((tables 1 one).known (number 0)) 4 ≡ 4
unfolding one at named_p number
identity_is_drawn = free_from-unknown 1 ((tables 1 (at named_p ∷ [])).known (number 0)) 4 (lit< tt) refl

-- ---- look-ups

project_is_found : reply 1 one 0 (Read (OneProject (number 0))) ≡ Found (project_doc project)
unfolding one at named_p project number
project_is_found = refl

no_project_is_found : reply 1 [] 0 (Read (OneProject (number 0))) ≡ Refused UnknownProject
no_project_is_found = refl

first_stays : reply 1 four 0 (Read (OneElement (number 0) (number 2) given)) ≡ Found (stored (codes "A"))
unfolding four three two one at named_p commits sets deletes part number given stored
first_stays = refl

second_replaces : reply 1 four 0 (Read (OneElement (number 0) (number 4) given)) ≡ Found (stored (codes "B"))
unfolding four three two one at named_p commits sets deletes part number given stored
second_replaces = refl

third_deletes : reply 1 four 0 (Read (OneElement (number 0) (number 6) given)) ≡ Refused UnknownElement
unfolding four three two one at named_p commits sets deletes part number given
third_deletes = refl

no_commit_is_found : reply 1 four 0 (Read (OneElement (number 0) (number 3) given)) ≡ Refused UnknownCommit
unfolding four three two one at named_p commits sets deletes part number given
no_commit_is_found = refl

-- ---- refusals

head_has_moved : refusal 1 three (commits (number 2 ∷ []) []) ≡ Some (HeadMoved (Some (number 4)))
unfolding three two one at named_p commits sets part number
head_has_moved = refl

several_are_refused : refusal 1 three (commits (number 4 ∷ number 2 ∷ []) []) ≡ Some MultiplePrevious
unfolding three two one at named_p commits sets part number
several_are_refused = refl

second_place_is_told : refusal 1 one (commits [] (sets (codes "A") ∷ sets (codes "B") ∷ [])) ≡ Some (IdentityTwice 1)
unfolding one at named_p commits sets part number
second_place_is_told = refl

nothing_to_delete : refusal 1 four (commits [] (deletes ∷ [])) ≡ Some (DeleteUnknown 0)
unfolding four three two one at named_p commits sets deletes part number
nothing_to_delete = refl

usage_is_refused : refusal 1 one (commits [] (record { identity = None; payload = Some (doc.Object ((codes "@type", text (codes "ProjectUsage")) ∷ [])) } ∷ [])) ≡ Some (UnknownPin 0)
unfolding one at named_p commits number
usage_is_refused = refl

unknown_first : refusal 1 [] (commits (number 4 ∷ number 2 ∷ []) []) ≡ Some UnknownProject
unfolding commits number
unknown_first = refl

-- ---- known identities

unknown_at_first : (tables 1 one).known (number 0) given ≡ false
unfolding one at named_p number given
unknown_at_first = refl

known_behind_a_commit : (tables 1 two).known (number 0) given ≡ true
unfolding two one at named_p commits sets part number given
known_behind_a_commit = refl

-- a serial whose id a change of the same commit names is passed over
passed_over : free_from 1 (known_with ((tables 1 one).known (number 0)) (record { identity = Some (number 4); payload = None } ∷ [])) 4 ≡ 5
unfolding one at named_p number
passed_over = free_from-known 1 _ 4 (lit< tt) refl ∙ free_from-unknown 1 _ 5 (lit< tt) refl

-- ---- identities that differ

other_id : Change
other_id = record { identity = Some 22685491128062790912553268770669400337; payload = Some (doc.Object ((codes "@id", text (id_text 1813397952793980616835076)) ∷ [])) }

identities_differ : is_mismatch other_id ≡ true
unfolding other_id
identities_differ = ap (differ (Some 22685491128062790912553268770669400337)) (text_back 1813397952793980616835076 (lit< tt))
