-- The definitions at worked rows of branches, tags and lists, in repository 1: a project with a commit, two branches from it, and a
-- commit on each of these.
use Rattle.std.proofs.Common.{◌≡◌, ℕ, ◌+◌, List, [], ◌∷◌, Option, Some, None, refl}
use Rattle.std.specs.Prelude.{codes}
use Rattle.sysapi_base.specs.Id.{id_text}
use Rattle.doc_value.specs.Document.{text}
use Rattle.doc_value.specs.declared.doc.Doc.{Doc}
use Rattle.doc_value.specs.declared.doc.Doc.TheVariants as doc
use Rattle.api_records.specs.Records.{project_doc, branch_doc, tag_doc, commit_doc, version_doc}
use Rattle.api_records.specs.declared.command.Change.{Change}
use Rattle.api_records.specs.declared.command.Command.{Command}
use Rattle.api_records.specs.declared.command.Command.TheVariants.{CreateProject, UpdateProject, DeleteProject, CreateCommit, CreateBranch, DeleteBranch, CreateTag, DeleteTag}
use Rattle.api_records.specs.declared.record.Project.{Project}
use Rattle.api_records.specs.declared.record.Branch.{Branch}
use Rattle.api_records.specs.declared.record.Tag.{Tag}
use Rattle.api_records.specs.declared.record.Commit.{Commit}
use Rattle.api_records.specs.declared.record.Version.{Version}
use Rattle.api_records.specs.declared.refusal.Refusal.TheVariants.{UnknownProject, UnknownBranch, UnknownTag, UnknownCommit, HeadMoved, DefaultBranch, UnknownChange}
use Rattle.entry_codec.specs.declared.entry.Entry.{Entry}
use Rattle.entry_codec.specs.declared.call.Call.TheVariants.{Write, Read}
use Rattle.entry_codec.specs.declared.call.ReadCall.TheVariants.{Projects, OneProject, Branches, OneBranch, Tags, OneTag, Commits, OneCommit, Versions, OneVersion, OneElement}
use Rattle.entry_codec.specs.declared.reply.Reply.TheVariants.{Found, Refused}
use Rattle.entry_codec.specs.Refusals.{refusal}
use Rattle.entry_codec.specs.Replies.{page, reply, reply_at}

-- the id of a serial
number : ℕ → ℕ
number serial = 1813397952793980616835072 + serial

part : List ℕ → Doc
part name = doc.Object ((codes "@type", text (codes "Part")) ∷ (codes "name", text name) ∷ [])

-- the same with its identity
stored : List ℕ → Doc
stored name = doc.Object ((codes "@id", text (id_text 22685491128062790912553268770669400337)) ∷ (codes "@type", text (codes "Part")) ∷ (codes "name", text name) ∷ [])

sets : List ℕ → Change
sets name = record { identity = Some 22685491128062790912553268770669400337; payload = Some (part name) }

given : ℕ
given = 22685491128062790912553268770669400337

at : Command → Entry
at command = record { moment = 0; command = command }

commits_on : Option ℕ → List ℕ → Command
commits_on branch name = CreateCommit 1813397952793980616835072 branch [] None (sets name ∷ [])

-- newest first: the project is 0 and its branch 1, the first commit is 2 and its version 3, the branches are 4 and 5, the commits on
-- them 6 and 8, and their versions 7 and 9
one : List Entry
one = at (CreateProject (Some (codes "P")) None) ∷ []

two : List Entry
two = at (commits_on None (codes "A")) ∷ one

four : List Entry
four = at (CreateBranch 1813397952793980616835072 (Some (codes "y")) (Some 1813397952793980616835074)) ∷ at (CreateBranch 1813397952793980616835072 (Some (codes "x")) (Some 1813397952793980616835074)) ∷ two

six : List Entry
six = at (commits_on (Some 1813397952793980616835077) (codes "Y")) ∷ at (commits_on (Some 1813397952793980616835076) (codes "X")) ∷ four

project : Project
project = record { id = number 0; name = Some (codes "P"); description = None; default_branch = number 1; created = 0 }

branch : ℕ → Option (List ℕ) → ℕ → Branch
branch id name head = record { id = number id; project = number 0; name = name; head = Some (number head); created = 0 }

commit : ℕ → Option ℕ → Commit
commit id previous = record { id = number id; project = number 0; description = None; previous = previous; created = 0 }

-- ---- each branch has its head, and each commit its own values

branches_are_listed : reply 1 six 0 (Read (Branches (number 0))) ≡ page branch_doc (branch 1 None 2 ∷ branch 4 (Some (codes "x")) 6 ∷ branch 5 (Some (codes "y")) 8 ∷ [])
unfolding six four two one at commits_on sets part number branch
branches_are_listed = refl

first_stays : reply 1 six 0 (Read (OneElement (number 0) (number 2) given)) ≡ Found (stored (codes "A"))
unfolding six four two one at commits_on sets part number given stored
first_stays = refl

one_branch_has_x : reply 1 six 0 (Read (OneElement (number 0) (number 6) given)) ≡ Found (stored (codes "X"))
unfolding six four two one at commits_on sets part number given stored
one_branch_has_x = refl

other_branch_has_y : reply 1 six 0 (Read (OneElement (number 0) (number 8) given)) ≡ Found (stored (codes "Y"))
unfolding six four two one at commits_on sets part number given stored
other_branch_has_y = refl

-- at an earlier point the branch has its earlier head
earlier_head : reply_at 1 5 six (OneBranch (number 0) (number 5)) ≡ Found (branch_doc (branch 5 (Some (codes "y")) 2))
unfolding six four two one at commits_on sets part number branch
earlier_head = refl

-- ---- commits

commits_of_a_branch : reply 1 six 0 (Read (Commits (number 0) (Some (number 4)))) ≡ page commit_doc (commit 2 None ∷ commit 6 (Some (number 2)) ∷ [])
unfolding six four two one at commits_on sets part number commit
commits_of_a_branch = refl

all_commits : reply 1 six 0 (Read (Commits (number 0) None)) ≡ page commit_doc (commit 2 None ∷ commit 6 (Some (number 2)) ∷ commit 8 (Some (number 2)) ∷ [])
unfolding six four two one at commits_on sets part number commit
all_commits = refl

changes_are_listed : reply 1 six 0 (Read (Versions (number 0) (number 6))) ≡ page version_doc (record { id = number 7; identity = 22685491128062790912553268770669400337; payload = Some (stored (codes "X")) } ∷ [])
unfolding six four two one at commits_on sets part number stored
changes_are_listed = refl

no_change_of_another_commit : reply 1 six 0 (Read (OneVersion (number 0) (number 6) (number 9))) ≡ Refused UnknownChange
unfolding six four two one at commits_on sets part number
no_change_of_another_commit = refl

-- ---- branches end, the default one doesn't

default_stays : refusal 1 six (DeleteBranch (number 0) (number 1)) ≡ Some DefaultBranch
unfolding six four two one at commits_on sets part number
default_stays = refl

ended_is_told : reply 1 six 0 (Write (DeleteBranch (number 0) (number 5))) ≡ Found (branch_doc (branch 5 (Some (codes "y")) 8))
unfolding six four two one at commits_on sets part number branch
ended_is_told = refl

ended : List Entry
ended = at (DeleteBranch 1813397952793980616835072 1813397952793980616835077) ∷ six

no_branch_is_found : reply 1 ended 0 (Read (OneBranch (number 0) (number 5))) ≡ Refused UnknownBranch
unfolding ended six four two one at commits_on sets part number
no_branch_is_found = refl

its_commit_stays : reply 1 ended 0 (Read (OneElement (number 0) (number 8) given)) ≡ Found (stored (codes "Y"))
unfolding ended six four two one at commits_on sets part number given stored
its_commit_stays = refl

-- ---- tags

tag : Tag
tag = record { id = number 10; project = number 0; name = Some (codes "v1"); commit = number 2; created = 0 }

tagged : List Entry
tagged = at (CreateTag 1813397952793980616835072 (Some (codes "v1")) 1813397952793980616835074) ∷ six

tag_is_listed : reply 1 tagged 0 (Read (Tags (number 0))) ≡ page tag_doc (tag ∷ [])
unfolding tagged six four two one at commits_on sets part number tag
tag_is_listed = refl

tag_has_ended : reply 1 (at (DeleteTag (number 0) (number 10)) ∷ tagged) 0 (Read (OneTag (number 0) (number 10))) ≡ Refused UnknownTag
unfolding tagged six four two one at commits_on sets part number
tag_has_ended = refl

no_version_is_tagged : refusal 1 six (CreateTag (number 0) None (number 7)) ≡ Some UnknownCommit
unfolding six four two one at commits_on sets part number
no_version_is_tagged = refl

-- ---- projects change and end

updated_is_told : reply 1 six 0 (Write (UpdateProject (number 0) None (Some (codes "d")) (Some (number 4)))) ≡ Found (project_doc (record { id = number 0; name = None; description = Some (codes "d"); default_branch = number 4; created = 0 }))
unfolding six four two one at commits_on sets part number
updated_is_told = refl

default_is_kept : reply 1 six 0 (Write (UpdateProject (number 0) None None None)) ≡ Found (project_doc (record { id = number 0; name = None; description = None; default_branch = number 1; created = 0 }))
unfolding six four two one at commits_on sets part number
default_is_kept = refl

gone : List Entry
gone = at (DeleteProject 1813397952793980616835072) ∷ six

no_project_is_listed : reply 1 gone 0 (Read Projects) ≡ page project_doc []
unfolding gone six four two one at commits_on sets part number
no_project_is_listed = refl

its_branches_are_hidden : reply 1 gone 0 (Read (Branches (number 0))) ≡ Refused UnknownProject
unfolding gone six four two one at commits_on sets part number
its_branches_are_hidden = refl

-- before it ended it was there
earlier_project : reply_at 1 6 gone (OneProject (number 0)) ≡ Found (project_doc project)
unfolding gone six four two one at commits_on sets part number project
earlier_project = refl
