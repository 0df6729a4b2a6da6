-- The reply to each call at a history, whose newest entry stands first (Systems Modeling API 1.0, ProjectService, BranchService,
-- TagService, CommitService and ElementService).
use Rattle.std.specs.Prelude.{ℕ, zero, suc, ◌==◌, Bool, true, if◌then◌else◌, not, ◌||◌, ◌&&◌, List, [], ◌∷◌, ◌++◌, map, Option, Some, None, option_map, option_and_then, codes, ⊤}
use Rattle.std.specs.List.{filter_map}
use Rattle.sysapi_base.specs.Id.{made_id}
use Rattle.doc_value.specs.Document.{Document, list, members_of, IsSound, field_at}
use Rattle.doc_value.specs.Seen.{document, documents}
use Rattle.doc_value.specs.declared.doc.Doc.{Doc}
use Rattle.api_records.specs.Records.{project_doc, branch_doc, tag_doc, commit_doc, version_doc}
use Rattle.api_records.specs.declared.command.Command.{Command}
use Rattle.api_records.specs.declared.command.Command.TheVariants.{CreateProject, UpdateProject, DeleteProject, CreateCommit, CreateBranch, DeleteBranch, CreateTag, DeleteTag}
use Rattle.api_records.specs.declared.record.Commit.{Commit}
use Rattle.api_records.specs.declared.record.Version.{Version}
use Rattle.api_records.specs.declared.refusal.Refusal.{Refusal}
use Rattle.api_records.specs.declared.refusal.Refusal.TheVariants as no
use Rattle.entry_codec.specs.declared.entry.Entry.{Entry}
use Rattle.entry_codec.specs.declared.call.Call.{Call}
use Rattle.entry_codec.specs.declared.call.Call.TheVariants.{Write, Read}
use Rattle.entry_codec.specs.declared.call.ReadCall.{ReadCall}
use Rattle.entry_codec.specs.declared.call.ReadCall.TheVariants.{Projects, OneProject, Branches, OneBranch, Tags, OneTag, Commits, OneCommit, Versions, OneVersion, OneElement}
use Rattle.entry_codec.specs.declared.reply.Reply.{Reply}
use Rattle.entry_codec.specs.declared.reply.Reply.TheVariants.{Made, Found, Page, Refused}
use Rattle.entry_codec.specs.Histories.{Tables, tables, tables_at, project_branch, project_tag, project_commit, ancestry_at, new_project, new_branch, new_tag, new_commit, updated}
use Rattle.entry_codec.specs.Refusals.{first, unless_there, if_given, unknown_project, unknown_branch, unknown_tag, unknown_commit, is_text, rows}

-- a refusal, else what is replied
abbrev pub unless_refused : Option Refusal → Reply → Reply
unless_refused (Some why) otherwise = Refused why
unless_refused None otherwise = otherwise

-- the record that is told, or why there is none
abbrev pub told : {A : Type 0} → (A → Doc) → Refusal → Option A → Reply
told doc_of why None = Refused why
told doc_of why (Some record_found) = Found (doc_of record_found)

-- ---- commands

-- The record that an accepted command makes at this moment, or changes, or, as it is before, ends.
abbrev pub command_reply : ℕ → Tables → ℕ → Command → Reply
command_reply r t moment (CreateProject name description) = Made (project_doc (new_project r t moment name description))
command_reply r t moment (UpdateProject p name description branch) = told project_doc no.UnknownProject (option_map (updated name description branch) (t.project p))
command_reply r t moment (DeleteProject p) = told project_doc no.UnknownProject (t.project p)
command_reply r t moment (CreateCommit p given previous description changes) = Made (commit_doc (new_commit r t moment p given description))
command_reply r t moment (CreateBranch p name head) = Made (branch_doc (new_branch r t moment p name head))
command_reply r t moment (DeleteBranch p b) = told branch_doc no.UnknownBranch (project_branch t p b)
command_reply r t moment (CreateTag p name c) = Made (tag_doc (new_tag r t moment p name c))
command_reply r t moment (DeleteTag p x) = told tag_doc no.UnknownTag (project_tag t p x)

-- ---- elements

-- data of these three types are no elements; all other data are
abbrev pub is_element : Doc → Bool
is_element d = let kind = field_at (codes "@type") (document d) in
    not (is_text (codes "ProjectUsage") kind || is_text (codes "ExternalData") kind || is_text (codes "ExternalRelationship") kind)

abbrev pub if_element : Doc → Option Doc
if_element d = if is_element d then Some d else None

-- the element with this id at a commit, as it is stored
abbrev pub element_at : Tables → ℕ → ℕ → Option Doc
element_at t c x = option_and_then if_element (t.own c x)

-- ---- data versions

-- the data version with this id among these
abbrev pub version_in : List Version → ℕ → Option Version
version_in [] id = None
version_in (v ∷ vs) id = if v.id == id then Some v else version_in vs id

-- ---- lists

-- the ids of the first n serials, which rise
abbrev pub drawn : ℕ → ℕ → List ℕ
drawn r zero = []
drawn r (suc n) = drawn r n ++ made_id r n ∷ []

-- Those records that are there, in ascending order of their ids. Each record's id is one of a serial that was drawn.
abbrev pub listed : {A : Type 0} → ℕ → Tables → (ℕ → Option A) → List A
listed r t record_at = filter_map record_at (drawn r t.next)

-- a list of records is told whole
abbrev pub page : {A : Type 0} → (A → Doc) → List A → Reply
page doc_of records = Page (documents (map doc_of records))

-- the head of a branch of the project
abbrev pub branch_head : Tables → ℕ → ℕ → Option ℕ
branch_head t p b = option_and_then (λ branch. branch.head) (project_branch t p b)

-- whether a commit is in the ancestry of the head of the branch, if one is given; without a head none is
abbrev pub is_on : Tables → ℕ → Option ℕ → ℕ → Bool
is_on t p None c = true
is_on t p (Some b) c = ancestry_at t.ancestry (branch_head t p b) c

-- a commit of the project, where it is on the branch
abbrev pub commit_on : Tables → ℕ → Option ℕ → ℕ → Option Commit
commit_on t p branch c = if is_on t p branch c then project_commit t p c else None

-- ---- look-ups

-- the rows of refusals of a look-up
abbrev pub read_rows : Tables → ReadCall → List (Option Refusal)
read_rows t Projects = []
read_rows t (OneProject p) = unknown_project t p ∷ []
read_rows t (Branches p) = unknown_project t p ∷ []
read_rows t (OneBranch p b) = unknown_project t p ∷ unknown_branch t p b ∷ []
read_rows t (Tags p) = unknown_project t p ∷ []
read_rows t (OneTag p x) = unknown_project t p ∷ unknown_tag t p x ∷ []
read_rows t (Commits p branch) = unknown_project t p ∷ if_given (unknown_branch t p) branch ∷ []
read_rows t (OneCommit p c) = unknown_project t p ∷ unknown_commit t p c ∷ []
read_rows t (Versions p c) = unknown_project t p ∷ unknown_commit t p c ∷ []
read_rows t (OneVersion p c v) =
    unknown_project t p
    ∷ unknown_commit t p c
    ∷ unless_there no.UnknownChange (version_in (t.versions c) v)
    ∷ []
read_rows t (OneElement p c x) =
    unknown_project t p
    ∷ unknown_commit t p c
    ∷ unless_there no.UnknownElement (element_at t c x)
    ∷ []

-- the records of a list, or the record that is looked up, or else the last row of the table above
abbrev pub found : ℕ → Tables → ReadCall → Reply
found r t Projects = page project_doc (listed r t t.project)
found r t (OneProject p) = told project_doc no.UnknownProject (t.project p)
found r t (Branches p) = page branch_doc (listed r t (project_branch t p))
found r t (OneBranch p b) = told branch_doc no.UnknownBranch (project_branch t p b)
found r t (Tags p) = page tag_doc (listed r t (project_tag t p))
found r t (OneTag p x) = told tag_doc no.UnknownTag (project_tag t p x)
found r t (Commits p branch) = page commit_doc (listed r t (commit_on t p branch))
found r t (OneCommit p c) = told commit_doc no.UnknownCommit (project_commit t p c)
found r t (Versions p c) = page version_doc (t.versions c)
found r t (OneVersion p c v) = told version_doc no.UnknownChange (version_in (t.versions c) v)
found r t (OneElement p c x) = told (λ d. d) no.UnknownElement (element_at t c x)

-- the reply to a look-up where the entries so far tell these tables
abbrev pub looked_up : ℕ → Tables → ReadCall → Reply
looked_up r t call = unless_refused (first (read_rows t call)) (found r t call)

-- the reply at a point, and at the history's end
abbrev pub reply_at : ℕ → ℕ → List Entry → ReadCall → Reply
reply_at r n past call = looked_up r (tables_at r n past) call

abbrev pub read_reply : ℕ → List Entry → ReadCall → Reply
read_reply r past call = looked_up r (tables r past) call

-- ---- calls

abbrev pub reply : ℕ → List Entry → ℕ → Call → Reply
reply r past moment (Write command) = unless_refused (first (rows (tables r past) command)) (command_reply r (tables r past) moment command)
reply r past moment (Read call) = read_reply r past call

-- the document of a reply is sound
abbrev pub IsSoundReply : Reply → Type 0
IsSoundReply (Made d) = IsSound (document d)
IsSoundReply (Found d) = IsSound (document d)
IsSoundReply (Page members) = IsSound (list (members_of members))
IsSoundReply (Refused why) = ⊤
