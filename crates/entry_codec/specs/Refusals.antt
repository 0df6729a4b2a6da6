-- Refusals: the first row of a table that holds. A command is accepted exactly where it has none.
use Rattle.std.specs.Prelude.{ℕ, ◌+◌, ◌==◌, Bool, true, false, if◌then◌else◌, not, List, [], ◌∷◌, Option, Some, None, option_map, option_and_then, is_none, codes, position, bytes_eq}
use Rattle.doc_value.specs.Document.{Document, text, field_at}
use Rattle.doc_value.specs.Seen.{document}
use Rattle.doc_value.specs.declared.doc.Doc.{Doc}
use Rattle.api_records.specs.Sets.{added}
use Rattle.api_records.specs.Changes.{named, payload_id}
use Rattle.api_records.specs.declared.command.Change.{Change}
use Rattle.api_records.specs.declared.command.Command.{Command}
use Rattle.api_records.specs.declared.command.Command.TheVariants.{CreateProject, UpdateProject, DeleteProject, CreateCommit, CreateBranch, DeleteBranch, CreateTag, DeleteTag}
use Rattle.api_records.specs.declared.refusal.Refusal.{Refusal}
use Rattle.api_records.specs.declared.refusal.Refusal.TheVariants as no
use Rattle.entry_codec.specs.declared.entry.Entry.{Entry}
use Rattle.api_records.specs.declared.record.Project.{Project}
use Rattle.entry_codec.specs.Histories.{Tables, tables, project_branch, project_tag, project_commit, branch_of, head_of, own_at, is_at}

-- the first row that holds
abbrev pub first : List (Option Refusal) → Option Refusal
first [] = None
first (None ∷ rows) = first rows
first (Some why ∷ rows) = Some why

-- a record that has to be there
abbrev pub unless_there : {A : Type 0} → Refusal → Option A → Option Refusal
unless_there why (Some a) = None
unless_there why None = Some why

-- ---- the previous commit

-- two or more references
abbrev pub multiple : List ℕ → Option Refusal
multiple [] = None
multiple (c ∷ []) = None
multiple (c ∷ d ∷ cs) = Some no.MultiplePrevious

-- one reference has to be the head
abbrev pub moved : Option ℕ → List ℕ → Option Refusal
moved head [] = None
moved head (c ∷ cs) = if is_at head c then None else Some (no.HeadMoved head)

-- ---- changes

-- whether the given identity and the payload's `@id` differ
abbrev pub differ : Option ℕ → Option ℕ → Bool
differ None other = false
differ (Some x) None = false
differ (Some x) (Some y) = not (x == y)

abbrev pub is_mismatch : Change → Bool
is_mismatch c = differ c.identity (payload_id c.payload)

abbrev pub is_named : Option ℕ → (ℕ → Bool) → Bool
is_named None earlier = false
is_named (Some x) earlier = earlier x

abbrev pub and_also : Option ℕ → (ℕ → Bool) → ℕ → Bool
and_also None earlier = earlier
and_also (Some x) earlier = added x earlier

-- the place, counted from `place` on, of the first change with the identity of an earlier one
abbrev pub twice : ℕ → (ℕ → Bool) → List Change → Option ℕ
twice place earlier [] = None
twice place earlier (c ∷ cs) = if is_named (named c) earlier then Some place else twice (place + 1) (and_also (named c) earlier) cs

-- whether nothing is there to delete, by the own values at the previous commit; a change that names no identity deletes nothing
abbrev pub lacks : (ℕ → Option Doc) → Option ℕ → Bool
lacks own None = true
lacks own (Some x) = is_none (own x)

abbrev pub deletes_unknown : (ℕ → Option Doc) → Option ℕ → Option Doc → Bool
deletes_unknown own x (Some d) = false
deletes_unknown own x None = lacks own x

-- whether a value is this text
abbrev pub is_text : List ℕ → Option Document → Bool
is_text t (Some (text s)) = bytes_eq s t
is_text t other = false

-- whether a payload is a usage of another project
abbrev pub is_usage : Option Doc → Bool
is_usage None = false
is_usage (Some d) = is_text (codes "ProjectUsage") (field_at (codes "@type") (document d))

-- the least place of such a change
abbrev pub row : (ℕ → Refusal) → Option ℕ → Option Refusal
row why place = option_map why place

abbrev pub change_rows : (ℕ → Option Doc) → List Change → List (Option Refusal)
change_rows own cs =
    row (λ k. no.IdentityMismatch k) (position is_mismatch cs)
    ∷ row (λ k. no.IdentityTwice k) (twice 0 (λ x. false) cs)
    ∷ row (λ k. no.DeleteUnknown k) (position (λ c. deletes_unknown own (named c) c.payload) cs)
    ∷ row (λ k. no.UnknownPin k) (position (λ c. is_usage c.payload) cs)
    ∷ []

-- ---- other records

-- what is given has to be there; nothing given is no fault
abbrev pub if_given : (ℕ → Option Refusal) → Option ℕ → Option Refusal
if_given row None = None
if_given row (Some id) = row id

abbrev pub unknown_project : Tables → ℕ → Option Refusal
unknown_project t p = unless_there no.UnknownProject (t.project p)

abbrev pub unknown_branch : Tables → ℕ → ℕ → Option Refusal
unknown_branch t p b = unless_there no.UnknownBranch (project_branch t p b)

abbrev pub unknown_tag : Tables → ℕ → ℕ → Option Refusal
unknown_tag t p x = unless_there no.UnknownTag (project_tag t p x)

abbrev pub unknown_commit : Tables → ℕ → ℕ → Option Refusal
unknown_commit t p c = unless_there no.UnknownCommit (project_commit t p c)

-- the branch is the project's default one
abbrev pub is_default : Option Project → ℕ → Bool
is_default None b = false
is_default (Some project) b = project.default_branch == b

abbrev pub default_branch : Tables → ℕ → ℕ → Option Refusal
default_branch t p b = if is_default (t.project p) b then Some no.DefaultBranch else None

-- ---- commands

-- the rows of a command, where the entries so far tell these tables
abbrev pub rows : Tables → Command → List (Option Refusal)
rows t (CreateProject name description) = []
rows t (UpdateProject p name description branch) =
    unknown_project t p
    ∷ if_given (unknown_branch t p) branch
    ∷ []
rows t (DeleteProject p) = unknown_project t p ∷ []
rows t (CreateCommit p given previous description changes) =
    unknown_project t p
    ∷ unless_there no.UnknownBranch (option_and_then (project_branch t p) (branch_of t p given))
    ∷ multiple previous
    ∷ moved (head_of t p given) previous
    ∷ change_rows (own_at t.own (head_of t p given)) changes
rows t (CreateBranch p name head) =
    unknown_project t p
    ∷ if_given (unknown_commit t p) head
    ∷ []
rows t (DeleteBranch p b) =
    unknown_project t p
    ∷ unknown_branch t p b
    ∷ default_branch t p b
    ∷ []
rows t (CreateTag p name c) =
    unknown_project t p
    ∷ unknown_commit t p c
    ∷ []
rows t (DeleteTag p x) =
    unknown_project t p
    ∷ unknown_tag t p x
    ∷ []

-- the refusal of a command at a history, its newest entry first
abbrev pub refusal : ℕ → List Entry → Command → Option Refusal
refusal r past command = first (rows (tables r past) command)
