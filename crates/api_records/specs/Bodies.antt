-- The commands that bodies ask for. A body is judged key by key in a fixed order; the first key that is wrong is told, as the text
-- of its name. A body that is no object is told with the empty text. Keys that aren't named here are ignored.
use Rattle.std.specs.Prelude.{◌≡◌, ℕ, List, [], ◌∷◌, Option, Some, None, Result, Ok, Err, codes, ⊤}
use Rattle.sysapi_base.specs.Id.{id_of}
use Rattle.doc_value.specs.Document.{Document, null, text, list, object, Members, no_members, member, entries, field_at}
use Rattle.doc_value.specs.Reference.{reference}
use Rattle.doc_value.specs.declared.doc.Doc.{Doc}
use Rattle.doc_value.specs.declared.doc.Doc.TheVariants as doc
use Rattle.api_records.specs.declared.command.Change.{Change}
use Rattle.api_records.specs.declared.command.Command.{Command}
use Rattle.api_records.specs.declared.command.Command.TheVariants.{CreateProject, UpdateProject, CreateCommit, CreateBranch, CreateTag}
use Rattle.api_records.specs.declared.body.BodyKind.{BodyKind}
use Rattle.api_records.specs.declared.body.BodyKind.TheVariants as kind
use Rattle.api_records.specs.declared.body.ShapeError.{ShapeError}
use Rattle.api_records.specs.declared.body.ShapeError.TheVariants.{BadShape, Memory}

-- what is right, or the wrong key
abbrev pub Judged : Type 0 → Type 0
Judged A = Result A (List ℕ)

-- the second part is judged only where the first is right
abbrev pub and_then : {A B : Type 0} → Judged A → (A → Judged B) → Judged B
and_then (Ok a) next = next a
and_then (Err key) next = Err key

-- a value that has to be there
abbrev pub or_wrong : {A : Type 0} → List ℕ → Option A → Judged A
or_wrong key (Some a) = Ok a
or_wrong key None = Err key

-- ---- values at keys

-- a text, null or absent
abbrev pub text_or_none : List ℕ → Option Document → Judged (Option (List ℕ))
text_or_none key None = Ok None
text_or_none key (Some null) = Ok None
text_or_none key (Some (text s)) = Ok (Some s)
text_or_none key (Some other) = Err key

abbrev pub optional_text : List ℕ → Document → Judged (Option (List ℕ))
optional_text key d = text_or_none key (field_at key d)

abbrev pub some_of : {A : Type 0} → Judged A → Judged (Option A)
some_of j = and_then j (λ a. Ok (Some a))

-- a reference, null or absent
abbrev pub reference_or_none : List ℕ → Option Document → Judged (Option ℕ)
reference_or_none key None = Ok None
reference_or_none key (Some null) = Ok None
reference_or_none key (Some d) = some_of (or_wrong key (reference d))

-- the ids of references, each of which has to be one
abbrev pub all_references : List ℕ → Members → Judged (List ℕ)
all_references key no_members = Ok []
all_references key (member d ds) = and_then (or_wrong key (reference d)) (λ id. and_then (all_references key ds) (λ ids. Ok (id ∷ ids)))

-- a reference or a list of references, null or absent
abbrev pub references_or_none : List ℕ → Option Document → Judged (List ℕ)
references_or_none key None = Ok []
references_or_none key (Some null) = Ok []
references_or_none key (Some (list ds)) = all_references key ds
references_or_none key (Some d) = and_then (or_wrong key (reference d)) (λ id. Ok (id ∷ []))

-- ---- changes

-- an object, null or absent, as it is kept
abbrev pub object_or_none : List ℕ → Option Document → Judged (Option Doc)
object_or_none key None = Ok None
object_or_none key (Some null) = Ok None
object_or_none key (Some (object fs)) = Ok (Some (doc.Object (entries fs)))
object_or_none key (Some other) = Err key

-- an id's text, or nothing
abbrev pub right_id : Option Document → Judged ⊤
right_id None = Ok tt
right_id (Some (text s)) = and_then (or_wrong (codes "@id") (id_of s)) (λ id. Ok tt)
right_id (Some other) = Err (codes "@id")

-- the `@id` of a payload, if there is a payload
abbrev pub payload_named : Option Document → Judged ⊤
payload_named None = Ok tt
payload_named (Some d) = right_id (field_at (codes "@id") d)

abbrev pub payload_at : Option Document → Judged (Option Doc)
payload_at found = and_then (object_or_none (codes "payload") found) (λ payload. and_then (payload_named found) (λ right. Ok payload))

-- a member of `change`: its identity, then its payload, then the payload's `@id`
abbrev pub change_in : Document → Judged Change
change_in d = and_then (reference_or_none (codes "identity") (field_at (codes "identity") d))
    (λ identity. and_then (payload_at (field_at (codes "payload") d)) (λ payload. Ok (record { identity = identity; payload = payload })))

abbrev pub changes_in : Members → Judged (List Change)
changes_in no_members = Ok []
changes_in (member d ds) = and_then (change_in d) (λ c. and_then (changes_in ds) (λ cs. Ok (c ∷ cs)))

-- each member has to be an object
abbrev pub all_objects : List ℕ → Members → Judged ⊤
all_objects key no_members = Ok tt
all_objects key (member (object fs) ds) = all_objects key ds
all_objects key (member other ds) = Err key

-- a list of objects, null or absent, before any member's own keys are judged
abbrev pub changes_or_none : List ℕ → Option Document → Judged (List Change)
changes_or_none key None = Ok []
changes_or_none key (Some null) = Ok []
changes_or_none key (Some (list ds)) = and_then (all_objects key ds) (λ right. changes_in ds)
changes_or_none key (Some other) = Err key

-- ---- bodies

abbrev pub project_in : Document → Judged Command
project_in d = and_then (optional_text (codes "name") d) (λ name. and_then (optional_text (codes "description") d)
    (λ description. Ok (CreateProject name description)))

-- `name`, then `description`, then `defaultBranch`
abbrev pub update_in : ℕ → Document → Judged Command
update_in project d = and_then (optional_text (codes "name") d) (λ name. and_then (optional_text (codes "description") d)
    (λ description. and_then (reference_or_none (codes "defaultBranch") (field_at (codes "defaultBranch") d))
    (λ branch. Ok (UpdateProject project name description branch))))

-- `change`, then `description`, then `previousCommit`
abbrev pub commit_in : ℕ → Option ℕ → Document → Judged Command
commit_in project branch d = and_then (changes_or_none (codes "change") (field_at (codes "change") d))
    (λ changes. and_then (optional_text (codes "description") d)
    (λ description. and_then (references_or_none (codes "previousCommit") (field_at (codes "previousCommit") d))
    (λ previous. Ok (CreateCommit project branch previous description changes))))

-- the commit at which a branch begins: that of `head`, and where `head` is absent that of `referencedCommit`
abbrev pub head_in : Option Document → Option Document → Judged (Option ℕ)
head_in None referenced = reference_or_none (codes "referencedCommit") referenced
head_in (Some head) referenced = reference_or_none (codes "head") (Some head)

-- `name`, then the head
abbrev pub branch_in : ℕ → Document → Judged Command
branch_in project d = and_then (optional_text (codes "name") d)
    (λ name. and_then (head_in (field_at (codes "head") d) (field_at (codes "referencedCommit") d))
    (λ head. Ok (CreateBranch project name head)))

-- the commit of a tag: that of `taggedCommit`, and where this is absent that of `referencedCommit`; one of them has to be there
abbrev pub tagged_in : Option Document → Option Document → Judged ℕ
tagged_in (Some tagged) referenced = or_wrong (codes "taggedCommit") (reference tagged)
tagged_in None (Some referenced) = or_wrong (codes "referencedCommit") (reference referenced)
tagged_in None None = Err (codes "taggedCommit")

-- `name`, then the commit
abbrev pub tag_in : ℕ → Document → Judged Command
tag_in project d = and_then (optional_text (codes "name") d)
    (λ name. and_then (tagged_in (field_at (codes "taggedCommit") d) (field_at (codes "referencedCommit") d))
    (λ commit. Ok (CreateTag project name commit)))

-- the ids of a body's route: none for a project that is to be made, and the project's for all others
abbrev pub HasIds : BodyKind → List ℕ → Type 0
HasIds kind.Project ids = ids ≡ []
HasIds other ids = (project : ℕ) × (ids ≡ project ∷ [])

-- the command of an object on a project; `branch` is the one that the request names, which commits alone use
abbrev pub in_project : BodyKind → ℕ → Option ℕ → Document → Judged Command
in_project kind.Project project branch d = project_in d
in_project kind.ProjectUpdate project branch d = update_in project d
in_project kind.Commit project branch d = commit_in project branch d
in_project kind.Branch project branch d = branch_in project d
in_project kind.Tag project branch d = tag_in project d

abbrev pub object_in : BodyKind → List ℕ → Option ℕ → Document → Judged Command
object_in kind.Project ids branch d = project_in d
object_in other [] branch d = Err []
object_in other (project ∷ more) branch d = in_project other project branch d

-- the command of a body, or the wrong key
abbrev pub command_in : BodyKind → List ℕ → Option ℕ → Document → Judged Command
command_in k ids branch (object fs) = object_in k ids branch (object fs)
command_in k ids branch other = Err []

-- ---- what the code answers

-- an error tells the wrong key, unless memory was wanting
abbrev pub IsWrong : {A : Type 0} → ShapeError → Judged A → Type 0
IsWrong (BadShape key) expected = expected ≡ Err key
IsWrong Memory expected = ⊤

-- an answer is the judged one, unless memory was wanting
abbrev pub Shapes : {A : Type 0} → Result A ShapeError → Judged A → Type 0
Shapes (Ok a) expected = expected ≡ Ok a
Shapes (Err e) expected = IsWrong e expected
