-- What a history of accepted commands means (Systems Modeling API 1.0, ProjectService, BranchService, TagService and CommitService).
-- `past` has the entries, the newest first, so that what is asked about a record is found by a scan backwards; r is the repository's
-- number.
use Rattle.std.specs.Prelude.{◌≡◌, ℕ, ◌+◌, ◌-◌, ◌==◌, Bool, false, if◌then◌else◌, List, [], ◌∷◌, length, drop, Option, Some, None, option_map, option_and_then, unwrap_or}
use Rattle.sysapi_base.specs.Id.{made_id}
use Rattle.doc_value.specs.declared.doc.Doc.{Doc}
use Rattle.api_records.specs.Sets.{added}
use Rattle.api_records.specs.Changes.{known_with, versions, last_serial}
use Rattle.api_records.specs.declared.command.Change.{Change}
use Rattle.api_records.specs.declared.command.Command.{Command}
use Rattle.api_records.specs.declared.command.Command.TheVariants.{CreateProject, UpdateProject, DeleteProject, CreateCommit, CreateBranch, DeleteBranch, CreateTag, DeleteTag}
use Rattle.api_records.specs.declared.record.Project.{Project}
use Rattle.api_records.specs.declared.record.Branch.{Branch}
use Rattle.api_records.specs.declared.record.Tag.{Tag}
use Rattle.api_records.specs.declared.record.Commit.{Commit}
use Rattle.api_records.specs.declared.record.Version.{Version}
use Rattle.entry_codec.specs.declared.entry.Entry.{Entry}

-- What entries tell, by id.
pub record Tables : Type 0 where
  -- the next serial; they are drawn from 0 on, by accepted commands alone
  pub next : ℕ
  -- the record with this id, if there is one
  pub project : ℕ → Option Project
  pub branch : ℕ → Option Branch
  pub tag : ℕ → Option Tag
  pub commit : ℕ → Option Commit
  -- the data versions of a commit, one for each of its changes, in their order
  pub versions : ℕ → List Version
  -- at a commit, the value of the datum with this identity, as that commit or one before it in its ancestry stored it
  pub own : ℕ → ℕ → Option Doc
  -- whether a commit has another one in its ancestry, which is itself and its previous commits
  pub ancestry : ℕ → ℕ → Bool
  -- whether an identity is known in a project: some change of its commits has it
  pub known : ℕ → ℕ → Bool

-- ---- records of a project

-- a record, where it is one of this project
abbrev pub owned : {A : Type 0} → (A → ℕ) → ℕ → Option A → Option A
owned project_of p None = None
owned project_of p (Some a) = if project_of a == p then Some a else None

abbrev pub project_branch : Tables → ℕ → ℕ → Option Branch
project_branch t p b = owned (λ branch. branch.project) p (t.branch b)

abbrev pub project_tag : Tables → ℕ → ℕ → Option Tag
project_tag t p x = owned (λ tag. tag.project) p (t.tag x)

abbrev pub project_commit : Tables → ℕ → ℕ → Option Commit
project_commit t p c = owned (λ commit. commit.project) p (t.commit c)

-- ---- what one entry does

-- From now on the record with an id is this one, or none; a branch has this head; a commit is there, with these data versions.
pub data Event : Type 0 where
  project_is : ℕ → Option Project → Event
  branch_is : ℕ → Option Branch → Event
  tag_is : ℕ → Option Tag → Event
  head_is : Option ℕ → ℕ → Event
  commit_is : Commit → List Version → Event

-- the records that commands make at this moment
abbrev pub new_project : ℕ → Tables → ℕ → Option (List ℕ) → Option (List ℕ) → Project
new_project r t moment name description =
    record { id = made_id r t.next; name = name; description = description; default_branch = made_id r (t.next + 1); created = moment }

abbrev pub new_default_branch : ℕ → Tables → ℕ → Branch
new_default_branch r t moment = record { id = made_id r (t.next + 1); project = made_id r t.next; name = None; head = None; created = moment }

abbrev pub new_branch : ℕ → Tables → ℕ → ℕ → Option (List ℕ) → Option ℕ → Branch
new_branch r t moment p name head = record { id = made_id r t.next; project = p; name = name; head = head; created = moment }

abbrev pub new_tag : ℕ → Tables → ℕ → ℕ → Option (List ℕ) → ℕ → Tag
new_tag r t moment p name c = record { id = made_id r t.next; project = p; name = name; commit = c; created = moment }

-- a project with another name and description and, where one is given, another default branch
abbrev pub updated : Option (List ℕ) → Option (List ℕ) → Option ℕ → Project → Project
updated name description branch p = record p { name = name; description = description; default_branch = unwrap_or branch p.default_branch }

-- the branch of a commit, which is the given one or else the project's default branch, and the head that the commit meets there
abbrev pub branch_of : Tables → ℕ → Option ℕ → Option ℕ
branch_of t p (Some b) = Some b
branch_of t p None = option_map (λ project. project.default_branch) (t.project p)

abbrev pub head_of : Tables → ℕ → Option ℕ → Option ℕ
head_of t p given = option_and_then (λ branch. branch.head) (option_and_then (project_branch t p) (branch_of t p given))

abbrev pub new_commit : ℕ → Tables → ℕ → ℕ → Option ℕ → Option (List ℕ) → Commit
new_commit r t moment p given description =
    record { id = made_id r t.next; project = p; description = description; previous = head_of t p given; created = moment }

-- the data versions of a commit's changes, whose serials stand behind the commit's own
abbrev pub new_versions : ℕ → Tables → ℕ → List Change → List Version
new_versions r t p changes = versions r (known_with (t.known p) changes) (t.next + 1) changes

-- a row a command
abbrev pub events_of : ℕ → Tables → ℕ → Command → List Event
events_of r t moment (CreateProject name description) =
    project_is (made_id r t.next) (Some (new_project r t moment name description))
    ∷ branch_is (made_id r (t.next + 1)) (Some (new_default_branch r t moment))
    ∷ []
events_of r t moment (UpdateProject p name description branch) = project_is p (option_map (updated name description branch) (t.project p)) ∷ []
events_of r t moment (DeleteProject p) = project_is p None ∷ []
events_of r t moment (CreateCommit p given previous description changes) =
    commit_is (new_commit r t moment p given description) (new_versions r t p changes)
    ∷ head_is (branch_of t p given) (made_id r t.next)
    ∷ []
events_of r t moment (CreateBranch p name head) = branch_is (made_id r t.next) (Some (new_branch r t moment p name head)) ∷ []
events_of r t moment (DeleteBranch p b) = branch_is b None ∷ []
events_of r t moment (CreateTag p name c) = tag_is (made_id r t.next) (Some (new_tag r t moment p name c)) ∷ []
events_of r t moment (DeleteTag p x) = tag_is x None ∷ []

-- The next serial behind a command: a project takes one for itself and then one for its default branch, a commit one for itself and
-- then those of its changes, a branch and a tag one each. Nothing else takes one.
abbrev pub next_behind : ℕ → Tables → Command → ℕ
next_behind r t (CreateProject name description) = t.next + 2
next_behind r t (CreateCommit p given previous description changes) = last_serial r (known_with (t.known p) changes) (t.next + 1) changes
next_behind r t (CreateBranch p name head) = t.next + 1
next_behind r t (CreateTag p name c) = t.next + 1
next_behind r t other = t.next

-- ---- what the last event on an id tells; without one the older entries tell it

abbrev pub project_by : List Event → ℕ → Option Project → Option Project
project_by [] q older = older
project_by (project_is p new ∷ es) q older = project_by es q (if p == q then new else older)
project_by (other ∷ es) q older = project_by es q older

abbrev pub is_at : Option ℕ → ℕ → Bool
is_at None q = false
is_at (Some b) q = b == q

abbrev pub with_head : ℕ → Branch → Branch
with_head c b = record b { head = Some c }

abbrev pub branch_by : List Event → ℕ → Option Branch → Option Branch
branch_by [] q older = older
branch_by (branch_is b new ∷ es) q older = branch_by es q (if b == q then new else older)
branch_by (head_is b c ∷ es) q older = branch_by es q (if is_at b q then option_map (with_head c) older else older)
branch_by (other ∷ es) q older = branch_by es q older

abbrev pub tag_by : List Event → ℕ → Option Tag → Option Tag
tag_by [] q older = older
tag_by (tag_is x new ∷ es) q older = tag_by es q (if x == q then new else older)
tag_by (other ∷ es) q older = tag_by es q older

abbrev pub commit_by : List Event → ℕ → Option Commit → Option Commit
commit_by [] q older = older
commit_by (commit_is c vs ∷ es) q older = commit_by es q (if c.id == q then Some c else older)
commit_by (other ∷ es) q older = commit_by es q older

abbrev pub versions_by : List Event → ℕ → List Version → List Version
versions_by [] q older = older
versions_by (commit_is c vs ∷ es) q older = versions_by es q (if c.id == q then vs else older)
versions_by (other ∷ es) q older = versions_by es q older

-- The value of x behind versions: that of the version for x, else the older one. A commit has one version at most for a datum.
abbrev pub own_in : List Version → ℕ → Option Doc → Option Doc
own_in [] x older = older
own_in (v ∷ vs) x older = own_in vs x (if v.identity == x then v.payload else older)

abbrev pub own_at : (ℕ → ℕ → Option Doc) → Option ℕ → ℕ → Option Doc
own_at own None x = None
own_at own (Some c) x = own c x

-- a commit stores its versions on the own values of its previous commit
abbrev pub own_by : (ℕ → ℕ → Option Doc) → List Event → ℕ → ℕ → Option Doc → Option Doc
own_by own [] q x older = older
own_by own (commit_is c vs ∷ es) q x older = own_by own es q x (if c.id == q then own_in vs x (own_at own c.previous x) else older)
own_by own (other ∷ es) q x older = own_by own es q x older

abbrev pub ancestry_at : (ℕ → ℕ → Bool) → Option ℕ → ℕ → Bool
ancestry_at ancestry None a = false
ancestry_at ancestry (Some c) a = ancestry c a

-- a commit joins the ancestry of its previous commit
abbrev pub ancestry_by : (ℕ → ℕ → Bool) → List Event → ℕ → (ℕ → Bool) → ℕ → Bool
ancestry_by ancestry [] q older = older
ancestry_by ancestry (commit_is c vs ∷ es) q older = ancestry_by ancestry es q (if c.id == q then added c.id (ancestry_at ancestry c.previous) else older)
ancestry_by ancestry (other ∷ es) q older = ancestry_by ancestry es q older

abbrev pub with_identities : (ℕ → Bool) → List Version → ℕ → Bool
with_identities known [] = known
with_identities known (v ∷ vs) = with_identities (added v.identity known) vs

abbrev pub known_by : List Event → ℕ → (ℕ → Bool) → ℕ → Bool
known_by [] p older = older
known_by (commit_is c vs ∷ es) p older = known_by es p (if c.project == p then with_identities older vs else older)
known_by (other ∷ es) p older = known_by es p older

-- ---- histories

-- what is told behind one more entry
abbrev pub behind : ℕ → Tables → Entry → Tables
behind r t e = record {
  next = next_behind r t e.command;
  project = λ q. project_by (events_of r t e.moment e.command) q (t.project q);
  branch = λ q. branch_by (events_of r t e.moment e.command) q (t.branch q);
  tag = λ q. tag_by (events_of r t e.moment e.command) q (t.tag q);
  commit = λ q. commit_by (events_of r t e.moment e.command) q (t.commit q);
  versions = λ q. versions_by (events_of r t e.moment e.command) q (t.versions q);
  own = λ q x. own_by t.own (events_of r t e.moment e.command) q x (t.own q x);
  ancestry = λ q. ancestry_by t.ancestry (events_of r t e.moment e.command) q (t.ancestry q);
  known = λ p. known_by (events_of r t e.moment e.command) p (t.known p);
}

abbrev pub no_tables : Tables
no_tables = record {
  next = 0;
  project = λ q. None;
  branch = λ q. None;
  tag = λ q. None;
  commit = λ q. None;
  versions = λ q. [];
  own = λ q x. None;
  ancestry = λ q a. false;
  known = λ p x. false;
}

-- what a history tells, its newest entry first
abbrev pub tables : ℕ → List Entry → Tables
tables r [] = no_tables
tables r (e ∷ past) = behind r (tables r past) e

-- the first n entries, and all of them where there are no more
abbrev pub first_entries : ℕ → List Entry → List Entry
first_entries n past = drop (length past - n) past

-- what stands at the point n: what the first n entries tell
abbrev pub tables_at : ℕ → ℕ → List Entry → Tables
tables_at r n past = tables r (first_entries n past)

-- ---- laws

-- a commit stays as it is at a longer history
pub record Stays (r : ℕ) (past longer : List Entry) (c : ℕ) : Type 0 where
  pub commit : (tables r longer).commit c ≡ (tables r past).commit c
  pub versions : (tables r longer).versions c ≡ (tables r past).versions c
  pub own_values : (x : ℕ) → (tables r longer).own c x ≡ (tables r past).own c x
  pub ancestry : (a : ℕ) → (tables r longer).ancestry c a ≡ (tables r past).ancestry c a
