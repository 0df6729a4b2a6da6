-- What a state itself tells, and what a command makes of it. Nothing here speaks of a history.
use Rattle.std.specs.Prelude.{◌≡◌, ℕ, ◌+◌, ◌≤◌, nat_le, if◌then◌else◌, List, [], ◌∷◌, ◌++◌, length, Option, Some, None, option_map, Result, Ok, Err, ⊤}
use Rattle.std.specs.Ordering.{nat_cmp}
use Rattle.std.specs.FinMap.{find, put}
use Rattle.sysapi_base.specs.Id.{made_id}
use Rattle.timeline.specs.Values.{value_at, changed}
use Rattle.commit_graph.specs.Graphs.{IsGraph}
use Rattle.api_records.specs.Sets.{has}
use Rattle.api_records.specs.Changes.{known_with, versions, last_serial}
use Rattle.api_records.specs.Records.{commit_doc}
use Rattle.api_records.specs.declared.command.Change.{Change}
use Rattle.api_records.specs.declared.record.Commit.{Commit}
use Rattle.api_records.specs.declared.record.Version.{Version}
use Rattle.api_records.specs.declared.record.Project.{Project}
use Rattle.api_records.specs.declared.record.Branch.{Branch}
use Rattle.api_records.specs.declared.record.Tag.{Tag}
use Rattle.entry_codec.specs.declared.entry.Entry.{Entry}
use Rattle.entry_codec.specs.declared.reply.Reply.TheVariants.{Made}
use Rattle.entry_codec.specs.Histories.{Tables, Event, events_of, next_behind, project_by, branch_by, tag_by, commit_by, versions_by, own_by, ancestry_at, ancestry_by, known_by, with_head, own_in, with_identities}
use Rattle.entry_codec.specs.Refusals.{first, rows}
use Rattle.entry_codec.specs.Replies.{command_reply}
use Rattle.repo_state.specs.Numbered.{AreNumbered}
use Rattle.repo_state.specs.Stands.{versions_of, own_of, is_behind, ancestry_of, commit_shown, versions_shown, own_shown, known_shown}
use Rattle.repo_state.specs.declared.commit.Made.{Made as MadeCommit}
use Rattle.repo_state.specs.declared.state.State.{State}
use Rattle.repo_state.specs.declared.data.CommitData.{CommitData}
use Rattle.repo_state.specs.declared.accept.Accepted.{Accepted}
use Rattle.repo_state.specs.declared.accept.AcceptError.{AcceptError}
use Rattle.repo_state.specs.declared.accept.AcceptError.TheVariants.{Refused, Memory}

-- the tables of a state at its front
abbrev pub shown : State → Tables
shown s = record {
  next = s.next;
  project = λ p. value_at s.projects p s.front;
  branch = λ b. value_at s.branches b s.front;
  tag = λ x. value_at s.tags x s.front;
  commit = λ c. commit_shown (value_at s.commits c s.front);
  versions = λ c. versions_shown (value_at s.commits c s.front);
  own = λ c. own_shown (value_at s.commits c s.front);
  ancestry = λ c. ancestry_of s s.front c;
  known = λ p. known_shown (find nat_cmp p s.known);
}

-- ---- an entry

abbrev pub events_at : State → Entry → List Event
events_at s e = events_of s.repository (shown s) e.moment e.command

-- from the point n on another value, and below n the old one
abbrev pub from_on : {A : Type 0} → ℕ → ℕ → (A → A) → A → A
from_on n m change older = if nat_le n m then change older else older

-- Each commit has a number in the graph, in which each previous one is earlier, and from the front on each stays.
pub record KeepsCommits (s : State) : Type 0 where
  pub numbered : AreNumbered s.graph s.commits
  pub earlier : IsGraph s.graph
  pub stays : (q m : ℕ) → s.front ≤ m → value_at s.commits q m ≡ value_at s.commits q s.front

-- what stands behind the commit `older` at the front is the ancestry of the commit with the id `head`, if there is one
abbrev pub IsBehind : State → Option CommitData → Option ℕ → Type 0
IsBehind s older head = (x : ℕ) → is_behind s.graph older (value_at s.commits x s.front) ≡ ancestry_at (shown s).ancestry head x

-- no commit has the id that the next commit gets
abbrev pub IsFresh : State → Type 0
IsFresh s = (m : ℕ) → value_at s.commits (made_id s.repository s.next) m ≡ None

-- From its front on the new state shows what the entry's events tell upon what was shown; at each point before it shows the same. The
-- reply is the entry's.
pub record Follows (s : State) (e : Entry) (a : Accepted) : Type 0 where
  pub same : a.state.repository ≡ s.repository
  pub front : a.state.front ≡ s.front + 1
  pub next : a.state.next ≡ next_behind s.repository (shown s) e.command
  pub projects : (q m : ℕ) → value_at a.state.projects q m ≡ from_on (s.front + 1) m (project_by (events_at s e) q) (value_at s.projects q m)
  pub branches : (q m : ℕ) → value_at a.state.branches q m ≡ from_on (s.front + 1) m (branch_by (events_at s e) q) (value_at s.branches q m)
  pub tags : (q m : ℕ) → value_at a.state.tags q m ≡ from_on (s.front + 1) m (tag_by (events_at s e) q) (value_at s.tags q m)
  pub commits : (q m : ℕ) → commit_shown (value_at a.state.commits q m) ≡ from_on (s.front + 1) m (commit_by (events_at s e) q) (commit_shown (value_at s.commits q m))
  pub versions : (q m : ℕ) → versions_shown (value_at a.state.commits q m) ≡ from_on (s.front + 1) m (versions_by (events_at s e) q) (versions_shown (value_at s.commits q m))
  pub own_values : (q m : ℕ) → own_shown (value_at a.state.commits q m) ≡ from_on (s.front + 1) m (λ older x. own_by (shown s).own (events_at s e) q x (older x)) (own_shown (value_at s.commits q m))
  pub ancestry : IsFresh s → (q m : ℕ) → ancestry_of a.state m q ≡ from_on (s.front + 1) m (ancestry_by (shown s).ancestry (events_at s e) q) (ancestry_of s m q)
  pub known_ids : (p : ℕ) → known_shown (find nat_cmp p a.state.known) ≡ known_by (events_at s e) p (known_shown (find nat_cmp p s.known))
  pub reply : a.reply ≡ command_reply s.repository (shown s) e.moment e.command

-- what a state answers to an entry, by its own tables
abbrev pub Judges : State → Entry → Result Accepted AcceptError → Type 0
Judges s e (Ok a) = (first (rows (shown s) e.command) ≡ None) × Follows s e a
Judges s e (Err (Refused why)) = first (rows (shown s) e.command) ≡ Some why
Judges s e (Err Memory) = ⊤

-- ---- changes of a state that is being made

-- the state at the next point, with this next serial and all else as it was
pub record IsNext (old new : State) (serial : ℕ) : Type 0 where
  pub same : new.repository ≡ old.repository
  pub front : new.front ≡ old.front + 1
  pub next : new.next ≡ serial
  pub projects : new.projects ≡ old.projects
  pub branches : new.branches ≡ old.branches
  pub tags : new.tags ≡ old.tags
  pub commits : new.commits ≡ old.commits
  pub graph : new.graph ≡ old.graph
  pub known : new.known ≡ old.known

-- the state's numbers are as they were
pub record SameNumbers (old new : State) : Type 0 where
  pub same : new.repository ≡ old.repository
  pub front : new.front ≡ old.front
  pub next : new.next ≡ old.next

-- from the front on the project with the id is this one, or none
pub record SetsProject (old new : State) (id : ℕ) (value : Option Project) : Type 0 where
  pub numbers : SameNumbers old new
  pub projects : (q m : ℕ) → value_at new.projects q m ≡ changed (value_at old.projects) id old.front value q m
  pub branches : new.branches ≡ old.branches
  pub tags : new.tags ≡ old.tags
  pub commits : new.commits ≡ old.commits
  pub graph : new.graph ≡ old.graph
  pub known : new.known ≡ old.known

pub record SetsBranch (old new : State) (id : ℕ) (value : Option Branch) : Type 0 where
  pub numbers : SameNumbers old new
  pub projects : new.projects ≡ old.projects
  pub branches : (q m : ℕ) → value_at new.branches q m ≡ changed (value_at old.branches) id old.front value q m
  pub tags : new.tags ≡ old.tags
  pub commits : new.commits ≡ old.commits
  pub graph : new.graph ≡ old.graph
  pub known : new.known ≡ old.known

pub record SetsTag (old new : State) (id : ℕ) (value : Option Tag) : Type 0 where
  pub numbers : SameNumbers old new
  pub projects : new.projects ≡ old.projects
  pub branches : new.branches ≡ old.branches
  pub tags : (q m : ℕ) → value_at new.tags q m ≡ changed (value_at old.tags) id old.front value q m
  pub commits : new.commits ≡ old.commits
  pub graph : new.graph ≡ old.graph
  pub known : new.known ≡ old.known

-- the commit is there from the front on, the graph is this one, and these identities are known in the commit's project
pub record AddsCommit (old new : State) (made : CommitData) (whole : List (Option ℕ)) (ids : List ℕ) : Type 0 where
  pub numbers : SameNumbers old new
  pub projects : new.projects ≡ old.projects
  pub branches : new.branches ≡ old.branches
  pub tags : new.tags ≡ old.tags
  pub commits : (q m : ℕ) → value_at new.commits q m ≡ changed (value_at old.commits) made.commit.id old.front (Some made) q m
  pub graph : new.graph ≡ whole
  pub known : new.known ≡ put nat_cmp made.commit.project ids old.known

-- ---- commits

-- the data versions of a commit
abbrev pub versions_drawn : State → Commit → List Change → List Version
versions_drawn s c cs = versions s.repository (known_with ((shown s).known c.project) cs) (s.next + 1) cs

-- the number of a commit in the graph, if there is a commit
abbrev pub number_of : Option CommitData → Option ℕ
number_of older = option_map (λ (d : CommitData). d.number) older

-- what a commit leaves, where `older` is the commit before it
pub record IsMade (s : State) (c : Commit) (older : Option CommitData) (cs : List Change) (m : MadeCommit) : Type 0 where
  pub commit : m.data.commit ≡ c
  pub versions : versions_of m.data ≡ versions_drawn s c cs
  pub own_values : own_of m.data ≡ (λ x. own_in (versions_drawn s c cs) x (own_shown older x))
  pub number : m.data.number ≡ length s.graph
  pub graph : m.graph ≡ s.graph ++ number_of older ∷ []
  pub identities : has m.identities ≡ with_identities ((shown s).known c.project) (versions_drawn s c cs)
  pub next : m.next ≡ last_serial s.repository (known_with ((shown s).known c.project) cs) (s.next + 1) cs

-- the state behind such a commit on the branch with this id, and the reply to it
pub record IsCommitted (s : State) (m : MadeCommit) (id : ℕ) (branch : Branch) (a : Accepted) : Type 0 where
  pub same : a.state.repository ≡ s.repository
  pub front : a.state.front ≡ s.front + 1
  pub next : a.state.next ≡ m.next
  pub projects : a.state.projects ≡ s.projects
  pub tags : a.state.tags ≡ s.tags
  pub branches : (q n : ℕ) → value_at a.state.branches q n ≡ changed (value_at s.branches) id (s.front + 1) (Some (with_head m.data.commit.id branch)) q n
  pub commits : (q n : ℕ) → value_at a.state.commits q n ≡ changed (value_at s.commits) m.data.commit.id (s.front + 1) (Some m.data) q n
  pub graph : a.state.graph ≡ m.graph
  pub known : a.state.known ≡ put nat_cmp m.data.commit.project m.identities s.known
  pub reply : a.reply ≡ Made (commit_doc m.data.commit)
