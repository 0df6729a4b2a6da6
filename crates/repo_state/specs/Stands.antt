-- A state stands for a history: what it shows at each id and point is what the history tells there.
use Rattle.std.specs.Prelude.{◌≡◌, ℕ, Bool, false, List, [], ◌∷◌, length, map, Option, Some, None, Result, Ok, Err, option_and_then, ⊤}
use Rattle.std.specs.Ordering.{nat_cmp}
use Rattle.std.specs.FinMap.{find}
use Rattle.std.specs.declared.sync.Arc.{Arc}
use Rattle.std.specs.declared.alloc.Global.{Global}
use Rattle.doc_value.specs.declared.doc.Doc.{Doc}
use Rattle.timeline.specs.Values.{Changes, value_at}
use Rattle.commit_graph.specs.Graphs.{has_ancestor}
use Rattle.api_records.specs.Sets.{has}
use Rattle.api_records.specs.declared.record.Commit.{Commit}
use Rattle.api_records.specs.declared.record.Version.{Version}
use Rattle.entry_codec.specs.declared.entry.Entry.{Entry}
use Rattle.entry_codec.specs.Histories.{tables, tables_at}
use Rattle.entry_codec.specs.Refusals.{refusal}
use Rattle.entry_codec.specs.Replies.{command_reply}
use Rattle.repo_state.specs.declared.state.State.{State}
use Rattle.repo_state.specs.declared.data.CommitData.{CommitData}
use Rattle.repo_state.specs.declared.accept.Accepted.{Accepted}
use Rattle.repo_state.specs.declared.accept.AcceptError.{AcceptError}
use Rattle.repo_state.specs.declared.accept.AcceptError.TheVariants.{Refused, Memory}

-- the number of a state's repository, and of the entries that it stands for
abbrev pub repository_of : State → ℕ
repository_of s = s.repository

abbrev pub front_of : State → ℕ
front_of s = s.front

-- ---- what is shown of a commit

abbrev pub commit_of : CommitData → Commit
commit_of d = d.commit

abbrev pub versions_of : CommitData → List Version
versions_of d = map (λ (v : Arc Version Global). v.value) d.versions.items

-- the value of a datum is the payload of the version that stored it last
abbrev pub own_of : CommitData → ℕ → Option Doc
own_of d x = option_and_then (λ v. v.payload) (find nat_cmp x d.own)

abbrev pub commit_shown : Option CommitData → Option Commit
commit_shown None = None
commit_shown (Some d) = Some (commit_of d)

abbrev pub versions_shown : Option CommitData → List Version
versions_shown None = []
versions_shown (Some d) = versions_of d

abbrev pub own_shown : Option CommitData → ℕ → Option Doc
own_shown None x = None
own_shown (Some d) x = own_of d x

abbrev pub known_shown : Option (List ℕ) → ℕ → Bool
known_shown None = λ x. false
known_shown (Some ids) = has ids

-- ---- the ancestry of a commit

-- whether the second commit is the first or stands before it in the graph. Where one is absent, it is not
abbrev pub is_behind : List (Option ℕ) → Option CommitData → Option CommitData → Bool
is_behind graph None other = false
is_behind graph (Some d) None = false
is_behind graph (Some d) (Some e) = has_ancestor graph e.number d.number

-- which ids are of commits that are there at the point m and stand in the ancestry of the one with the id c
abbrev pub ancestry_in : List (Option ℕ) → Changes CommitData → ℕ → ℕ → ℕ → Bool
ancestry_in graph commits m c a = is_behind graph (value_at commits c m) (value_at commits a m)

abbrev pub ancestry_of : State → ℕ → ℕ → ℕ → Bool
ancestry_of s m c = ancestry_in s.graph s.commits m c

-- ---- what a state stands for

-- The tables of a history, its newest entry first, are what the state shows, at each point m. The next serial and the known identities
-- are those of the whole history.
pub record StandsFor (s : State) (past : List Entry) : Type 0 where
  pub front : s.front ≡ length past
  pub next : s.next ≡ (tables s.repository past).next
  pub projects : (p m : ℕ) → value_at s.projects p m ≡ (tables_at s.repository m past).project p
  pub branches : (b m : ℕ) → value_at s.branches b m ≡ (tables_at s.repository m past).branch b
  pub tags : (x m : ℕ) → value_at s.tags x m ≡ (tables_at s.repository m past).tag x
  pub commits : (c m : ℕ) → commit_shown (value_at s.commits c m) ≡ (tables_at s.repository m past).commit c
  pub versions : (c m : ℕ) → versions_shown (value_at s.commits c m) ≡ (tables_at s.repository m past).versions c
  pub own_values : (c m : ℕ) → own_shown (value_at s.commits c m) ≡ (tables_at s.repository m past).own c
  pub ancestry : (c m : ℕ) → ancestry_of s m c ≡ (tables_at s.repository m past).ancestry c
  pub known_ids : (p : ℕ) → known_shown (find nat_cmp p s.known) ≡ (tables s.repository past).known p

-- the entry has no refusal; the new state stands for the history and the entry, and the reply is the one that is defined
pub record IsAccepted (s : State) (past : List Entry) (e : Entry) (a : Accepted) : Type 0 where
  pub allowed : refusal (repository_of s) past e.command ≡ None
  pub same : repository_of a.state ≡ repository_of s
  pub stands : StandsFor a.state (e ∷ past)
  pub replies : a.reply ≡ command_reply (repository_of s) (tables (repository_of s) past) e.moment e.command

-- what `accept` answers for an entry: want of memory says nothing
abbrev pub Accepts : State → List Entry → Entry → Result Accepted AcceptError → Type 0
Accepts s past e (Ok a) = IsAccepted s past e a
Accepts s past e (Err (Refused why)) = refusal (repository_of s) past e.command ≡ Some why
Accepts s past e (Err Memory) = ⊤
