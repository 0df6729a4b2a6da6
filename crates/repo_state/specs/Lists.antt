-- The ids of the records of a kind.
use Rattle.std.specs.Prelude.{ℕ, Bool, List, Option, Some, None, is_some}
use Rattle.std.specs.List.{filter}
use Rattle.entry_codec.specs.Histories.{Tables, project_branch, project_tag, project_commit}
use Rattle.entry_codec.specs.Replies.{drawn}
use Rattle.timeline.specs.Values.{value_at}
use Rattle.repo_state.specs.Stands.{commit_shown}
use Rattle.repo_state.specs.Shown.{shown}
use Rattle.repo_state.specs.declared.state.State.{State}
use Rattle.repo_state.specs.declared.list.Kind.{Kind}
use Rattle.repo_state.specs.declared.list.Kind.TheVariants.{Projects, Branches, Tags, Commits}

-- whether a record of the kind has this id, where a project is given one of that project
abbrev pub is_listed : Kind → Option ℕ → Tables → ℕ → Bool
is_listed Projects of t q = is_some (t.project q)
is_listed Branches None t q = is_some (t.branch q)
is_listed Branches (Some p) t q = is_some (project_branch t p q)
is_listed Tags None t q = is_some (t.tag q)
is_listed Tags (Some p) t q = is_some (project_tag t p q)
is_listed Commits None t q = is_some (t.commit q)
is_listed Commits (Some p) t q = is_some (project_commit t p q)

-- the ids of these records, which rise
abbrev pub ids_listed : ℕ → Kind → Option ℕ → Tables → List ℕ
ids_listed r kind of t = filter (is_listed kind of t) (drawn r t.next)

-- the records of a state at a point; the rest is as at its front
abbrev pub records_at : State → ℕ → Tables
records_at s n = record (shown s) {
  project = λ p. value_at s.projects p n;
  branch = λ b. value_at s.branches b n;
  tag = λ x. value_at s.tags x n;
  commit = λ c. commit_shown (value_at s.commits c n);
}
