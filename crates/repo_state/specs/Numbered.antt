-- The numbers of commits in the graph.
use Rattle.std.specs.Prelude.{ℕ, ◌<◌, List, Option, Some, None, IfSome, length}
use Rattle.std.proofs.Math.Bridge.{le_prop}
use mathlib.Core.HLevel.{Unit-prop}
use Rattle.timeline.specs.Values.{Changes, value_at}
use Rattle.repo_state.specs.declared.data.CommitData.{CommitData}

-- the commit, if there is one, has a number in the graph
abbrev pub IsNumbered : List (Option ℕ) → Option CommitData → Type 0
IsNumbered graph d = IfSome d (λ (x : CommitData). x.number < length graph)

-- each commit has, at each point
abbrev pub AreNumbered : List (Option ℕ) → Changes CommitData → Type 0
AreNumbered graph commits = (q m : ℕ) → IsNumbered graph (value_at commits q m)

-- a fact of a struct's field has one proof at most
pub IsNumbered-prop : (graph : List (Option ℕ)) (d : Option CommitData) → IsProp (IsNumbered graph d)
IsNumbered-prop graph None = Unit-prop
IsNumbered-prop graph (Some d) = le_prop
