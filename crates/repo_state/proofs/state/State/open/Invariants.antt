use Rattle.std.proofs.Common.{take}
use Rattle.std.specs.Prelude.{reverse}
use Rattle.repo_state.proofs.OpeningLemmas.{IsOpened}
use Rattle.repo_state.proofs.state.State.open.Given as goal

-- the entries so far
abbrev pub invariant-loop-index : goal.invariant-loop-index
invariant-loop-index l = IsOpened l.repository (reverse (take l.index l.history)) l.state
