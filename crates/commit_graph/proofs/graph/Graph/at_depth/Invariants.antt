use Rattle.std.proofs.Common.{ℕ, ◌<◌, ◌≤◌, length}
use Rattle.commit_graph.specs.Graphs.{HasDepth}
use Rattle.commit_graph.specs.Kept.{IsMet}
use Rattle.commit_graph.proofs.graph.Graph.at_depth.Given as goal

abbrev pub invariant-loop-commit : goal.invariant-loop-commit
invariant-loop-commit l = record {
  within : l.commit < length l.self;
  met : IsMet l.self l.c l.commit;
  deep : (d : ℕ) → HasDepth l.self l.commit d → l.depth ≤ d;
}

abbrev pub decreases-loop-commit : goal.decreases-loop-commit
decreases-loop-commit l = l.commit
