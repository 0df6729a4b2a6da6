use Rattle.std.proofs.Common.{◌≡◌, refl, arith}
use Rattle.commit_graph.proofs.Ancestors.{same_depth}
use Rattle.commit_graph.proofs.Meeting.{met_at, met_through}
use Rattle.commit_graph.proofs.graph.Graph.at_depth.Goals as goal

pub loop-commit-init : goal.loop-commit-init
loop-commit-init c = record {
  within = c.requires.c;
  met = met_at c.args.self.now c.args.c 0 c.args.c refl;
  deep = c.requires.depth;
}

pub nearer-commit-requires-clause-depth : goal.nearer-commit-requires-clause-depth
nearer-commit-requires-clause-depth c d has =
    let same : d ≡ c.depth.result = same_depth c.args.self.now c.loop-commit.commit d c.depth.result has c.depth.ensures.depth in
    omega arith

pub loop-commit-preserved : goal.loop-commit-preserved
loop-commit-preserved c = record {
  within = omega arith;
  met = met_through c.args.self.now c.args.c c.loop-commit.commit c.nearer-commit.result c.depth.result c.depth.ensures.depth
      c.loop-commit.invariant.met c.nearer-commit.ensures.met;
  deep = c.nearer-commit.ensures.depth;
}
