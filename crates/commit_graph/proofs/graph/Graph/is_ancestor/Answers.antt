use Rattle.std.proofs.Common.{◌≡◌, arith, false, nat_eq}
use Rattle.commit_graph.proofs.Ancestors.{same_depth}
use Rattle.commit_graph.proofs.Meeting.{told_at, not_told}
use Rattle.commit_graph.proofs.Reached.{told_by}
use Rattle.commit_graph.proofs.graph.Graph.is_ancestor.Goals as goal

pub returns-then-commit-depth-clause-steps : goal.returns-then-commit-depth-clause-steps
returns-then-commit-depth-clause-steps c =
    not_told c.args.self.now c.args.a c.args.c c.commit-depth.result.depth c.commit.result.depth c.commit-depth.ensures.kept.depth c.commit.ensures.kept.depth c.if-commit-depth.true

pub returns-then-commit-depth-clause-told : goal.returns-then-commit-depth-clause-told
returns-then-commit-depth-clause-told c =
    told_by c.args.self.now c.args.a c.args.c c.commit.ensures.graph false
    (not_told c.args.self.now c.args.a c.args.c c.commit-depth.result.depth c.commit.result.depth c.commit-depth.ensures.kept.depth c.commit.ensures.kept.depth c.if-commit-depth.true)

pub at_depth-requires-clause-depth : goal.at_depth-requires-clause-depth
at_depth-requires-clause-depth c d has =
    let same : d ≡ c.commit.result.depth = same_depth c.args.self.now c.args.c d c.commit.result.depth has c.commit.ensures.kept.depth in
    omega arith

pub returns-clause-steps : goal.returns-clause-steps
returns-clause-steps c =
    told_at c.args.self.now c.args.a c.args.c c.at_depth.result c.commit-depth.result.depth c.commit.result.depth c.commit-depth.ensures.kept.depth c.commit.ensures.kept.depth
    c.at_depth.ensures.met c.at_depth.ensures.depth

pub returns-clause-told : goal.returns-clause-told
returns-clause-told c =
    told_by c.args.self.now c.args.a c.args.c c.commit.ensures.graph (nat_eq c.at_depth.result c.args.a)
    (told_at c.args.self.now c.args.a c.args.c c.at_depth.result c.commit-depth.result.depth c.commit.result.depth c.commit-depth.ensures.kept.depth c.commit.ensures.kept.depth
    c.at_depth.ensures.met c.at_depth.ensures.depth)
