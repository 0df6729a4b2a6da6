use Rattle.std.proofs.Common.{◌≡◌, ◌∙◌, ℕ, ◌+◌, ◌<◌, Option, Some, IsSome, sym, subst, arith}
use Rattle.commit_graph.specs.Graphs.{previous_of}
use Rattle.commit_graph.proofs.Ancestors.{same_depth, depth_between}
use Rattle.commit_graph.proofs.Meeting.{met_at, has_previous}
use Rattle.commit_graph.proofs.graph.Graph.nearer.Goals as goal

pub unwrap-requires : goal.unwrap-requires
unwrap-requires c =
    let P : Option ℕ → Type 0 = λ o. IsSome o in
    let deeper : c.args.depth < c.commit-commit.result.depth = c.requires.depth _ c.commit-commit.ensures.kept.depth in
    subst P (sym c.commit-commit.ensures.kept.previous) (has_previous c.args.self.now c.args.c c.commit-commit.result.depth c.commit-commit.ensures.kept.depth (omega arith))

pub returns-then-depth-clause-depth : goal.returns-then-depth-clause-depth
returns-then-depth-clause-depth c d has =
    let same : d ≡ c.depth.result = same_depth c.args.self.now c.commit-commit.result.jump d c.depth.result has c.depth.ensures.depth in
    omega arith

pub returns-else-depth-clause-met : goal.returns-else-depth-clause-met
returns-else-depth-clause-met c =
    met_at c.args.self.now c.args.c 1 c.unwrap.result (sym c.commit-commit.ensures.kept.previous ∙ c.unwrap.ensures)

pub returns-else-depth-clause-depth : goal.returns-else-depth-clause-depth
returns-else-depth-clause-depth c d has =
    let step : previous_of c.args.self.now c.args.c ≡ Some c.unwrap.result = sym c.commit-commit.ensures.kept.previous ∙ c.unwrap.ensures in
    let deeper : c.args.depth < c.commit-commit.result.depth = c.requires.depth _ c.commit-commit.ensures.kept.depth in
    let one_more : c.commit-commit.result.depth ≡ 1 + d =
    depth_between c.args.self.now c.unwrap.result c.args.c d c.commit-commit.result.depth 1 has c.commit-commit.ensures.kept.depth step in
    omega arith
