use Rattle.std.proofs.Common.{refl}
use Rattle.commit_graph.proofs.Meeting.{met_at, met_through}
use Rattle.commit_graph.proofs.graph.Graph.jump_behind.Goals as goal

pub overflow_sub-last : goal.overflow_sub-last
overflow_sub-last c = (c.commit-last.ensures.kept.jump _ _ c.commit-last.ensures.kept.depth c.commit-middle.ensures.kept.depth).0

pub overflow_sub-middle : goal.overflow_sub-middle
overflow_sub-middle c = (c.commit-middle.ensures.kept.jump _ _ c.commit-middle.ensures.kept.depth c.commit-first.ensures.kept.depth).0

pub returns-then-last-middle-clause-met : goal.returns-then-last-middle-clause-met
returns-then-last-middle-clause-met c =
    met_through c.args.self.now c.args.p c.commit-last.result.jump c.commit-middle.result.jump c.commit-middle.result.depth c.commit-middle.ensures.kept.depth
    c.commit-last.ensures.kept.jump c.commit-middle.ensures.kept.jump

pub returns-else-last-middle-clause-met : goal.returns-else-last-middle-clause-met
returns-else-last-middle-clause-met c = met_at c.args.self.now c.args.p 0 c.args.p refl
