use Rattle.std.proofs.Common.{length, refl, sym}
use Rattle.commit_graph.proofs.Adding.{known, commit_first, commit_more}
use Rattle.commit_graph.proofs.graph.Graph.commit_behind.Goals as goal

pub returns-in-Some-clause-kept : goal.returns-in-Some-clause-kept
returns-in-Some-clause-kept c =
    commit_more c.args.self.now c.args.previous _ c.in-Some.p c.depth.result c.len-number.ensures.earlier c.depth.ensures.depth c.depth.ensures.below
    (known (length c.args.self.now) c.in-Some.p c.args.previous c.requires c.in-Some.is)
    c.jump_behind.ensures.met c.jump_behind.ensures.below (sym c.in-Some.is) c.in-Some.is refl

pub returns-in-None-clause-kept : goal.returns-in-None-clause-kept
returns-in-None-clause-kept c = commit_first c.args.self.now c.args.previous _ refl c.in-None.is refl c.len-number.ensures.count
