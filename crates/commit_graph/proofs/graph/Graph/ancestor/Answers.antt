use Rattle.std.proofs.Common.{◌≡◌, ◌∙◌, ◌-◌, ◌≤◌, Some, sym, ap, arith}
use Rattle.commit_graph.specs.Graphs.{ancestor_at}
use Rattle.commit_graph.proofs.graph.Graph.ancestor.Goals as goal

pub returns : goal.returns
returns c =
    let met : (c.in_ok-depth.depth ≤ c.commit.result.depth) × (ancestor_at c.args.self.now c.args.c (c.commit.result.depth - c.in_ok-depth.depth) ≡ Some c.at_depth.result) =
    c.at_depth.ensures.met _ _ c.commit.ensures.kept.depth c.at_depth.ensures.depth in
    let steps : c.commit.result.depth - c.in_ok-depth.depth ≡ c.args.k = omega (arith, c.in_ok-depth.ensures) in
    sym (sym (ap (ancestor_at c.args.self.now c.args.c) steps) ∙ met.1)
