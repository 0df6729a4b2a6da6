use Rattle.std.proofs.Common.{◌++◌, ◌≡◌, take, ap, sym, ◌∙◌, refl, false}
use Rattle.std.proofs.lemmas.Result.{on_ok_weaker}
use Rattle.pmap.specs.Range.{keys_after, comes_after}
use Rattle.pmap.proofs.AtFork.{at_fork}
use Rattle.pmap.proofs.Ranges.{passed}
use Rattle.pmap.proofs.tree.Tree.+push_after.Goals as goal

pub returns-then-not-is_after : goal.returns-then-not-is_after
returns-then-not-is_after g t c =
    let R = g.K.Ord.cmp in
    let n = c.in-Fork.node.value in
    let f = at_fork R c.self.inside.root c.args.self.now c.in-Fork.node n c.self.view_is c.self.invariant c.in-Fork.is refl in
    let before : comes_after R c.args.after n.key ≡ false = sym (c.is_after.ensures ∙ ap (λ m. comes_after R c.args.after m.key) c.deref.ensures) ∙ c.if-not-is_after.true in
    let all = passed R g.met.K.Ord.total c.args.after c.args.self.now.0 n.left.0 n.right.0 n.key n.value.value f.is before f.sorted ∙ sym (ap (λ m. keys_after R c.args.after m.right.0) c.deref-then-not-is_after.ensures) in
    on_ok_weaker c.push_after.result (λ e. e ∙ ap (λ ks. take c.args.most (c.args.keys.now.items ++ ks)) (sym all)) c.push_after.ensures
