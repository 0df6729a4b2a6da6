use Rattle.std.proofs.Common.{List, ◌∷◌, ◌++◌, ap, ap₂, ◌∙◌}
use Rattle.std.proofs.lemmas.Result.{IfOk-weaker}
use Rattle.pmap.proofs.Order.{rest_sorted, front_sorted, right_sorted, rotated_right}
use Rattle.pmap.proofs.tree.lean_right.Given
use Rattle.pmap.proofs.tree.lean_right.Goals as goal

abbrev Entry : Given.Over → Type 0
Entry g = g.row.K.Denot × g.row.V.Denot

pub fork-requires-clause-sorted : goal.fork-requires-clause-sorted
fork-requires-clause-sorted g c =
    front_sorted g.K.Ord.cmp c.args.right.0 c.in_ok-inner.inner.0 c.in_ok-inner.outer.0 c.args.left.0 (c.in_ok-inner.outer_key, c.in_ok-inner.outer_value.value) (c.args.key, c.args.value.value) c.in_ok-inner.ensures.is c.requires.sorted

pub fork-requires-2-clause-sorted : goal.fork-requires-2-clause-sorted
fork-requires-2-clause-sorted g c =
    let R = g.K.Ord.cmp in
    let f : Entry g = (c.args.key, c.args.value.value) in
    let front = front_sorted R c.args.right.0 c.in_ok-inner.inner.0 c.in_ok-inner.outer.0 c.args.left.0 (c.in_ok-inner.outer_key, c.in_ok-inner.outer_value.value) f c.in_ok-inner.ensures.is c.requires.sorted in
    front_sorted R c.in_ok-inner.inner.0 c.in_ok-inner_left.inner_left.0 c.in_ok-inner_left.inner_right.0 c.args.left.0 (c.in_ok-inner_left.inner_key, c.in_ok-inner_left.inner_value.value) f c.in_ok-inner_left.ensures.is front

pub fork-requires-3-clause-sorted : goal.fork-requires-3-clause-sorted
fork-requires-3-clause-sorted g c =
    let R = g.K.Ord.cmp in
    let a : Entry g = (c.in_ok-inner.outer_key, c.in_ok-inner.outer_value.value) in
    let whole = right_sorted R c.args.right.0 c.args.left.0 (c.args.key, c.args.value.value) c.requires.sorted in
    rest_sorted R c.in_ok-inner.inner.0 c.in_ok-inner_left.inner_left.0 c.in_ok-inner_left.inner_right.0 c.in_ok-inner.outer.0 (c.in_ok-inner_left.inner_key, c.in_ok-inner_left.inner_value.value) a c.in_ok-inner_left.ensures.is (rw c.in_ok-inner.ensures.is at whole)

pub returns-clause-entries : goal.returns-clause-entries
returns-clause-entries g c =
    let b : Entry g = (c.in_ok-inner_left.inner_key, c.in_ok-inner_left.inner_value.value) in
    let sides = ap₂ (λ (l r : List (Entry g)). l ++ b ∷ r) (ap (λ d. d.0) c.in_ok-first.ensures) (ap (λ d. d.0) c.in_ok-last.ensures) in
    let all = rotated_right c.args.left.0 c.in_ok-inner.outer.0 c.in_ok-inner.inner.0 c.in_ok-inner_left.inner_left.0 c.in_ok-inner_left.inner_right.0 c.args.right.0 (c.in_ok-inner.outer_key, c.in_ok-inner.outer_value.value) b (c.args.key, c.args.value.value) c.in_ok-inner.ensures.is c.in_ok-inner_left.ensures.is in
    IfOk-weaker c.fork-4.result _ _ (λ t e. ap (λ d. d.0) e ∙ sides ∙ all) c.fork-4.ensures
