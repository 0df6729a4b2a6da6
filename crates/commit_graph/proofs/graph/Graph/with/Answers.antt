use Rattle.std.proofs.Common.{◌≡◌, ◌∙◌, List, [], ◌∷◌, ◌++◌, ap, sym, subst}
use Rattle.commit_graph.specs.Kept.{IsKept}
use Rattle.commit_graph.specs.declared.graph.Commit.{Commit}
use Rattle.commit_graph.proofs.Adding.{kept_behind}
use Rattle.commit_graph.proofs.graph.Graph.with.Goals as goal

pub invariant_of-result : goal.invariant_of-result
invariant_of-result c =
    let P : List Commit → Type 0 = λ cs. IsKept cs in
    let whole : c.in_ok-new-2.field-0.value ≡ c.in_ok-list.field-0 ++ c.args.commit ∷ [] =
    c.in_ok-new-2.ensures.ok ∙ c.in_ok-commits.ensures ∙ ap (λ (x : Commit). c.in_ok-list.field-0 ++ x ∷ []) c.in_ok-new.ensures.ok in
    subst P (sym whole) (kept_behind c.in_ok-list.field-0 c.args.commit c.args.self.now c.in_ok-list.ensures.seen c.in_ok-list.ensures.kept c.requires.previous c.requires.kept)
