use Rattle.std.proofs.Common.{[], ap, sym, ◌∙◌, fold, get_or, arith, take_all}
use Rattle.std.proofs.lemmas.List.Sums.{fold_more}
use Rattle.api_rest.specs.declared.routes.Route.TheVariants.{Projects}
use Rattle.api_rest.specs.Paths.{with_route, every_route, table}
use Rattle.api_rest.proofs.routes.Routes.new.Goals as goal

pub loop-route-preserved : goal.loop-route-preserved
loop-route-preserved c =
    let at = c.loop-route.route-index in
    c.in_ok-add.ensures
    ∙ (ap (λ rows. with_route rows (get_or every_route at Projects)) c.loop-route.invariant ∙ sym (fold_more with_route [] every_route at Projects (omega arith)))

pub invariant_of-result : goal.invariant_of-result
unfolding table
invariant_of-result c = c.loop-route.invariant ∙ ap (fold with_route []) (take_all c.loop-route.route-index every_route c.loop-route-test.false)
