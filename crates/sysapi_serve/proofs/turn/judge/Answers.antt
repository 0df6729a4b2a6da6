use Rattle.api_rest.specs.Routes.{routed}
use Rattle.shared_repo.specs.Stored.{opened}
use Rattle.sysapi_serve.specs.Kept.{past, number_of, kept_of, IsSteadyRepo}
use Rattle.sysapi_serve.proofs.TurnLemmas.{answers_error}
use Rattle.sysapi_serve.proofs.turn.judge.Goals as goal

pub returns-clause-judges : goal.returns-clause-judges
returns-clause-judges g c = λ before stores.
    let k = kept_of g.Q.Keeper.figures g.Q.Keeper.faults (opened c.args.repo.now) before in
    let asked = routed c.args.request in
    let got = c.in_ok-answer_error-in-Err in (
      before,
      stores,
      answers_error g.Q.Keeper.costs (IsSteadyRepo g.Q.Keeper.IsSteady c.args.repo.now) k c.args.request c.without_body-request.result c.args.moment asked got.field-0.items
          (got.ensures.none asked c.in-Err.ensures.exact) c.without_body-request.ensures (got.ensures.text (number_of k) (past k) asked c.in-Err.ensures.exact),
    )
