use Rattle.std.proofs.Common.{ℕ, List, subst}
use Rattle.std.specs.declared.vec.Vec.{Vec}
use Rattle.std.specs.declared.alloc.Global.{Global}
use Rattle.api_rest.specs.Responses.{is_head}
use Rattle.api_rest.specs.Routes.{routed}
use Rattle.shared_repo.specs.Stored.{opened}
use Rattle.sysapi_serve.specs.Kept.{kept_of, IsSteadyRepo}
use Rattle.sysapi_serve.specs.Parts.{Sends, status_of}
use Rattle.sysapi_serve.specs.Texts.{fixed_for}
use Rattle.sysapi_serve.proofs.TurnLemmas.{instead_answers, fixed_as}
use Rattle.sysapi_serve.proofs.turn.answer.Goals as goal

pub returns-in-Err-clause-sent : goal.returns-in-Err-clause-sent
returns-in-Err-clause-sent g c = λ before stores.
    let now = c.in-Err.ensures.judges before stores in
    let kept = kept_of g.Q.Keeper.figures g.Q.Keeper.faults in
    let answered = instead_answers (λ (v : Vec ℕ Global). v.items) g.Q.Keeper.costs (IsSteadyRepo g.Q.Keeper.IsSteady c.args.repo.now) c.args.request c.args.moment (routed c.args.request) c.in-Err.instead
    (kept (opened c.args.repo.now) before) (kept (opened c.judge.new.repo) now.0) now.2 in
    let text = fixed_for (status_of c.in-Err.instead) c.args.request c.args.moment in
    let same = fixed_as (status_of c.in-Err.instead) c.status.result c.args.moment c.args.request.close (is_head c.args.request) c.is_head-no_body.result c.as_slice.result.now c.fixed_response-text.result
    c.status.ensures c.is_head-no_body.ensures c.fixed_response-text.ensures c.as_slice.ensures in
    (now.0, now.1, (answered.0, text, answered.1, subst (λ (t : List ℕ). Sends (g.K.Sink.taken c.args.sink.now) (g.K.Sink.taken c.send-in-Err.new.sink) t c.send-in-Err.result) same c.send-in-Err.ensures.sent))
