use Rattle.std.proofs.Common.{decimal, subst}
use Rattle.std.proofs.lemmas.Result.{err_from_is_err_and}
use Rattle.sysapi_serve.specs.Parts.{CutsAnswer}
use Rattle.sysapi_serve.proofs.PieceLemmas.{cut_more}
use Rattle.sysapi_serve.proofs.send.send_numbered.Goals as goal

pub returns-in_err-send-clause-sent : goal.returns-in_err-send-clause-sent
returns-in_err-send-clause-sent g c =
    let failed = err_from_is_err_and c.from_residual.result c.from_residual.ensures.1 in
    let told = g.K.Sink.taken c.args.sink.now in
    let now = g.K.Sink.taken c.send.new.sink in
    rw failed.1 (cut_more told now c.args.front.now (decimal c.args.number) (subst (CutsAnswer told now) c.as_bytes.ensures.value c.in_err-send.ensures.sent))
