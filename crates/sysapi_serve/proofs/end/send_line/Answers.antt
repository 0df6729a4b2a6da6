use Rattle.std.proofs.Common.{codes, decimal}
use Rattle.std.proofs.lemmas.Result.{err_from_is_err_and}
use Rattle.sysapi_serve.proofs.PieceLemmas.{numbered_cut, numbered_then}
use Rattle.sysapi_serve.proofs.end.send_line.Goals as goal

pub returns-in_err-send_numbered-clause-sent : goal.returns-in_err-send_numbered-clause-sent
returns-in_err-send_numbered-clause-sent g c =
    let failed = err_from_is_err_and c.from_residual.result c.from_residual.ensures.1 in
    let taken = g.K.Sink.taken in
    rw failed.1 (numbered_cut (taken c.args.sink.now) (taken c.send_numbered.new.sink) c.args.front.now (decimal c.args.number) (codes "\n") c.in_err-send_numbered.ensures.sent)

pub returns-clause-sent : goal.returns-clause-sent
returns-clause-sent g c =
    let taken = g.K.Sink.taken in
    numbered_then (taken c.args.sink.now) (taken c.send_numbered.new.sink) (taken c.send.new.sink) c.args.front.now (decimal c.args.number) (codes "\n") c.send.result
    c.in_ok-send_numbered.ensures.sent c.send.ensures.sent
