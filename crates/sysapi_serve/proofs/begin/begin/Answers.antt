use Rattle.std.proofs.lemmas.Result.{IfOk-weaker}
use Rattle.shared_repo.specs.Stored.{opened}
use Rattle.sysapi_serve.specs.Offline.{IsHistoryOf}
use Rattle.sysapi_serve.proofs.BeginLemmas.{begun_later, begun_behind, counts_done}
use Rattle.sysapi_serve.proofs.begin.begin.Goals as goal

pub returns-in-Ok-clause-begun : goal.returns-in-Ok-clause-begun
returns-in-Ok-clause-begun g c =
    let d = g.D.Disk in
    let mid = c.len.new.self in
    let n = c.in-Ok.field-0 in
    let counts = counts_done d.faults d.IsSteady c.args.disk mid n c.in-Ok.ensures.passes in
    IfOk-weaker c.open_on.result _ _ (λ repo begun. begun_later d.reading d.faults d.IsSteady c.args.disk n c.in-Ok.field-0-test.1 c.in-Ok.ensures.len
    (opened repo) (begun_behind d.reading d.faults d.IsSteady c.args.disk mid c.in-Ok.ensures.same counts IsHistoryOf (opened repo) begun)) c.open_on.ensures.begun
