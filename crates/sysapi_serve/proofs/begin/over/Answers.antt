use Rattle.sysapi_serve.proofs.BeginLemmas.{not_over}
use Rattle.sysapi_serve.proofs.begin.over.Goals as goal

pub returns-in-Err-clause-not_over : goal.returns-in-Err-clause-not_over
returns-in-Err-clause-not_over g c =
    let was = c.in-Err.ensures in
    let e = c.in-Err.field-0 in
    not_over g.D.Disk.reading g.D.Disk.faults g.D.Disk.IsSteady c.args.journal e.keeper c.into_disk.result e.why c.cause.result
    c.into_disk.ensures.same c.cause.ensures was.opens was.read c.into_disk.ensures.places was.counts.later was.counts.failed was.counts.no_fault was.counts.steady
