use Rattle.std.proofs.Common.{ℕ, List, refl, inr, subst}
use Rattle.shared_repo.specs.Stored.{opened}
use Rattle.sysapi_serve.specs.Offline.{Complains}
use Rattle.sysapi_serve.proofs.OverLemmas.{summed}
use Rattle.sysapi_serve.proofs.check.check.Goals as goal

pub returns-in-Ok : goal.returns-in-Ok
returns-in-Ok g c =
    let d = g.D.Disk in
    let k = g.K.Sink in
    let sent = c.send_summary-sent in (
      c.into_disk.result,
      refl,
      inr (
        sent.result,
        summed d.reading d.faults d.IsSteady c.args.disk c.into_disk.result c.into_keeper-journal.result (opened c.in-Ok.repo) c.repository.result c.count.result c.used.result
            (k.taken c.args.sink.now) (k.taken sent.new.sink) sent.result c.into_keeper-journal.ensures c.into_disk.ensures.same c.repository.ensures.value c.count.ensures.value c.used.ensures.exact
            sent.ensures.sent c.in-Ok.ensures.begun c.in-Ok.ensures.same,
        c.written_status.ensures,
        subst (λ (t : List ℕ). Complains k.taken k.faults k.IsSteady c.args.complaints.now c.complain.new.complaints t) c.written_complaint.ensures c.complain.ensures,
        sent.ensures.passes,
      ),
    )
