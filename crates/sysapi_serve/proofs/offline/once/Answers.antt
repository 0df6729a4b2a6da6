use Rattle.std.proofs.Common.{ℕ, List, refl, inr, subst}
use Rattle.shared_repo.specs.Stored.{opened}
use Rattle.sysapi_serve.specs.Offline.{Complains}
use Rattle.sysapi_serve.proofs.OverLemmas.{served_over}
use Rattle.sysapi_serve.proofs.offline.once.Goals as goal

pub returns-in-Ok : goal.returns-in-Ok
returns-in-Ok g c =
    let d = g.D.Disk in
    let k = g.K.Sink in
    let served = c.serve_alone-served in
    let does = served.ensures in (
      c.into_disk.result,
      refl,
      inr (
        served.result,
        served_over d.reading d.faults d.IsSteady d.images c.args.disk c.into_disk.result (opened c.in-Ok.repo) (opened served.new.repo) c.into_keeper.result
            (g.S.Source.left c.args.source.now) (g.S.Source.left served.new.source) (k.taken c.args.sink.now) (k.taken served.new.sink)
            (g.C.Clock.readings c.args.clock.now) (g.C.Clock.readings served.new.clock) served.result
            c.in-Ok.ensures.begun does.session does.keeper.steady does.keeper.told c.into_keeper.ensures c.into_disk.ensures.same
            c.into_disk.ensures.used c.into_disk.ensures.sound,
        c.status.ensures,
        subst (λ (t : List ℕ). Complains k.taken k.faults k.IsSteady c.args.complaints.now c.complain.new.complaints t) c.complaint.ensures c.complain.ensures,
        does.ended,
        does.source,
        does.sink,
      ),
    )
