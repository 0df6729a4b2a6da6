use Rattle.std.proofs.lemmas.Result.{IfOk-weaker, IfErr-weaker, err_from_is_err_and}
use Rattle.shared_repo.specs.Stored.{opened}
use Rattle.sysapi_serve.proofs.BeginLemmas.{begun_in, stopped_in, unmade_in, counts_opened, counts_unopened}
use Rattle.sysapi_serve.proofs.begin.create_in.Goals as goal

pub returns-in_err-journal-clause-hindered : goal.returns-in_err-journal-clause-hindered
returns-in_err-journal-clause-hindered g c =
    let failed = err_from_is_err_and c.from_residual.result c.from_residual.ensures.1 in
    let was = c.in_err-journal.ensures in
    let e = c.in_err-journal.field-0.0 in
    let d = g.D.Disk in
    let counts = counts_unopened d.reading d.faults d.IsSteady c.args.disk e.disk e.why was.opens.later was.opens.failed was.opens.no_fault was.opens.steady in
    rw (failed.1, failed.2) (unmade_in d.reading d.faults d.IsSteady c.args.disk e.disk e.why c.requires was.why was.told counts)

pub returns-clause-begun : goal.returns-clause-begun
returns-clause-begun g c =
    let journal = c.in_ok-journal.journal in
    let was = c.in_ok-journal.ensures in
    let disk = g.D.Disk in
    let counts = counts_opened disk.reading disk.faults disk.IsSteady c.args.disk journal.disk was.opens.later was.opens.steady in
    IfOk-weaker c.over.result _ _ (λ repo over. begun_in disk.reading disk.faults disk.IsSteady c.args.disk journal counts (opened repo) c.requires was.repository was.room was.places was.doubt over) c.over.ensures.over

pub returns-clause-hindered : goal.returns-clause-hindered
returns-clause-hindered g c =
    let journal = c.in_ok-journal.journal in
    let was = c.in_ok-journal.ensures in
    let disk = g.D.Disk in
    let counts = counts_opened disk.reading disk.faults disk.IsSteady c.args.disk journal.disk was.opens.later was.opens.steady in
    IfErr-weaker c.over.result _ _ (λ e over. stopped_in disk.reading disk.faults disk.IsSteady c.args.disk journal counts e.disk e.why c.requires was.told was.tells over) c.over.ensures.not_over
