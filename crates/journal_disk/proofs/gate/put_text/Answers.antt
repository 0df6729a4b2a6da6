use Rattle.std.proofs.Common.{length}
use Rattle.std.proofs.lemmas.Result.{on_ok_weaker}
use Rattle.journal_disk.specs.Format.{Begins}
use Rattle.journal_disk.proofs.Moments.{started, goes_on}
use Rattle.journal_disk.proofs.Calls.{text_torn, text_done}
use Rattle.journal_disk.proofs.gate.put_text.Goals as goal

pub returns-in_err-write_at-clause-any_moment : goal.returns-in_err-write_at-clause-any_moment
returns-in_err-write_at-clause-any_moment g c = λ front place before.
    let torn = text_torn (g.D.Disk.images c.args.disk.now) (g.D.Disk.images c.write_at.new.self) c.args.place front (length c.args.text.now) place before c.write_at.ensures.crash in
    let start = started g.D.Disk.moment g.D.Disk.images_since c.args.disk.now (Begins front) (λ f left. before f (g.met.D.Disk.only_now c.args.disk.now f left)) in
    goes_on g.D.Disk.moment g.D.Disk.images_since g.D.Disk.images c.args.disk.now c.args.disk.now c.write_at.new.self (Begins front) start c.write_at.ensures.goes_on torn

pub returns-clause-ok : goal.returns-clause-ok
returns-clause-ok g c = on_ok_weaker c.sync.result (λ durable front place before.
    text_done (g.D.Disk.images c.args.disk.now) (g.D.Disk.images c.sync.new.self) c.args.place (g.D.Disk.reading c.args.disk.now) (g.D.Disk.reading c.write_at.new.self) (g.D.Disk.reading c.sync.new.self)
    (g.met.D.Disk.reads_as_image c.args.disk.now) durable c.sync.ensures.keeps front c.args.text.now place before c.in_ok-write_at.ensures.written) c.sync.ensures.durable

pub returns-clause-any_moment : goal.returns-clause-any_moment
returns-clause-any_moment g c = λ front place before.
    let torn = text_torn (g.D.Disk.images c.args.disk.now) (g.D.Disk.images c.write_at.new.self) c.args.place front (length c.args.text.now) place before c.write_at.ensures.crash in
    let start = started g.D.Disk.moment g.D.Disk.images_since c.args.disk.now (Begins front) (λ f left. before f (g.met.D.Disk.only_now c.args.disk.now f left)) in
    let first = goes_on g.D.Disk.moment g.D.Disk.images_since g.D.Disk.images c.args.disk.now c.args.disk.now c.write_at.new.self (Begins front) start c.write_at.ensures.goes_on torn in
    goes_on g.D.Disk.moment g.D.Disk.images_since g.D.Disk.images c.args.disk.now c.write_at.new.self c.sync.new.self (Begins front) first c.sync.ensures.goes_on (λ f now. torn f (c.sync.ensures.crash f now))
