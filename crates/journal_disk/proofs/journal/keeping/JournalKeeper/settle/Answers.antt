use Rattle.std.proofs.Common.{ap}
use Rattle.std.proofs.lemmas.Result.{on_ok_weaker}
use Rattle.journal_disk.specs.Journal.{Held}
use Rattle.journal_disk.proofs.Images.{has_read, kept_read, image_of, record_moments}
use Rattle.journal_disk.proofs.journal.keeping.JournalKeeper.settle.Goals as goal

pub returns-clause-any_moment : goal.returns-clause-any_moment
returns-clause-any_moment g c = λ kept told.
    record_moments c.args.self.now c.settle.new.self (ap (λ (h : Held _). h.repository) c.settle.ensures.same) g.D.Disk.moment g.D.Disk.images_since _ _
    (kept_read c.args.self.now.repository kept _) (c.settle.ensures.any_moment kept told)

pub returns-clause-kept : goal.returns-clause-kept
returns-clause-kept g c = on_ok_weaker c.settle.result (λ ok kept told image left.
    has_read c.args.self.now.repository kept image left.0 (image_of c.args.self.now c.settle.new.self (ap (λ (h : Held _). h.repository) c.settle.ensures.same) image left.0 left.2) (ok kept told left.0 left.1)) c.settle.ensures.ok
