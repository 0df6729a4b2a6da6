use Rattle.std.proofs.Common.{ap}
use Rattle.journal_disk.specs.Journal.{Held}
use Rattle.journal_disk.proofs.Moments.{stayed}
use Rattle.journal_disk.proofs.Images.{record_moments}
use Rattle.journal_disk.proofs.journal.keeping.JournalKeeper.record.Goals as goal

pub returns-clause-any_moment : goal.returns-clause-any_moment
returns-clause-any_moment g c =
    record_moments c.args.self.now c.record.new.self (ap (λ (h : Held _). h.repository) c.record.ensures.same) g.D.Disk.moment g.D.Disk.images_since _ _
    (λ image f is now. (f, now, is)) (stayed g.D.Disk.moment g.D.Disk.images_since g.D.Disk.images g.met.D.Disk.only_now c.args.self.now.disk c.record.new.self.disk c.record.ensures.moment c.record.ensures.moments)
