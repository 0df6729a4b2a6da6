use Rattle.std.proofs.Common.{[], ◌∷◌, ◌++◌}
use Rattle.std.proofs.lemmas.Result.{on_ok_weaker}
use Rattle.journal_disk.proofs.Images.{has_read, either_read, image_of, record_moments}
use Rattle.journal_disk.proofs.journal.keeping.JournalKeeper.append.Goals as goal

pub returns-clause-any_moment : goal.returns-clause-any_moment
returns-clause-any_moment g c = λ kept told.
    record_moments c.args.self.now c.append.new.self c.append.ensures.same_repository g.D.Disk.moment g.D.Disk.images_since _ _
    (either_read c.args.self.now.repository kept c.args.bytes.now) (c.append.ensures.any_moment kept told)

pub returns-clause-kept : goal.returns-clause-kept
returns-clause-kept g c = on_ok_weaker c.append.result (λ ok kept told image left.
    has_read c.args.self.now.repository (kept ++ c.args.bytes.now ∷ []) image left.0 (image_of c.args.self.now c.append.new.self c.append.ensures.same_repository image left.0 left.2) (ok kept told left.0 left.1)) c.append.ensures.ok
