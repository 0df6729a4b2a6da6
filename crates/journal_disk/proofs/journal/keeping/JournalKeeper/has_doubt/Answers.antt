use Rattle.journal_disk.proofs.Images.{kept_read}
use Rattle.journal_disk.proofs.journal.keeping.JournalKeeper.has_doubt.Goals as goal

pub returns-clause-sound : goal.returns-clause-sound
returns-clause-sound g c = λ kept told image left.
    kept_read c.args.self.now.repository kept _ image left.0 left.2 (c.has_doubt.ensures.sound kept told left.0 left.1)
