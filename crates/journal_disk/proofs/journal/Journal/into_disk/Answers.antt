use Rattle.journal_disk.proofs.Kept as lem
use Rattle.journal_disk.proofs.journal.Journal.into_disk.Goals as goal

pub returns-clause-sound : goal.returns-clause-sound
returns-clause-sound g c = rw (← c.self.view_is) (lem.sound c.self.invariant (g.D.Disk.reading c.self.inside.disk) (g.met.D.Disk.reads_as_image c.self.inside.disk))

pub returns-clause-used : goal.returns-clause-used
returns-clause-used g c = rw (← c.self.view_is) (lem.used_exact c.self.invariant (g.D.Disk.reading c.self.inside.disk) (g.met.D.Disk.reads_as_image c.self.inside.disk))

pub returns-clause-places : goal.returns-clause-places
returns-clause-places g c = rw (← c.self.view_is) (lem.places_exact c.self.invariant (g.D.Disk.reading c.self.inside.disk) (g.met.D.Disk.reads_as_image c.self.inside.disk))
