use Rattle.journal_disk.proofs.Kept as lem
use Rattle.journal_disk.proofs.journal.Journal.used.Goals as goal

pub returns-clause-exact : goal.returns-clause-exact
returns-clause-exact g c = rw (← c.self.view_is) (lem.used_exact c.self.invariant (g.D.Disk.reading c.self.inside.disk) (g.met.D.Disk.reads_as_image c.self.inside.disk))

pub returns-clause-most : goal.returns-clause-most
returns-clause-most g c = rw (← c.self.view_is) (lem.most_used c.self.invariant)

pub returns-clause-least : goal.returns-clause-least
returns-clause-least g c = lem.least_used c.self.invariant
