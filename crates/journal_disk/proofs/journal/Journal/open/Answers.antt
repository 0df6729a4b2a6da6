use Rattle.std.proofs.Common.{sym, Option, List, ℕ, subst}
use Rattle.journal_disk.specs.Finding.{IsFound}
use Rattle.journal_disk.proofs.Openings.{found_records}
use Rattle.journal_disk.proofs.journal.Journal.open.Goals as goal

pub returns-in-Ok-clause-records : goal.returns-in-Ok-clause-records
returns-in-Ok-clause-records g c = λ b is.
    found_records (g.D.Disk.reading c.find.new.disk) c.in-Ok.found.repository c.in-Ok.found.used c.in-Ok.found.places.items
    (subst (λ (o : Option (List ℕ)). IsFound o c.in-Ok.found.repository c.in-Ok.found.used c.in-Ok.found.places.items) (sym c.find.ensures.same) c.in-Ok.ensures.found) b is
