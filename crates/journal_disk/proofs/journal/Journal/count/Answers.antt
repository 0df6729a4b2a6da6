use Rattle.std.proofs.Common.{◌≡◌, ◌∙◌, length, arith, rules}
use Rattle.journal_disk.proofs.Kept as lem
use Rattle.journal_disk.proofs.journal.Journal.count.Goals as goal

pub returns-clause-below : goal.returns-clause-below
returns-clause-below g c =
    let is : c.len.result ≡ length c.self.inside.places.items = search rules in
    rw (← c.self.view_is) (omega (arith, is, lem.below c.self.invariant))

pub returns-clause-bound : goal.returns-clause-bound
returns-clause-bound g c =
    let is : c.len.result ≡ length c.self.inside.places.items = search rules in
    omega (arith, is, lem.few c.self.invariant)

pub returns-clause-told : goal.returns-clause-told
returns-clause-told g c =
    let is : c.len.result ≡ length c.self.inside.places.items = search rules in
    rw (← c.self.view_is) (λ kept told. is ∙ lem.count_exact c.self.invariant (g.D.Disk.reading c.self.inside.disk) (g.met.D.Disk.reads_as_image c.self.inside.disk) kept told)
