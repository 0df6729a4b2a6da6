use Rattle.std.proofs.Common.{◌<◌, length, ◌∙◌, arith}
use Rattle.std.proofs.lemmas.List.{get_or_read}
use Rattle.journal_disk.proofs.Kept as lem
use Rattle.journal_disk.proofs.journal.Journal.place.Goals as goal

pub returns-clause-exact : goal.returns-clause-exact
returns-clause-exact g c =
    let within : c.args.i < length c.self.inside.places.items = lem.within_of _ c.args.self.now c.self.view_is c.args.i c.requires in
    let is = get_or_read c.self.inside.places.items c.args.i c.index.result.now within c.index.ensures 0 in
    rw (← c.self.view_is) (λ kept told. is ∙ lem.place_exact c.self.invariant (g.D.Disk.reading c.self.inside.disk) (g.met.D.Disk.reads_as_image c.self.inside.disk) c.args.i kept told)

pub returns-clause-bound : goal.returns-clause-bound
returns-clause-bound g c =
    let within : c.args.i < length c.self.inside.places.items = lem.within_of _ c.args.self.now c.self.view_is c.args.i c.requires in
    let is = get_or_read c.self.inside.places.items c.args.i c.index.result.now within c.index.ensures 0 in
    omega (arith, is, lem.low_place c.self.invariant c.args.i within)
