use Rattle.std.proofs.Common.{sym, ◌∙◌}
use Rattle.journal_disk.proofs.Kept as lem
use Rattle.journal_disk.proofs.journal.Journal.create.Goals as goal

pub invariant_of-result : goal.invariant_of-result
invariant_of-result g c =
    let all = lem.ok_of c.write_empty.result (sym c.is_err.ensures.value ∙ c.if-is_err.false) c.write_empty.ensures.ok in
    lem.made c.args.repository c.args.room c.new.result.items c.requires.number c.requires.most c.new.ensures.items all

pub returns-clause-images : goal.returns-clause-images
returns-clause-images g c =
    let all = lem.ok_of c.write_empty.result (sym c.is_err.ensures.value ∙ c.if-is_err.false) c.write_empty.ensures.ok in
    λ f now. lem.made_has c.args.repository f c.requires.number (all f now)

pub returns-clause-tells : goal.returns-clause-tells
returns-clause-tells g c =
    let all = lem.ok_of c.write_empty.result (sym c.is_err.ensures.value ∙ c.if-is_err.false) c.write_empty.ensures.ok in
    lem.made_told (g.D.Disk.reading c.write_empty.new.disk) (g.met.D.Disk.reads_as_image c.write_empty.new.disk) c.args.repository c.new.result.items c.new.ensures.items all

pub returns-clause-records : goal.returns-clause-records
returns-clause-records g c =
    let all = lem.ok_of c.write_empty.result (sym c.is_err.ensures.value ∙ c.if-is_err.false) c.write_empty.ensures.ok in
    lem.made_sound (g.D.Disk.reading c.write_empty.new.disk) (g.met.D.Disk.reads_as_image c.write_empty.new.disk) c.args.repository c.new.result.items c.new.ensures.items all c.requires.number
