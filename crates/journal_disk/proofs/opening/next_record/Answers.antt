use Rattle.std.proofs.Common.{◌∙◌}
use Rattle.journal_disk.proofs.Fills.{next_from}
use Rattle.journal_disk.proofs.opening.next_record.Goals as goal

pub returns-clause-next : goal.returns-clause-next
returns-clause-next g c = λ b is.
    next_from c.args.place b c.look.new.into c.look-2.new.into c.from_be_bytes-len.result c.in_ok-look.field-0 c.in_ok-look-2.field-0
    c.from_be_bytes-len.ensures c.look.auto.into c.look.ensures.fits c.if-not-branch.false (c.in_ok-look.ensures.bytes b is)
    c.look-2.auto.into c.if-not-branch-2.false (c.in_ok-look-2.ensures.bytes b (c.look.ensures.same ∙ is))
