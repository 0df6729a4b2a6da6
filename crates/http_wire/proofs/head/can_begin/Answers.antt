use Rattle.http_wire.proofs.HeadLemmas.{in_partial, begins}
use Rattle.http_wire.proofs.head.can_begin.Goals as goal

pub returns-in-Partial : goal.returns-in-Partial
returns-in-Partial c =
    let may = in_partial c.args.prefix.now c.parse.new.spans c.in_ok-parse.field-0 c.in-Partial.is c.in_ok-parse.ensures in
    begins c.args.prefix.now c.requires.kind may.1
