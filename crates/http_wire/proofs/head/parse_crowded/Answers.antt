use Rattle.http_wire.proofs.HeadLemmas.{crowded, never_on_err}
use Rattle.http_wire.proofs.head.parse_crowded.Goals as goal

pub returns-in-Err : goal.returns-in-Err
returns-in-Err c =
    let e = c.parse_request.ensures in
    never_on_err c.args.bytes.now _ c.parse_request.result _ c.in-Err.is c.requires.room e.invalid e.too_many

pub returns-in-Ok-Complete : goal.returns-in-Ok-Complete
returns-in-Ok-Complete c =
    let found = rw c.in-Ok-Complete.field-0-is at c.in-Ok-Complete.ensures.complete in
    crowded c.args.bytes.now found.0 _ c.requires.crowd found.1.reads
