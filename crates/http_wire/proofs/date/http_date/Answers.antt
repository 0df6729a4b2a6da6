use Rattle.std.proofs.Common.{ap, ◌∙◌}
use Rattle.http_wire.specs.Dates.{http_date}
use Rattle.http_wire.proofs.DateLemmas.{same_text}
use Rattle.http_wire.proofs.date.http_date.Goals as goal

pub returns-in-Ok : goal.returns-in-Ok
returns-in-Ok c = c.to_bytes.ensures ∙ same_text c.in-Ok.date c.millis.result c.millis.ensures.bound c.in-Ok.ensures.value ∙ ap http_date c.millis.ensures.value
