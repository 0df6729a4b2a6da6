use Rattle.std.proofs.Common.{ℕ, List, subst}
use Rattle.sysapi_serve.specs.Parts.{Sends}
use Rattle.sysapi_serve.proofs.end.complain.Goals as goal

pub returns : goal.returns
returns g c = (
  c.send.result,
  subst (λ (t : List ℕ). Sends (g.K.Sink.taken c.args.complaints.now) (g.K.Sink.taken c.send.new.sink) t c.send.result) c.as_bytes.ensures.value c.send.ensures.sent,
  c.send.ensures.passes,
)
