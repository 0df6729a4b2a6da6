use Rattle.std.proofs.Common.{◌≡◌, ◌≢◌, ◌⊎◌, ℕ, List, rules, refl, subst, ◌∙◌}
use Rattle.http_wire.specs.declared.error.WireError.TheVariants as wire
use Rattle.sysapi_base.specs.Outside.{Grows}
use Rattle.sysapi_serve.specs.declared.outcome.Outcome.TheVariants as outcome
use Rattle.sysapi_serve.specs.Parts.{CutsAnswer}
use Rattle.sysapi_serve.specs.Texts.{wire_text}
use Rattle.sysapi_serve.proofs.turn.refuse.Goals as goal

pub returns-in-Ok-clause-closes : goal.returns-in-Ok-clause-closes
returns-in-Ok-clause-closes g c =
    let isnt : c.args.error ≢ wire.Memory = search rules in
    let told = g.K.Sink.taken c.args.sink.now in
    let now = g.K.Sink.taken c.close.new.sink in
    λ rest front.
    record {
      due = outcome.Refused c.args.error;
      last = wire_text c.args.error c.args.moment;
      is_last = (front isnt, refl);
      written = subst (λ (t : List ℕ). ((c.close.result ≡ outcome.Refused c.args.error) × Grows told now t) ⊎ ((c.close.result ≡ outcome.WriteFault) × CutsAnswer told now t))
          (c.deref.ensures.value ∙ c.in-Ok.ensures) c.close.ensures.written;
    }
