use Rattle.std.proofs.Common.{sym, ◌∙◌}
use Rattle.http_wire.proofs.LengthLemmas.{none_at}
use Rattle.http_wire.proofs.fields.parse_length.Goals as goal

pub returns-in_err-len-clause-value : goal.returns-in_err-len-clause-value
returns-in_err-len-clause-value c =
    c.from_residual.ensures ∙ none_at c.loop-digit.len c.loop-digit.digit-index c.args.text.now c.loop-digit-test.true (sym c.in_err-len.ensures.value) c.loop-digit.invariant.1
