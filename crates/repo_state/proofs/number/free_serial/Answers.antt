use Rattle.std.proofs.Common.{arith, ◌∙◌, sym, ap}
use Rattle.api_records.specs.Sets.{has}
use Rattle.api_records.proofs.Serials.{free_from-known, free_from-unknown}
use Rattle.repo_state.proofs.number.free_serial.Goals as goal

pub returns-then-not-contains-clause-least : goal.returns-then-not-contains-clause-least
returns-then-not-contains-clause-least c = sym (free_from-unknown c.args.repository (has c.args.known.now) c.loop-n.n (omega (arith, c.loop-n-test.true)) (ap (has c.args.known.now) (sym c.made.ensures) ∙ sym c.contains.ensures ∙ c.if-not-contains.true)) ∙ c.loop-n.invariant

pub loop-n-preserved : goal.loop-n-preserved
loop-n-preserved c = sym (free_from-known c.args.repository (has c.args.known.now) c.loop-n.n (omega (arith, c.loop-n-test.true)) (ap (has c.args.known.now) (sym c.made.ensures) ∙ sym c.contains.ensures ∙ c.if-not-contains.false)) ∙ c.loop-n.invariant
