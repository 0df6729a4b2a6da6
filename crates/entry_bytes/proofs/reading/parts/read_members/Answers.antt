use Rattle.std.proofs.Common.{rules, ◌≡◌, ◌++◌, ◌∷◌, []}
use Rattle.std.proofs.lemmas.Result.{err_from_is_err_and}
use Rattle.entry_bytes.specs.Reading.{id_at, repeated_at}
use Rattle.entry_bytes.proofs.Loop.{goes_on, ends, is_done}
use Rattle.entry_bytes.proofs.reading.parts.read_members.Goals as goal

pub returns-in_err-number : goal.returns-in_err-number
returns-in_err-number c =
    let p = err_from_is_err_and c.from_residual.result c.from_residual.ensures.1 in
    rw (p.1, p.2) (ends id_at c.in_err-number.field-0.0 c.loop.ids.items c.args.count c.loop.counter c.loop.rest.now (repeated_at id_at c.args.count c.args.bytes.now) c.loop-test.true c.in_err-number.ensures c.loop.invariant)

pub loop-preserved : goal.loop-preserved
loop-preserved c =
    let n = c.in_ok-number.number in
    let e : c.push.new.self.items ≡ c.loop.ids.items ++ n ∷ [] = search rules in
    rw e (goes_on id_at c.loop.ids.items c.args.count c.loop.counter c.loop.rest.now n c.in_ok-number.after.now (repeated_at id_at c.args.count c.args.bytes.now) c.loop-test.true c.in_ok-number.ensures c.loop.invariant)

pub returns : goal.returns
returns c = is_done id_at c.loop.ids.items c.args.count c.loop.counter c.loop.rest.now (repeated_at id_at c.args.count c.args.bytes.now) c.loop-test.false c.loop.invariant
