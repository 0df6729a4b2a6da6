use Rattle.std.proofs.Common.{◌≡◌, ◌++◌, ◌∷◌, []}
use Rattle.std.proofs.lemmas.Result.{err_from_is_err_and}
use Rattle.std.proofs.lemmas.List.Elements.{All-push}
use Rattle.entry_bytes.specs.Sound.{HasKeptPayload}
use Rattle.entry_bytes.specs.Reading.{change_at, repeated_at}
use Rattle.entry_bytes.proofs.Loop.{goes_on, ends, is_done}
use Rattle.entry_bytes.proofs.reading.commands.read_members.Goals as goal

pub returns-in_err-change-clause-read : goal.returns-in_err-change-clause-read
returns-in_err-change-clause-read c =
    let p = err_from_is_err_and c.from_residual.result c.from_residual.ensures.1 in
    rw (p.1, p.2) (ends change_at c.in_err-change.field-0.0 c.loop.changes.items c.args.count c.loop.counter c.loop.rest.now (repeated_at change_at c.args.count c.args.bytes.now) c.loop-test.true c.in_err-change.ensures.read c.loop.invariant.read)

pub loop-preserved : goal.loop-preserved
loop-preserved c =
    let x = c.in_ok-change.change in
    let e : c.push.new.self.items ≡ c.loop.changes.items ++ x ∷ [] = c.in_ok-push.ensures.items in
    record {
      read = rw e (goes_on change_at c.loop.changes.items c.args.count c.loop.counter c.loop.rest.now x c.in_ok-change.after.now (repeated_at change_at c.args.count c.args.bytes.now) c.loop-test.true c.in_ok-change.ensures.read c.loop.invariant.read);
      kept = rw e (All-push HasKeptPayload c.loop.changes.items x c.loop.invariant.kept c.in_ok-change.ensures.kept);
    }

pub returns-clause-read : goal.returns-clause-read
returns-clause-read c = is_done change_at c.loop.changes.items c.args.count c.loop.counter c.loop.rest.now (repeated_at change_at c.args.count c.args.bytes.now) c.loop-test.false c.loop.invariant.read
