use Rattle.std.proofs.Common.{arith, ◌<◌, length, take}
use Rattle.std.specs.Prelude.{reverse}
use Rattle.repo_state.proofs.OpeningLemmas.{opened_next}
use Rattle.repo_state.proofs.state.State.open.Goals as goal

pub loop-index-preserved : goal.loop-index-preserved
loop-index-preserved c =
    let history = c.args.history.now in
    let loop = c.loop-index in
    let less : loop.index < length history = omega (arith, c.loop-index-test.true) in
    opened_next c.args.repository history loop.index loop.state c.index-history-index.result c.in-Ok.accepted less c.index-history-index.is loop.invariant
    (c.in-Ok.ensures.exact (reverse (take loop.index history)) loop.invariant.stands)
