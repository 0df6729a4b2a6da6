use Rattle.api_records.proofs.Lengths.{total_all}
use Rattle.api_records.proofs.length.len_of_changes.Goals as goal

pub returns : goal.returns
returns c = total_all c.args.changes.now c.loop-change.change-index c.args.so_far c.saturating_add-total.result c.loop-change.total c.loop-change-test.false c.saturating_add-total.ensures c.loop-change.invariant
