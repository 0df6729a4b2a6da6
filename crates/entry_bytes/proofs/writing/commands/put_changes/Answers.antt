use Rattle.std.proofs.Common.{arith, subst}
use Rattle.std.proofs.lemmas.List.Elements.{All-more}
use Rattle.api_records.specs.Spelling.{change_bytes}
use Rattle.entry_bytes.specs.Sound.{HasProperIdentity, HasProperPayload}
use Rattle.entry_bytes.proofs.Lengths.{changes_few, each_few, one_more}
use Rattle.entry_bytes.proofs.writing.commands.put_changes.Goals as goal

pub overflow_cast-changes : goal.overflow_cast-changes
overflow_cast-changes c = omega (arith, changes_few c.args.changes.now c.requires.few)

pub put_change-requires-clause-few : goal.put_change-requires-clause-few
put_change-requires-clause-few c = rw c.change-item.is (each_few c.args.changes.now c.requires.few c.loop-change.change-index _ c.loop-change-test.true)

pub loop-change-preserved : goal.loop-change-preserved
loop-change-preserved c = record {
  bytes = one_more change_bytes c.args.changes.now c.loop-change.change-index c.change-item.result c.put_u32.new.out.items c.loop-change.out.items c.put_change.new.out.items c.loop-change-test.true c.change-item.is c.loop-change.invariant.bytes c.in_ok-put_change.ensures.bytes;
  identities = All-more HasProperIdentity c.args.changes.now c.loop-change.change-index c.change-item.result c.loop-change-test.true c.loop-change.invariant.identities (subst HasProperIdentity c.change-item.is c.in_ok-put_change.ensures.identity);
  payloads = All-more HasProperPayload c.args.changes.now c.loop-change.change-index c.change-item.result c.loop-change-test.true c.loop-change.invariant.payloads (subst HasProperPayload c.change-item.is c.in_ok-put_change.ensures.payload);
}
