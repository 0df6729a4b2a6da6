use Rattle.std.proofs.Common.{subst}
use Rattle.std.proofs.lemmas.List.Elements.{All-more}
use Rattle.api_records.specs.Spelling.{id_bytes}
use Rattle.entry_bytes.specs.Sound.{IsId}
use Rattle.entry_bytes.proofs.Lengths.{one_more}
use Rattle.entry_bytes.proofs.writing.parts.put_ids.Goals as goal

pub loop-id-preserved : goal.loop-id-preserved
loop-id-preserved c = record {
  bytes = one_more id_bytes c.args.ids.now c.loop-id.id-index c.id-item.result c.put_u32.new.out.items c.loop-id.out.items c.put_id.new.out.items c.loop-id-test.true c.id-item.is c.loop-id.invariant.bytes c.in_ok-put_id.ensures.bytes;
  proper = All-more IsId c.args.ids.now c.loop-id.id-index c.id-item.result c.loop-id-test.true c.loop-id.invariant.proper (subst IsId c.id-item.is c.in_ok-put_id.ensures.proper);
}
