use Rattle.std.proofs.Common.{◌≡◌, ◌++◌, take}
use Rattle.std.specs.List.{flat_map, All}
use Rattle.api_records.specs.Spelling.{id_bytes}
use Rattle.entry_bytes.specs.Sound.{IsId}
use Rattle.entry_bytes.proofs.writing.parts.put_ids.Given as goal

abbrev pub invariant-loop-id : goal.invariant-loop-id
invariant-loop-id l = record {
  bytes : l.out.items ≡ l.initial.out.items ++ flat_map id_bytes (take l.id-index l.ids);
  proper : All IsId (take l.id-index l.ids);
}
