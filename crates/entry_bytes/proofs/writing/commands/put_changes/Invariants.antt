use Rattle.std.proofs.Common.{◌≡◌, ◌++◌, take}
use Rattle.std.specs.List.{flat_map, All}
use Rattle.api_records.specs.Spelling.{change_bytes}
use Rattle.entry_bytes.specs.Sound.{HasProperIdentity, HasProperPayload}
use Rattle.entry_bytes.proofs.writing.commands.put_changes.Given as goal

abbrev pub invariant-loop-change : goal.invariant-loop-change
invariant-loop-change l = record {
  bytes : l.out.items ≡ l.initial.out.items ++ flat_map change_bytes (take l.change-index l.changes);
  identities : All HasProperIdentity (take l.change-index l.changes);
  payloads : All HasProperPayload (take l.change-index l.changes);
}
