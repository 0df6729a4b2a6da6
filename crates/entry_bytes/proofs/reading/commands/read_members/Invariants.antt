use Rattle.std.proofs.Common.{◌≡◌, ◌-◌}
use Rattle.std.specs.List.{All}
use Rattle.entry_bytes.specs.Sound.{HasKeptPayload}
use Rattle.entry_bytes.specs.Reading.{change_at, repeated_at}
use Rattle.entry_bytes.proofs.Loop.{with_front}
use Rattle.entry_bytes.proofs.reading.commands.read_members.Given as goal

abbrev pub invariant-loop : goal.invariant-loop
invariant-loop l = record {
  read : with_front l.changes.items (repeated_at change_at (l.count - l.counter) l.rest) ≡ repeated_at change_at l.count l.bytes;
  kept : All HasKeptPayload l.changes.items;
}
