use Rattle.std.proofs.Common.{◌≡◌, ◌-◌}
use Rattle.entry_bytes.specs.Reading.{id_at, repeated_at}
use Rattle.entry_bytes.proofs.Loop.{with_front}
use Rattle.entry_bytes.proofs.reading.parts.read_members.Given as goal

abbrev pub invariant-loop : goal.invariant-loop
invariant-loop l = with_front l.ids.items (repeated_at id_at (l.count - l.counter) l.rest) ≡ repeated_at id_at l.count l.bytes
