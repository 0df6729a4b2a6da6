use Rattle.std.proofs.Common.{◌≡◌, take}
use Rattle.journal_disk.specs.Memory.{fill_calls}
use Rattle.journal_disk.proofs.memory.replay.filled.Given as goal

abbrev pub invariant-calls : goal.invariant-calls
invariant-calls l = l.image.items ≡ fill_calls l.fill (take l.call-index l.calls) l.first
