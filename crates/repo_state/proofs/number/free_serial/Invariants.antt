use Rattle.std.proofs.Common.{◌≡◌}
use Rattle.api_records.specs.Sets.{has}
use Rattle.api_records.specs.Changes.{free_from}
use Rattle.repo_state.proofs.number.free_serial.Given as goal

abbrev pub invariant-loop-n : goal.invariant-loop-n
invariant-loop-n l = free_from l.repository (has l.known) l.n ≡ free_from l.repository (has l.known) l.from
