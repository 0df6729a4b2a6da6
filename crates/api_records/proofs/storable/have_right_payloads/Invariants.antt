use Rattle.std.proofs.Common.{take}
use Rattle.std.specs.List.{All}
use Rattle.api_records.specs.Storable.{IsStored}
use Rattle.api_records.proofs.storable.have_right_payloads.Given as goal

abbrev pub invariant-loop-change : goal.invariant-loop-change
invariant-loop-change l = All (λ c. IsStored c.payload) (take l.change-index l.changes)
