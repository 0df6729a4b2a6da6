-- Calls of the outside that all went well.
use Rattle.std.proofs.Common.{ℕ, Ok}
use Rattle.std.specs.Prelude.{⊤}
use Rattle.sysapi_base.specs.Outside.{Passes}

-- some calls, none of which failed
abbrev pub HasPassed : {X : Type 0} → (X → ℕ) → (X → Type 0) → X → X → Type 0
HasPassed faults IsSteady old new = Passes {T = ⊤} {E = ⊤} faults IsSteady old new (Ok tt)
