-- Calls that answer a fault among other errors.
use Rattle.std.specs.Prelude.{◌≡◌, ℕ, ◌≤◌, Result, IsErrOf}
use Rattle.sysapi_base.specs.Outside.{Rises}

-- The count never falls. It rises in a call that answers this error, which a steady object's never do, and stays where the object
-- is steady, which it then stays.
pub record Counts {X T E : Type 0} (faults : X → ℕ) (IsSteady : X → Type 0) (fault : E) (old new : X) (result : Result T E) : Type 0 where
  pub later : faults old ≤ faults new
  pub failed : IsErrOf result fault → Rises (faults old) (faults new)
  pub steady : IsSteady old → (IsErrOf result fault → ⊥) × IsSteady new × (faults new ≡ faults old)
