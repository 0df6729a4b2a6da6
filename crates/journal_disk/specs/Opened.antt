-- What opening and creating a journal leave.
use Rattle.std.specs.Prelude.{◌≡◌, ◌≢◌, ℕ, ◌≤◌, Result, IfErr, MatchResult}
use Rattle.sysapi_base.specs.Outside.{Rises}
use Rattle.journal_disk.specs.Journal.{Held}
use Rattle.journal_disk.specs.declared.fault.JournalOpen.{JournalOpen}
use Rattle.journal_disk.specs.declared.fault.JournalFault.TheVariants as faults

-- the disk, which is given back either way
abbrev pub OnDisk : {D : Type 0} → Result (Held D) (JournalOpen D) → (D → Type 0) → Type 0
OnDisk result P = MatchResult result (λ j. P j.disk) (λ e. P e.disk)

-- The disk's count never falls. It rises where the answer is a fault, which a steady disk's never is, and stays where the disk is
-- steady, which it then stays.
pub record OpensBy {D : Type 0} (count : D → ℕ) (IsSteady : D → Type 0) (old : D) (result : Result (Held D) (JournalOpen D)) : Type 0 where
  pub later : OnDisk result (λ new. count old ≤ count new)
  pub failed : IfErr result (λ e. e.why ≡ faults.Fault → Rises (count old) (count e.disk))
  pub no_fault : IsSteady old → IfErr result (λ e. e.why ≢ faults.Fault)
  pub steady : IsSteady old → OnDisk result (λ new. IsSteady new × (count new ≡ count old))
