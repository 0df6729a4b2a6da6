-- A disk in memory that tells nothing.
use Rattle.std.specs.Prelude.{ℕ}
use Rattle.journal_disk.specs.declared.volatile_disk.VolatileDisk.{VolatileDisk}

abbrev pub volatile_faults : VolatileDisk → ℕ
volatile_faults disk = disk.faults

-- memory may run out at any time
abbrev pub IsVolatileSteady : VolatileDisk → Type 0
IsVolatileSteady disk = ⊥
