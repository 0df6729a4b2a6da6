-- A disk over a file.
use Rattle.std.specs.Prelude.{ℕ}
use Rattle.journal_disk.specs.declared.file_disk.FileDisk.{FileDisk}

abbrev pub file_faults : FileDisk → ℕ
file_faults disk = disk.faults

-- a real file may fail at any time
abbrev pub IsFileSteady : FileDisk → Type 0
IsFileSteady disk = ⊥
