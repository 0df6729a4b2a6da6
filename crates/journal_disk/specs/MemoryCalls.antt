-- The calls that a disk in memory keeps, and what they may leave.
use Rattle.std.specs.Prelude.{◌≡◌, ℕ, Bool, if◌then◌else◌, nat_lt, List, [], ◌∷◌, length, take}
use Rattle.journal_disk.specs.Disk.{Torn, Cut, written}
use Rattle.journal_disk.specs.declared.memory.Call.{Call}
use Rattle.journal_disk.specs.declared.memory.Call.TheVariants.{Write, Shorten, Sync}

-- the images after one call
abbrev pub Step : Call → (List ℕ → Type 0) → List ℕ → Type 0
Step (Write at from done) old c = (d : List ℕ) × old d × Torn at (length from.items) d c
Step (Shorten len done) old c = (d : List ℕ) × old d × Cut len d c
Step (Sync bytes) old c = c ≡ bytes.items

-- the images after these calls
abbrev pub After : (List ℕ → Type 0) → List Call → List ℕ → Type 0
After old [] c = old c
After old (call ∷ calls) c = After (Step call old) calls c

-- what a read gives after a write; one that failed, or past the end, changed nothing of it
abbrev pub read_write : ℕ → List ℕ → Bool → List ℕ → List ℕ
read_write at from done bytes = if done then (if nat_lt (length bytes) at then bytes else written bytes at from) else bytes

-- what it gives after a cut; one that failed changed nothing of it
abbrev pub read_cut : ℕ → Bool → List ℕ → List ℕ
read_cut len done bytes = if done then take len bytes else bytes

-- what it gives after one call
abbrev pub read_step : Call → List ℕ → List ℕ
read_step (Write at from done) bytes = read_write at from.items done bytes
read_step (Shorten len done) bytes = read_cut len done bytes
read_step (Sync synced) bytes = synced.items

-- what a read gives after these calls
abbrev pub read_calls : List Call → List ℕ → List ℕ
read_calls [] bytes = bytes
read_calls (call ∷ calls) bytes = read_calls calls (read_step call bytes)
