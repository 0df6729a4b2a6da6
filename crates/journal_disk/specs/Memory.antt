-- A disk in memory: what it tells, and what its calls may leave.
use Rattle.std.specs.Prelude.{◌≡◌, ◌⊎◌, ℕ, ◌-◌, ◌<◌, ◌≤◌, Bool, IsTrue, if◌then◌else◌, nat_lt, min, List, [], ◌∷◌, length, take, replicate, Option, Some, None}
use Rattle.journal_disk.specs.Disk.{written}
use Rattle.journal_disk.specs.MemoryCalls.{After}
use Rattle.journal_disk.specs.declared.memory.Call.{Call}
use Rattle.journal_disk.specs.declared.memory.Call.TheVariants.{Write, Shorten, Sync}
use Rattle.journal_disk.specs.declared.memory.MemoryDisk.{MemoryDisk}

abbrev pub memory_reading : MemoryDisk → Option (List ℕ)
memory_reading disk = if disk.told then Some disk.bytes.items else None

abbrev pub memory_images : MemoryDisk → List ℕ → Type 0
memory_images disk c = IsTrue disk.told × ((c ≡ disk.bytes.items) ⊎ After (λ c. c ≡ disk.first.items) disk.calls.items c)

abbrev pub memory_moment : MemoryDisk → ℕ
memory_moment disk = length disk.calls.items

abbrev pub memory_since : MemoryDisk → ℕ → List ℕ → Type 0
memory_since disk t c = memory_images disk c ⊎ (IsTrue disk.told × ((k : ℕ) × (t ≤ k) × (k < length disk.calls.items) × After (λ c. c ≡ disk.first.items) (take k disk.calls.items) c))

abbrev pub memory_faults : MemoryDisk → ℕ
memory_faults disk = disk.failing.failed

-- no call that is to fail is left
abbrev pub IsMemorySteady : MemoryDisk → Type 0
IsMemorySteady disk = disk.failing.left ≡ []

-- a crash's outcome of a write of n bytes where each of them becomes f; one that failed makes the bytes no longer
abbrev pub fill_write : ℕ → ℕ → ℕ → Bool → List ℕ → List ℕ
fill_write f at n done bytes = if nat_lt (length bytes) at then bytes else written bytes at (replicate (if done then n else min n (length bytes - at)) f)

-- a crash's outcome of a call where each byte that isn't synced becomes f; a call that failed changed nothing of the reading
abbrev pub fill_step : ℕ → Call → List ℕ → List ℕ
fill_step f (Write at from done) bytes = fill_write f at (length from.items) done bytes
fill_step f (Shorten len done) bytes = if nat_lt (length bytes) len then bytes else (if done then take len bytes else written bytes len (replicate (length bytes - len) f))
fill_step f (Sync synced) bytes = synced.items

abbrev pub fill_calls : ℕ → List Call → List ℕ → List ℕ
fill_calls f [] bytes = bytes
fill_calls f (call ∷ calls) bytes = fill_calls f calls (fill_step f call bytes)

-- the image that is taken of a disk: its reading, or the one with f in each place that isn't synced
abbrev pub crashed_bytes : Option ℕ → MemoryDisk → Option (List ℕ)
crashed_bytes None disk = memory_reading disk
crashed_bytes (Some f) disk = Some (fill_calls f disk.calls.items disk.first.items)
