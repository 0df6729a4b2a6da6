-- What bytes are as a journal's: sound, or damaged at a place, or of another version.
use Rattle.std.specs.Prelude.{◌≡◌, ◌≢◌, ◌⊎◌, ℕ, ◌+◌, ◌^◌, ◌<◌, ◌≤◌, List, [], ◌∷◌, ◌++◌, length, get_or, take, drop, codes, Option, Some, ⊤}
use Rattle.std.specs.Int.{from_be_bytes, w32}
use Rattle.journal_disk.specs.Format.{Begins, base, Fits}
use Rattle.journal_disk.specs.declared.fault.JournalFault.{JournalFault}
use Rattle.journal_disk.specs.declared.fault.JournalFault.TheVariants as faults

-- the first seven bytes are the text SYSAPIJ, and bytes 14 and 15 zero
abbrev pub IsHead : List ℕ → Type 0
IsHead bytes = (take 7 bytes ≡ codes "SYSAPIJ") × (get_or bytes 14 0 ≡ 0) × (get_or bytes 15 0 ≡ 0)

-- the header of some version, with a gate behind it
abbrev pub HasHead : List ℕ → Type 0
HasHead bytes = (17 ≤ length bytes) × IsHead bytes

abbrev pub IsOtherVersion : ℕ → List ℕ → Type 0
IsOtherVersion version bytes = HasHead bytes × (get_or bytes 7 0 ≡ version) × (version ≢ 1)

-- the length that stands behind a gate
abbrev pub length_at : ℕ → List ℕ → ℕ
length_at place bytes = from_be_bytes w32 (take 4 (drop (place + 1) bytes))

-- the record behind the gate at a place is too long, or doesn't fit with the gate after it
abbrev pub IsBadRecord : ℕ → List ℕ → Type 0
IsBadRecord place bytes = (2 ^ 27 < length_at place bytes) ⊎ (length bytes < place + 6 + length_at place bytes)

-- Sound records end at an open gate, which stands at 2^36 or above, or before a bad record.
pub record IsDamagedGate (place : ℕ) (bytes : List ℕ) : Type 0 where
  pub repository : ℕ
  pub records : List (List ℕ)
  pub fits : Fits 16 records
  pub place_is : place ≡ length (base repository records)
  pub begins : Begins (base repository records ++ 1 ∷ []) bytes
  pub number : repository < 2 ^ 48
  pub bad : (2 ^ 36 ≤ place) ⊎ IsBadRecord place bytes

-- where bytes of a journal are damaged: at 0 where there is no header, else at the gate
abbrev pub IsDamagedAt : ℕ → List ℕ → Type 0
IsDamagedAt place bytes = ((place ≡ 0) × (HasHead bytes → ⊥)) ⊎ IsDamagedGate place bytes

-- bytes have this fault, where they are told
abbrev pub IsFaultOf : Option (List ℕ) → JournalFault → Type 0
IsFaultOf reading (faults.Damaged place) = (bytes : List ℕ) → reading ≡ Some bytes → IsDamagedAt place bytes
IsFaultOf reading (faults.OtherVersion version) = (bytes : List ℕ) → reading ≡ Some bytes → IsOtherVersion version bytes
IsFaultOf reading faults.Fault = ⊤
IsFaultOf reading faults.Memory = ⊤
