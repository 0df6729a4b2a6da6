-- What is read of a journal, gate by gate, when it is opened.
use Rattle.std.specs.Prelude.{◌≡◌, ◌≢◌, ℕ, ◌+◌, ◌^◌, ◌<◌, ◌≤◌, List, [], ◌∷◌, ◌++◌, length, get_or, take, drop, replicate, Option, Some, None}
use Rattle.std.specs.Int.{to_be_bytes, from_be_bytes, w32, w64}
use Rattle.journal_disk.specs.Format.{Begins, base, places_from, Fits}
use Rattle.journal_disk.specs.Opening.{IsBadRecord}

-- the repository's number in a header
unfoldable pub number_in : List ℕ → ℕ
number_in bytes = from_be_bytes w64 (0 ∷ 0 ∷ take 6 (drop 8 bytes))

-- the length of the record behind an open gate, and the gate after it
pub record IsNext (place : ℕ) (bytes : List ℕ) (len gate : ℕ) : Type 0 where
  pub number : take 4 (drop (place + 1) bytes) ≡ to_be_bytes w32 len
  pub within : place + 6 + len ≤ length bytes
  pub gate_is : gate ≡ get_or bytes (place + 5 + len) 0

abbrev pub NextIs : ℕ → List ℕ → Option (ℕ × ℕ) → Type 0
NextIs place bytes None = IsBadRecord place bytes
NextIs place bytes (Some next) = IsNext place bytes next.0 next.1

-- the record's bytes, or as many zeros where they aren't told
abbrev pub behind : Option (List ℕ) → ℕ → ℕ → List ℕ
behind None place len = replicate len 0
behind (Some bytes) place len = take len (drop (place + 5) bytes)

-- what is found on a disk: records up to a gate that isn't open
pub record IsFound (reading : Option (List ℕ)) (repository used : ℕ) (places : List ℕ) : Type 0 where
  pub records : List (List ℕ)
  pub fits : Fits 16 records
  pub places_are : places ≡ places_from 16 records
  pub used_is : used ≡ length (base repository records) + 1
  pub number : repository < 2 ^ 48
  pub bound : used < 2 ^ 37
  pub gate : ℕ
  pub shut : gate ≢ 1
  pub begins : (bytes : List ℕ) → reading ≡ Some bytes → Begins (base repository records ++ gate ∷ []) bytes
