-- The bytes of a journal, version 1: a header of 16 bytes, and then records, each behind its gate.
use Rattle.std.specs.Prelude.{◌≡◌, ◌≢◌, ◌⊎◌, ℕ, ◌+◌, ◌^◌, ◌<◌, ◌≤◌, List, [], ◌∷◌, ◌++◌, length, take, drop, map, sum_by, codes, ⊤}
use Rattle.std.specs.Int.{to_be_bytes, from_be_bytes, w32, w64}

-- these bytes, and then others
abbrev pub Begins : List ℕ → List ℕ → Type 0
Begins front bytes = (rest : List ℕ) × (bytes ≡ front ++ rest)

-- the same with some gate between
abbrev pub Gated : List ℕ → List ℕ → List ℕ → Type 0
Gated front behind bytes = (gate : ℕ) × Begins (front ++ gate ∷ behind) bytes

-- the text SYSAPIJ, the version, the repository's number in six bytes, and two zeros
unfoldable pub header_of : ℕ → ℕ → List ℕ
header_of version repository = codes "SYSAPIJ" ++ version ∷ (drop 2 (to_be_bytes w64 repository) ++ 0 ∷ 0 ∷ [])

abbrev pub header : ℕ → List ℕ
header repository = header_of 1 repository

-- what stands behind a record's gate: its length in four bytes, and its bytes
unfoldable pub body : List ℕ → List ℕ
body record_bytes = to_be_bytes w32 (length record_bytes) ++ record_bytes

-- the records, each behind an open gate, which is 01
abbrev pub spelled : List (List ℕ) → List ℕ
spelled [] = []
spelled (r ∷ rs) = 1 ∷ (body r ++ spelled rs)

-- what stands before the first closed gate
unfoldable pub base : ℕ → List (List ℕ) → List ℕ
base repository rs = header repository ++ spelled rs

-- the place after the first closed gate
abbrev pub used_by : List (List ℕ) → ℕ
used_by rs = 17 + sum_by (λ r. 5 + length r) rs

-- the places of the open gates, from this one's on
abbrev pub places_from : ℕ → List (List ℕ) → List ℕ
places_from place [] = []
places_from place (r ∷ rs) = place ∷ places_from (place + 5 + length r) rs

-- each open gate stands below 2^36, and each record has at most 2^27 bytes
abbrev pub Fits : ℕ → List (List ℕ) → Type 0
Fits place [] = ⊤
Fits place (r ∷ rs) = (place < 2 ^ 36) × (length r ≤ 2 ^ 27) × Fits (place + 5 + length r) rs

-- Sound bytes of this repository's journal, in which these records stand behind open gates, before a gate that isn't open. Anything
-- may follow.
pub record HasRecords (repository : ℕ) (rs : List (List ℕ)) (bytes : List ℕ) : Type 0 where
  pub gate : ℕ
  pub shut : gate ≢ 1
  pub begins : Begins (base repository rs ++ gate ∷ []) bytes
  pub fits : Fits 16 rs
  pub number : repository < 2 ^ 48

-- these records, or these and one more
abbrev pub IsEither : ℕ → List (List ℕ) → List ℕ → List ℕ → Type 0
IsEither repository rs r bytes = HasRecords repository rs bytes ⊎ HasRecords repository (rs ++ r ∷ []) bytes

-- the record behind the gate at this place
unfoldable pub record_at : ℕ → List ℕ → List ℕ
record_at place bytes = take (from_be_bytes w32 (take 4 (drop (place + 1) bytes))) (drop (place + 5) bytes)

abbrev pub records_at : List ℕ → List ℕ → List (List ℕ)
records_at places bytes = map (λ place. record_at place bytes) places
