-- What a journal keeps.
use Rattle.std.specs.Prelude.{◌≡◌, ◌≢◌, ℕ, ◌+◌, ◌-◌, ◌^◌, ◌<◌, ◌≤◌, Bool, true, false, if◌then◌else◌, nat_lt, List, [], ◌∷◌, ◌++◌, length, get_or, Option, Some, None}
use Rattle.std.specs.Option.{option_map}
use Rattle.journal_disk.specs.Keeper.{Figures}
use Rattle.journal_disk.specs.Format.{Begins, Gated, base, body, places_from, Fits, HasRecords, IsEither, record_at, records_at}

-- a journal as its callers see it: its disk, its figures, and the places of its records' gates
pub record Held (D : Type 0) : Type 0 where
  pub disk : D
  pub repository : ℕ
  pub room : ℕ
  pub used : ℕ
  pub spare : ℕ
  pub places : List ℕ
  pub doubt : Bool

-- all but the spare is the same
pub record SameBut {D : Type 0} (old new : Held D) : Type 0 where
  pub disk : new.disk ≡ old.disk
  pub repository : new.repository ≡ old.repository
  pub room : new.room ≡ old.room
  pub used : new.used ≡ old.used
  pub places : new.places ≡ old.places
  pub doubt : new.doubt ≡ old.doubt

-- the longest record for which there is memory, of which a length and a gate take five bytes, where there is memory for its place
abbrev pub spare_of : ℕ → ℕ → ℕ → ℕ
spare_of count places buffer = if nat_lt count places then buffer - 5 else 0

-- Every image begins with the kept records. Where there is no doubt, one gate stands behind them that isn't open. Else the record
-- in doubt stands there, whole, behind any gate.
pub record IsKept (images : List ℕ → Type 0) (repository room used : ℕ) (places : List ℕ) (doubt : Bool) : Type 0 where
  pub records : List (List ℕ)
  pub fits : Fits 16 records
  pub places_are : places ≡ places_from 16 records
  pub used_is : used ≡ length (base repository records) + 1
  pub number : repository < 2 ^ 48
  pub most : room ≤ 2 ^ 36
  pub bound : used < 2 ^ 37
  pub settled : doubt ≡ false → (gate : ℕ) × (gate ≢ 1) × ((c : List ℕ) → images c → Begins (base repository records ++ gate ∷ []) c)
  pub staged : doubt ≡ true → (r : List ℕ) × (length r ≤ 2 ^ 27) × (used ≤ 2 ^ 36) × ((c : List ℕ) → images c → Gated (base repository records) (body r ++ 0 ∷ []) c)

-- the kept records, where the disk tells its reading: those behind the gates
abbrev pub told : {D : Type 0} → (D → Option (List ℕ)) → Held D → Option (List (List ℕ))
told reading journal = option_map (records_at journal.places) (reading journal.disk)

-- the bytes behind them
abbrev pub reading_of : {D : Type 0} → (D → Option (List ℕ)) → Held D → Option (List ℕ)
reading_of reading journal = reading journal.disk

-- the record in doubt, where there is one and the disk tells its reading: the one behind the first gate that isn't counted
abbrev pub doubted : {D : Type 0} → (D → Option (List ℕ)) → Held D → Option (List ℕ)
doubted reading journal = if journal.doubt then option_map (record_at (journal.used - 1)) (reading journal.disk) else None

-- sound bytes with the kept records, or with these and the record in doubt
abbrev pub IsKeptOr : ℕ → List (List ℕ) → Option (List ℕ) → List ℕ → Type 0
IsKeptOr repository kept None bytes = HasRecords repository kept bytes
IsKeptOr repository kept (Some r) bytes = IsEither repository kept r bytes

-- what every keeper tells, of a journal
abbrev pub figures_of : {D : Type 0} → Held D → Figures
figures_of journal = record { repository = journal.repository; count = length journal.places; used = journal.used; room = journal.room; spare = journal.spare; doubt = journal.doubt }

-- the place of a record's gate
abbrev pub place_of : {D : Type 0} → Held D → ℕ → ℕ
place_of journal i = get_or journal.places i 0

-- bytes as a list of records of this repository, or as none where they aren't sound
abbrev pub IsImage : ℕ → List ℕ → Option (List (List ℕ)) → Type 0
IsImage repository bytes (Some records) = HasRecords repository records bytes
IsImage repository bytes None = (records : List (List ℕ)) → HasRecords repository records bytes → ⊥

-- the images of a journal, by their records
abbrev pub record_images : {D : Type 0} → (D → List ℕ → Type 0) → Held D → Option (List (List ℕ)) → Type 0
record_images images journal image = (c : List ℕ) × images journal.disk c × IsImage journal.repository c image

abbrev pub record_images_since : {D : Type 0} → (D → ℕ → List ℕ → Type 0) → Held D → ℕ → Option (List (List ℕ)) → Type 0
record_images_since since journal t image = (c : List ℕ) × since journal.disk t c × IsImage journal.repository c image
