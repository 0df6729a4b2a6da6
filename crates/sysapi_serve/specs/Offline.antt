-- The program's words, statuses and complaints, and what it does over a disk.
use Rattle.std.specs.Prelude.{◌≡◌, ◌≢◌, ◌⊎◌, ◌≤◌, ℕ, ◌+◌, false, List, [], ◌∷◌, ◌++◌, length, get_or, codes, decimal, Option, Some, None, IsSome, Result, Ok, Err, ⊤}
use Rattle.std.specs.List.{All}
use Rattle.sysapi_base.specs.declared.error.Failed.{Failed}
use Rattle.sysapi_base.specs.Outside.{Passes, Rises}
use Rattle.entry_codec.specs.declared.entry.Entry.{Entry}
use Rattle.repo_state.specs.Opening.{IsLegal}
use Rattle.journal_disk.specs.Format.{HasRecords, places_from, used_by}
use Rattle.journal_disk.specs.Journal.{IsKeptOr}
use Rattle.journal_disk.specs.Opening.{IsDamagedAt, IsOtherVersion}
use Rattle.journal_disk.specs.declared.fault.JournalFault.{JournalFault}
use Rattle.journal_disk.specs.declared.fault.JournalFault.TheVariants as fault
use Rattle.shared_repo.specs.Stored.{IsStoredEntry, spelled}
use Rattle.shared_repo.specs.Opening.{IsDamage}
use Rattle.sysapi_serve.specs.declared.offline.TheConstants.{REPOSITORY, ROOM}
use Rattle.sysapi_serve.specs.declared.outcome.Outcome.{Outcome}
use Rattle.sysapi_serve.specs.declared.outcome.Outcome.TheVariants.{Ended, Closed, Refused, CutShort, ReadFault, WriteFault, Spent, Memory}
use Rattle.sysapi_serve.specs.declared.outcome.Served.{Served}
use Rattle.sysapi_serve.specs.Kept.{Kept, number_of}
use Rattle.sysapi_serve.specs.Alone.{IsServed}
use Rattle.sysapi_serve.specs.Sessions.{IsFaultless}
use Rattle.sysapi_serve.specs.Parts.{Sends}

-- ---- words

-- the language has two lists of words: the one word `once`, and the one word `check`
abbrev pub IsOnce : List (List ℕ) → Type 0
IsOnce words = words ≡ codes "once" ∷ []

abbrev pub IsCheck : List (List ℕ) → Type 0
IsCheck words = words ≡ codes "check" ∷ []

abbrev pub IsInLanguage : List (List ℕ) → Type 0
IsInLanguage words = IsOnce words ⊎ IsCheck words

-- ---- statuses and complaints, each a line

-- the status of an outcome: 0 done, 1 a counted fault of the source or the sink, 3 no memory, 6 refused, cut short or too long
abbrev pub status_of : Outcome → ℕ
status_of Ended = 0
status_of Closed = 0
status_of (Refused e) = 6
status_of CutShort = 6
status_of ReadFault = 1
status_of WriteFault = 1
status_of Spent = 6
status_of Memory = 3

abbrev pub complaint_of : Outcome → List ℕ
complaint_of Ended = []
complaint_of Closed = []
complaint_of (Refused e) = codes "sysapi: request refused\n"
complaint_of CutShort = codes "sysapi: input cut short\n"
complaint_of ReadFault = codes "sysapi: read fault\n"
complaint_of WriteFault = codes "sysapi: write fault\n"
complaint_of Spent = codes "sysapi: input too long\n"
complaint_of Memory = codes "sysapi: out of memory\n"

abbrev pub bad_words : List ℕ
bad_words = codes "sysapi: bad words\n"

-- the status where no repository was opened: 1 a counted fault of the disk, 3 no memory, 4 damaged, 5 another version
abbrev pub stop_status : JournalFault → ℕ
stop_status fault.Fault = 1
stop_status (fault.Damaged place) = 4
stop_status (fault.OtherVersion version) = 5
stop_status fault.Memory = 3

abbrev pub stop_complaint : JournalFault → List ℕ
stop_complaint fault.Fault = codes "sysapi: device fault\n"
stop_complaint (fault.Damaged place) = codes "sysapi: damaged at " ++ (decimal place ++ codes "\n")
stop_complaint (fault.OtherVersion version) = codes "sysapi: journal version " ++ (decimal version ++ codes "\n")
stop_complaint fault.Memory = codes "sysapi: out of memory\n"

-- the four lines of `check`
abbrev pub summary : ℕ → ℕ → ℕ → List ℕ
summary repository count used =
    codes "version 1\nrepository " ++ (decimal repository ++ (codes "\nentries " ++ (decimal count ++ (codes "\nbytes " ++ (decimal used ++ codes "\n")))))

-- a summary was written whole, or the sink failed in it
abbrev pub summary_status : Result ⊤ Failed → ℕ
summary_status (Ok done) = 0
summary_status (Err failed) = 1

abbrev pub summary_complaint : Result ⊤ Failed → List ℕ
summary_complaint (Ok done) = []
summary_complaint (Err failed) = codes "sysapi: write fault\n"

-- the complaints take the text, or a part of it where their count of faults rose
abbrev pub Complains : {X : Type 0} → (X → Option (List ℕ)) → (X → ℕ) → (X → Type 0) → X → X → List ℕ → Type 0
Complains taken faults IsSteady old new text = (result : Result ⊤ Failed) × Sends (taken old) (taken new) text result × Passes faults IsSteady old new result

-- ---- what stands on a disk

-- a journal's bytes, sound and of version 1, whose records spell this history; each of its entries is accepted where it stands
pub record IsHistoryOf (repository : ℕ) (history : List Entry) (bytes : List ℕ) : Type 0 where
  pub sound : HasRecords repository (spelled history) bytes
  pub legal : IsLegal repository history
  pub stored : All IsStoredEntry history

-- the history with which a session begins over a disk: that on it, or on a disk of length 0 the empty one of repository 1
abbrev pub BeginsWith : ℕ → List Entry → List ℕ → Type 0
BeginsWith repository history [] = (repository ≡ REPOSITORY) × (history ≡ [])
BeginsWith repository history (b ∷ bytes) = IsHistoryOf repository history (b ∷ bytes)

-- where bytes are damaged: as a journal's, or, where its records are sound, at the gate of the first that is no acceptable entry
abbrev pub IsDamagedBytes : ℕ → List ℕ → Type 0
IsDamagedBytes place bytes =
    IsDamagedAt place bytes
    ⊎ ((repository : ℕ) × (records : List (List ℕ)) × HasRecords repository records bytes
    × ((index : ℕ) × (place ≡ get_or (places_from 16 records) index 0) × IsDamage repository records index))

-- why no repository is opened over these bytes; a fault and want of memory have no cause in them
abbrev pub IsCauseIn : List ℕ → JournalFault → Type 0
IsCauseIn bytes (fault.Damaged place) = IsDamagedBytes place bytes
IsCauseIn bytes (fault.OtherVersion version) = IsOtherVersion version bytes
IsCauseIn bytes fault.Fault = ⊤
IsCauseIn bytes fault.Memory = ⊤

-- the same of a session, which begins on a disk of length 0
abbrev pub HindersOnce : List ℕ → JournalFault → Type 0
HindersOnce [] why = (why ≡ fault.Fault) ⊎ (why ≡ fault.Memory)
HindersOnce (b ∷ bytes) why = IsCauseIn (b ∷ bytes) why

-- where the disk tells its bytes to the end, this holds of those that stood there before
abbrev pub OfBytes : Option (List ℕ) → Option (List ℕ) → (List ℕ → Type 0) → Type 0
OfBytes before now P = (bytes : List ℕ) → before ≡ Some bytes → IsSome now → P bytes

-- what the disk tells is what stood there before, where something stood there
abbrev pub ReadsAsBefore : Option (List ℕ) → Option (List ℕ) → Type 0
ReadsAsBefore before now = (bytes : List ℕ) → now ≡ Some bytes → (old : List ℕ) × (before ≡ Some old) × (old ≢ [] → bytes ≡ old)

-- The disk's count never falls. It rises where the run met a fault of the disk, which it never does over a steady disk; that stays
-- steady, and its count stays.
pub record CountsDisk {D : Type 0} (faults : D → ℕ) (IsSteady : D → Type 0) (old new : D) (met : Type 0) : Type 0 where
  pub later : faults old ≤ faults new
  pub failed : met → Rises (faults old) (faults new)
  pub steady : IsSteady old → (met → ⊥) × IsSteady new × (faults new ≡ faults old)

-- ---- a session over a disk

-- No repository was opened over the disk, for this reason.
pub record IsHindered {D : Type 0} (reading : D → Option (List ℕ)) (faults : D → ℕ) (IsSteady : D → Type 0) (hinders : List ℕ → JournalFault → Type 0) (old new : D) (why : JournalFault) : Type 0 where
  pub cause : OfBytes (reading old) (reading new) (λ bytes. hinders bytes why)
  pub same : ReadsAsBefore (reading old) (reading new)
  pub counts : CountsDisk faults IsSteady old new (why ≡ fault.Fault)

-- A session was served over the disk. It began with the history that stood there, all of which was used, and no record in doubt. Each
-- image of the disk has the records of the history at its end, or these and one in doubt, which there is none of where no request was
-- answered 500.
pub record IsServedOver {D : Type 0} (reading : D → Option (List ℕ)) (images : D → List ℕ → Type 0) (faults : D → ℕ) (IsSteady : D → Type 0) (old new : D)
    (left left_now taken taken_now clock clock_now : Option (List ℕ)) (served : Served) : Type 0 where
  pub first : Kept
  pub last : Kept
  pub begins : OfBytes (reading old) (reading new) (BeginsWith (number_of first) first.history)
  pub used : IsSome (reading new) → first.figures.used ≡ used_by (spelled first.history)
  pub room : first.figures.room ≡ ROOM
  pub clean : first.figures.doubt ≡ false
  pub serves : IsServed (λ n. n + 5) (IsSteady old) first last left left_now taken taken_now clock clock_now served
  pub doubted : Option (List ℕ)
  pub settled : IsFaultless serves.session.answers → doubted ≡ None
  pub leaves : IsSome (reading new) → (image : List ℕ) → images new image → IsKeptOr (number_of last) (spelled last.history) doubted image
  pub later : faults old ≤ first.faults
  pub count : last.faults ≡ faults new
  pub steady : IsSteady old → IsSteady new × (faults new ≡ faults old)

-- ---- `check`

-- The summary of a journal that was opened was written, or a part of it where the sink failed. The disk reads as before.
pub record IsSummed {D : Type 0} (reading : D → Option (List ℕ)) (faults : D → ℕ) (IsSteady : D → Type 0) (old new : D) (taken taken_now : Option (List ℕ)) (result : Result ⊤ Failed) : Type 0 where
  pub repository : ℕ
  pub count : ℕ
  pub used : ℕ
  pub sends : Sends taken taken_now (summary repository count used) result
  pub found : OfBytes (reading old) (reading new) (λ bytes. (history : List Entry) × IsHistoryOf repository history bytes × (count ≡ length history) × (used ≡ used_by (spelled history)))
  pub same : (bytes : List ℕ) → reading new ≡ Some bytes → reading old ≡ Some bytes
  pub counts : CountsDisk faults IsSteady old new ⊥
