-- What opening a repository over a disk finds.
use Rattle.std.specs.Prelude.{◌≡◌, ℕ, false, List, get_or, length, Option, Some, ⊤}
use Rattle.entry_codec.specs.declared.entry.Entry.{Entry}
use Rattle.journal_disk.specs.Format.{places_from}
use Rattle.journal_disk.specs.Journal.{Held, told, figures_of}
use Rattle.journal_disk.specs.declared.fault.JournalFault.{JournalFault}
use Rattle.journal_disk.specs.declared.fault.JournalFault.TheVariants as fault
use Rattle.journal_disk.specs.declared.fault.OpenFault.{OpenFault}
use Rattle.journal_disk.specs.declared.fault.OpenFault.TheVariants as unopened
use Rattle.shared_repo.specs.Opening.{IsDamage}
use Rattle.shared_repo.specs.Stored.{Opened, Stores}
use Rattle.sysapi_serve.specs.declared.offline.TheConstants.{ROOM}
use Rattle.sysapi_serve.specs.Offline.{CountsDisk, OfBytes}

-- why no journal is opened where no repository is opened over it
abbrev pub causes : OpenFault → JournalFault
causes unopened.Fault = fault.Fault
causes (unopened.Damaged place) = fault.Damaged place
causes unopened.Memory = fault.Memory

-- what is told has this length
abbrev pub IsOfLength : Option (List ℕ) → ℕ → Type 0
IsOfLength reading n = (b : List ℕ) → reading ≡ Some b → n ≡ length b

-- A repository stands over a journal, which was only read.
pub record IsOver {D : Type 0} (reading : D → Option (List ℕ)) (faults : D → ℕ) (IsSteady : D → Type 0) (journal : Held D) (repo : Opened (Held D)) : Type 0 where
  pub history : List Entry
  pub stores : Stores figures_of (told reading) repo history
  pub same_figures : figures_of repo.keeper ≡ figures_of journal
  pub same_records : told reading repo.keeper ≡ told reading journal
  pub same_reading : reading repo.keeper.disk ≡ reading journal.disk
  pub counts : CountsDisk faults IsSteady journal.disk repo.keeper.disk ⊥

-- why none stands over these records
abbrev pub IsCauseOver : ℕ → Option (List (List ℕ)) → JournalFault → Type 0
IsCauseOver repository records (fault.Damaged place) =
    (kept : List (List ℕ)) → records ≡ Some kept → (index : ℕ) × (place ≡ get_or (places_from 16 kept) index 0) × IsDamage repository kept index
IsCauseOver repository records (fault.OtherVersion version) = ⊥
IsCauseOver repository records fault.Fault = ⊤
IsCauseOver repository records fault.Memory = ⊤

-- No repository stands over a journal, which was only read.
pub record IsNotOver {D : Type 0} (reading : D → Option (List ℕ)) (faults : D → ℕ) (IsSteady : D → Type 0) (journal : Held D) (new : D) (why : JournalFault) : Type 0 where
  pub cause : IsCauseOver journal.repository (told reading journal) why
  pub same_reading : reading new ≡ reading journal.disk
  pub counts : CountsDisk faults IsSteady journal.disk new (why ≡ fault.Fault)

-- A repository was opened over a disk, whose history is found so in the bytes that stood there. No record is in doubt.
pub record IsBegun {D : Type 0} (reading : D → Option (List ℕ)) (faults : D → ℕ) (IsSteady : D → Type 0) (begins : ℕ → List Entry → List ℕ → Type 0) (old : D) (repo : Opened (Held D)) : Type 0 where
  pub history : List Entry
  pub stores : Stores figures_of (told reading) repo history
  pub found : OfBytes (reading old) (reading repo.keeper.disk) (begins repo.keeper.repository history)
  pub room : repo.keeper.room ≡ ROOM
  pub clean : repo.keeper.doubt ≡ false
  pub counts : CountsDisk faults IsSteady old repo.keeper.disk ⊥
