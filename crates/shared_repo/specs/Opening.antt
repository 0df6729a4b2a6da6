-- Opening a repository over a keeper, record by record.
use Rattle.std.specs.Prelude.{◌≡◌, ◌≢◌, ℕ, ◌<◌, ◌≤◌, List, length, take, slice_index_or, [], reverse, None, Option, Some, Result, Ok, Err, IfErr, ⊤}
use Rattle.std.specs.List.{All}
use Rattle.entry_codec.specs.declared.entry.Entry.{Entry}
use Rattle.entry_codec.specs.Refusals.{refusal}
use Rattle.entry_bytes.specs.Spelling.{entry_bytes}
use Rattle.repo_state.specs.Opening.{IsLegal}
use Rattle.repo_state.specs.Stands.{StandsFor, repository_of}
use Rattle.sysapi_base.specs.Outside.{Rises}
use Rattle.repo_state.specs.declared.state.State.{State}
use Rattle.journal_disk.specs.Keeper.{Figures, KeepsPlaces}
use Rattle.journal_disk.specs.declared.fault.OpenFault.{OpenFault}
use Rattle.journal_disk.specs.declared.fault.OpenFault.TheVariants as fault
use Rattle.shared_repo.specs.declared.fault.RepoOpen.{RepoOpen}
use Rattle.journal_disk.specs.declared.keeper.Keeper as keeper
use Rattle.shared_repo.specs.declared.repo.Repo.{Repo}
use Rattle.shared_repo.specs.Stored.{opened, IsStoredEntry, spelled, Stores}

-- The record at this index is the first one that is no entry acceptable where it stands: those before it spell a legal history, and
-- it spells no entry that can be stored and isn't refused behind it.
pub record IsDamage (repository : ℕ) (kept : List (List ℕ)) (index : ℕ) : Type 0 where
  pub inside : index < length kept
  pub history : List Entry
  pub legal : IsLegal repository history
  pub stored : All IsStoredEntry history
  pub before : take index kept ≡ spelled history
  pub unacceptable : (e : Entry) → IsStoredEntry e → entry_bytes e ≡ slice_index_or kept index [] → refusal repository (reverse history) e.command ≢ None

-- where it is told, the first damaged record is named by the keeper's place of it
abbrev pub IsDamagedAt : ℕ → Option (List (List ℕ)) → (ℕ → ℕ) → ℕ → Type 0
IsDamagedAt repository told places place = (kept : List (List ℕ)) → told ≡ Some kept → (index : ℕ) × (place ≡ places index) × IsDamage repository kept index

-- a keeper was read, and nothing else
pub record IsOnlyRead {Q : Type 0} (figures : Q → Figures) (places : Q → ℕ → ℕ) (records : Q → Option (List (List ℕ))) (reading doubted : Q → Option (List ℕ)) (old new : Q) : Type 0 where
  pub same_figures : figures new ≡ figures old
  pub same_places : KeepsPlaces (figures old).count (places old) (places new)
  pub same_records : records new ≡ records old
  pub same_reading : reading new ≡ reading old
  pub same_doubted : doubted new ≡ doubted old

-- the keeper, which is given back either way
abbrev pub OnKeeper : {Q : Type 0} {keeps : keeper.Ghosts Q} → Result (Repo Q keeps) (RepoOpen Q) → (Q → Type 0) → Type 0
OnKeeper (Ok repo) P = P repo.keeper
OnKeeper (Err e) P = P e.keeper

-- why a keeper of this repository, with these records and places, makes no repository
abbrev pub IsCause : ℕ → Option (List (List ℕ)) → (ℕ → ℕ) → OpenFault → Type 0
IsCause repository told places (fault.Damaged place) = IsDamagedAt repository told places place
IsCause repository told places fault.Fault = ⊤
IsCause repository told places fault.Memory = ⊤

-- What opening over a keeper answers: a repository that stores a history, or why there is none.
abbrev pub Opens : {Q : Type 0} {keeps : keeper.Ghosts Q} → (Q → Figures) → (Q → ℕ → ℕ) → (Q → Option (List (List ℕ))) → Q → Result (Repo Q keeps) (RepoOpen Q) → Type 0
Opens figures places records old (Ok repo) = (history : List Entry) × Stores figures records (opened repo) history
Opens figures places records old (Err e) = IsCause (figures old).repository (records old) (places old) e.why

-- The keeper's count never falls. It rises where the answer is a fault, which a steady keeper's never is, and stays where the keeper
-- is steady, which it then stays.
pub record OpensBy {Q : Type 0} {keeps : keeper.Ghosts Q} (count : Q → ℕ) (IsSteady : Q → Type 0) (old : Q) (result : Result (Repo Q keeps) (RepoOpen Q)) : Type 0 where
  pub later : OnKeeper result (λ new. count old ≤ count new)
  pub failed : IfErr result (λ e. e.why ≡ fault.Fault → Rises (count old) (count e.keeper))
  pub no_fault : IsSteady old → IfErr result (λ e. e.why ≢ fault.Fault)
  pub steady : IsSteady old → OnKeeper result (λ new. IsSteady new × (count new ≡ count old))

-- ---- record by record

-- What the keeper's first records tell: the state of a legal history that they spell.
pub record Holds (repository : ℕ) (told : Option (List (List ℕ))) (state : State) (history : List Entry) : Type 0 where
  pub stands : StandsFor state (reverse history)
  pub number : repository_of state ≡ repository
  pub legal : IsLegal repository history
  pub stored : All IsStoredEntry history
  pub spells : (kept : List (List ℕ)) → told ≡ Some kept → take (length history) kept ≡ spelled history

-- what reading one record more, or all of them, gives
abbrev pub Loads : ℕ → Option (List (List ℕ)) → (ℕ → ℕ) → ℕ → Result State OpenFault → Type 0
Loads repository told places count (Ok state) = (history : List Entry) × (length history ≡ count) × Holds repository told state history
Loads repository told places count (Err why) = IsCause repository told places why
