-- What a repository over a keeper stores: a history, the oldest entry first.
use Rattle.std.specs.Prelude.{◌≡◌, ℕ, List, length, map, reverse, Option, Some}
use Rattle.std.specs.List.{All}
use Rattle.entry_codec.specs.declared.entry.Entry.{Entry}
use Rattle.entry_bytes.specs.Spelling.{entry_bytes}
use Rattle.entry_bytes.specs.Sound.{IsEntry, IsProperEntry}
use Rattle.repo_state.specs.Stands.{StandsFor, repository_of}
use Rattle.repo_state.specs.Opening.{IsLegal}
use Rattle.repo_state.specs.declared.state.State.{State}
use Rattle.journal_disk.specs.Keeper.{Figures}
use Rattle.journal_disk.specs.declared.keeper.Keeper as keeper
use Rattle.shared_repo.specs.declared.repo.Repo.{Repo}

-- what a repository consists of
pub record Opened (Q : Type 0) : Type 0 where
  pub keeper : Q
  pub state : State

abbrev pub opened : {Q : Type 0} {keeps : keeper.Ghosts Q} → Repo Q keeps → Opened Q
opened repo = record { keeper = repo.keeper; state = repo.state }

-- an entry that can be stored, of parts that any entry has
abbrev pub IsStoredEntry : Entry → Type 0
IsStoredEntry e = IsEntry e × IsProperEntry e

-- the records that spell a history
abbrev pub spelled : List Entry → List (List ℕ)
spelled history = map entry_bytes history

-- these records, where they are told, spell the history
abbrev pub AreSpelled : Option (List (List ℕ)) → List Entry → Type 0
AreSpelled told history = (kept : List (List ℕ)) → told ≡ Some kept → kept ≡ spelled history

-- The repository stores this history: the state stands for it, each of its entries is accepted where it stands and can be stored, and
-- the keeper has a record for each, which spells it where it is told.
pub record Stores {Q : Type 0} (figures : Q → Figures) (records : Q → Option (List (List ℕ))) (repo : Opened Q) (history : List Entry) : Type 0 where
  pub stands : StandsFor repo.state (reverse history)
  pub legal : IsLegal (repository_of repo.state) history
  pub stored : All IsStoredEntry history
  pub number : repository_of repo.state ≡ (figures repo.keeper).repository
  pub count : (figures repo.keeper).count ≡ length history
  pub spells : AreSpelled (records repo.keeper) history
