-- What a command does to a repository over a keeper.
use Rattle.std.specs.Prelude.{◌≡◌, ◌⊎◌, ℕ, ◌+◌, ◌<◌, ◌≤◌, List, [], ◌∷◌, ◌++◌, length, reverse, Option, Some, None, IfSome, Result, Ok, Err, ⊤}
use Rattle.entry_codec.specs.declared.entry.Entry.{Entry}
use Rattle.entry_codec.specs.Histories.{tables}
use Rattle.entry_codec.specs.Refusals.{refusal}
use Rattle.entry_codec.specs.Replies.{command_reply}
use Rattle.entry_bytes.specs.Spelling.{entry_bytes}
use Rattle.repo_state.specs.Stands.{StandsFor, repository_of}
use Rattle.repo_state.specs.declared.state.State.{State}
use Rattle.shared_repo.specs.declared.commit.Ready.{Ready}
use Rattle.journal_disk.specs.Keeper.{Figures, SameFigures, OneMore, NoMore, IsKeptWith}
use Rattle.shared_repo.specs.declared.fault.Written.{Written}
use Rattle.shared_repo.specs.declared.fault.WriteError.{WriteError}
use Rattle.shared_repo.specs.declared.fault.WriteError.TheVariants.{Refused, Fault, Full, Memory}
use Rattle.shared_repo.specs.Stored.{Opened, Stores}

-- how much is used with the record of an entry
abbrev pub used_with : (ℕ → ℕ) → Figures → Entry → ℕ
used_with costs figures e = figures.used + costs (length (entry_bytes e))

-- the entry has no refusal behind this history, and its record fits
pub record IsAllowed (costs : ℕ → ℕ) (repository : ℕ) (figures : Figures) (history : List Entry) (e : Entry) : Type 0 where
  pub allowed : refusal repository (reverse history) e.command ≡ None
  pub fits : used_with costs figures e ≤ figures.room

-- The entry is stored behind the history, at the place told and with the reply of its command.
pub record IsWritten {Q : Type 0} (figures : Q → Figures) (records : Q → Option (List (List ℕ))) (costs : ℕ → ℕ) (old new : Opened Q) (history : List Entry) (e : Entry) (written : Written) : Type 0 where
  pub allowed : IsAllowed costs (repository_of old.state) (figures old.keeper) history e
  pub place : written.place ≡ length history
  pub reply : written.reply ≡ command_reply (repository_of old.state) (tables (repository_of old.state) (reverse history)) e.moment e.command
  pub stores : Stores figures records new (history ++ e ∷ [])
  pub more : OneMore (costs (length (entry_bytes e))) (figures old.keeper) (figures new.keeper)

-- it met a fault, and isn't stored
pub record IsFaulty {Q : Type 0} (figures : Q → Figures) (records : Q → Option (List (List ℕ))) (costs : ℕ → ℕ) (old new : Opened Q) (history : List Entry) (e : Entry) : Type 0 where
  pub allowed : IsAllowed costs (repository_of old.state) (figures old.keeper) history e
  pub stores : Stores figures records new history
  pub no_more : NoMore (figures old.keeper) (figures new.keeper)

-- nothing happened but that spare was made
pub record IsIdle {Q : Type 0} (figures : Q → Figures) (records : Q → Option (List (List ℕ))) (old new : Opened Q) (history : List Entry) : Type 0 where
  pub stores : Stores figures records new history
  pub same : SameFigures (figures old.keeper) (figures new.keeper)

-- its record doesn't fit
pub record IsFull {Q : Type 0} (figures : Q → Figures) (records : Q → Option (List (List ℕ))) (costs : ℕ → ℕ) (old new : Opened Q) (history : List Entry) (e : Entry) (needed room : ℕ) : Type 0 where
  pub allowed : refusal (repository_of old.state) (reverse history) e.command ≡ None
  pub needed_is : needed ≡ used_with costs (figures old.keeper) e
  pub room_is : room ≡ (figures old.keeper).room
  pub above : room < needed
  pub idle : IsIdle figures records old new history

-- What a command answers at a history, and what it leaves.
abbrev pub Commands : {Q : Type 0} → (Q → Figures) → (Q → Option (List (List ℕ))) → (ℕ → ℕ) → Opened Q → Opened Q → List Entry → Entry → Result Written WriteError → Type 0
Commands figures records costs old new history e (Ok written) = IsWritten figures records costs old new history e written
Commands figures records costs old new history e (Err (Refused why point)) =
    (refusal (repository_of old.state) (reverse history) e.command ≡ Some why) × (point ≡ length history) × (new ≡ old)
Commands figures records costs old new history e (Err Fault) = IsFaulty figures records costs old new history e
Commands figures records costs old new history e (Err (Full needed room)) = IsFull figures records costs old new history e needed room
Commands figures records costs old new history e (Err Memory) = IsIdle figures records old new history

-- ---- the two halves of a command

-- what is ready to be kept: the state behind the entry, its reply and its place
pub record IsReady (costs : ℕ → ℕ) (figures : Figures) (state : State) (history : List Entry) (e : Entry) (ready : Ready) : Type 0 where
  pub allowed : IsAllowed costs (repository_of state) figures history e
  pub stands : StandsFor ready.state (e ∷ reverse history)
  pub same : repository_of ready.state ≡ repository_of state
  pub place : ready.place ≡ length history
  pub reply : ready.reply ≡ command_reply (repository_of state) (tables (repository_of state) (reverse history)) e.moment e.command

abbrev pub Prepares : (ℕ → ℕ) → Figures → State → List Entry → Entry → Result Ready WriteError → Type 0
Prepares costs figures state history e (Ok ready) = IsReady costs figures state history e ready
Prepares costs figures state history e (Err (Refused why point)) = (refusal (repository_of state) (reverse history) e.command ≡ Some why) × (point ≡ length history)
Prepares costs figures state history e (Err Fault) = ⊥
Prepares costs figures state history e (Err (Full needed room)) =
    (refusal (repository_of state) (reverse history) e.command ≡ None) × (needed ≡ used_with costs figures e) × (room ≡ figures.room) × (room < needed)
Prepares costs figures state history e (Err Memory) = ⊤

abbrev pub IsNoFault : WriteError → Type 0
IsNoFault (Refused why point) = ⊤
IsNoFault Fault = ⊥
IsNoFault (Full needed room) = ⊤
IsNoFault Memory = ⊤

abbrev pub IsRefusal : WriteError → Type 0
IsRefusal (Refused why point) = ⊤
IsRefusal Fault = ⊥
IsRefusal (Full needed room) = ⊥
IsRefusal Memory = ⊥

-- a keeper has made spare, and all else is the same
pub record IsReserved {Q : Type 0} (figures : Q → Figures) (records : Q → Option (List (List ℕ))) (doubted : Q → Option (List ℕ)) (old new : Q) : Type 0 where
  pub same_figures : SameFigures (figures old) (figures new)
  pub same_records : records new ≡ records old
  pub same_doubted : doubted new ≡ doubted old

-- an image has the kept records, or these and one that was in doubt, or these and the new one
abbrev pub IsKeptOrNew : List (List ℕ) → Option (List ℕ) → List ℕ → Option (List (List ℕ)) → Type 0
IsKeptOrNew kept doubted new image = IsKeptWith kept doubted image ⊎ (image ≡ Some (kept ++ new ∷ []))

-- a record in doubt is the new one, or the one that was in doubt before
abbrev pub IsDoubtOf : Option (List ℕ) → List ℕ → Option (List ℕ) → Type 0
IsDoubtOf before new now = IfSome now (λ r. (r ≡ new) ⊎ (before ≡ Some r))
