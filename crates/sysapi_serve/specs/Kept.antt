-- What contracts see of a repository at one time, and how one time leads to another.
use Rattle.std.specs.Prelude.{◌≡◌, ℕ, List, [], ◌∷◌, reverse, Option, Some, None, IsSome}
use Rattle.entry_codec.specs.declared.entry.Entry.{Entry}
use Rattle.journal_disk.specs.Keeper.{Figures}
use Rattle.journal_disk.specs.declared.keeper.Keeper as keeper
use Rattle.shared_repo.specs.declared.repo.Repo.{Repo}
use Rattle.shared_repo.specs.Stored.{Opened, opened, Stores}

-- its history, the oldest entry first, what its keeper always tells, and how often a call of its keeper has failed
pub record Kept : Type 0 where
  pub history : List Entry
  pub figures : Figures
  pub faults : ℕ

-- the newest entry first
abbrev pub past : Kept → List Entry
past k = reverse k.history

-- the repository's number
abbrev pub number_of : Kept → ℕ
number_of k = k.figures.repository

-- a list of the entry, if there is one
abbrev pub entries : Option Entry → List Entry
entries None = []
entries (Some e) = e ∷ []

-- a repository at a time at which it stores this history
abbrev pub kept_of : {Q : Type 0} → (Q → Figures) → (Q → ℕ) → Opened Q → List Entry → Kept
kept_of figures faults repo history = record { history = history; figures = figures repo.keeper; faults = faults repo.keeper }

-- Whatever history the repository stored before, it stores one now such that this holds of the two times.
abbrev pub Leads : {Q : Type 0} {keeps : keeper.Ghosts Q} → (Q → Figures) → (Q → Option (List (List ℕ))) → (Q → ℕ) → Repo Q keeps → Repo Q keeps → (Kept → Kept → Type 0) → Type 0
Leads figures records faults old new P =
    (before : List Entry) → Stores figures records (opened old) before
    → (now : List Entry) × Stores figures records (opened new) now × P (kept_of figures faults (opened old) before) (kept_of figures faults (opened new) now)

-- no call of its keeper will fail from here on
abbrev pub IsSteadyRepo : {Q : Type 0} {keeps : keeper.Ghosts Q} → (Q → Type 0) → Repo Q keeps → Type 0
IsSteadyRepo IsSteady repo = IsSteady (opened repo).keeper

-- A steady keeper stays so, and its count stays; and a keeper that tells its records told them before.
pub record GoesOn {Q : Type 0} {keeps : keeper.Ghosts Q} (records : Q → Option (List (List ℕ))) (faults : Q → ℕ) (IsSteady : Q → Type 0) (old new : Repo Q keeps) : Type 0 where
  pub steady : IsSteadyRepo IsSteady old → IsSteadyRepo IsSteady new × (faults (opened new).keeper ≡ faults (opened old).keeper)
  pub told : IsSome (records (opened new).keeper) → IsSome (records (opened old).keeper)
