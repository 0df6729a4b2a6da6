-- Opening: which entries make a state. A repository that is opened record by record speaks of its entries by these words too.
use Rattle.std.specs.Prelude.{◌≡◌, ℕ, ◌<◌, List, [], ◌∷◌, length, take, drop, reverse, None, Some, Result, Ok, Err, ⊤}
use Rattle.api_records.specs.declared.refusal.Refusal.{Refusal}
use Rattle.entry_codec.specs.declared.entry.Entry.{Entry}
use Rattle.entry_codec.specs.Refusals.{refusal}
use Rattle.repo_state.specs.Stands.{StandsFor, repository_of}
use Rattle.repo_state.specs.declared.state.State.{State}
use Rattle.repo_state.specs.declared.open.StateOpen.{StateOpen}
use Rattle.repo_state.specs.declared.open.StateOpen.TheVariants.{NotAcceptable, Memory}

-- each entry, the newest first, has no refusal where it stands
abbrev pub AreAccepted : ℕ → List Entry → Type 0
AreAccepted r [] = ⊤
AreAccepted r (e ∷ past) = (refusal r past e.command ≡ None) × AreAccepted r past

-- the same of entries that stand oldest first
abbrev pub IsLegal : ℕ → List Entry → Type 0
IsLegal r history = AreAccepted r (reverse history)

-- The entry at this place, counted from 0, is the first one that is refused. The oldest stands first.
pub record IsRefusedAt (r : ℕ) (history : List Entry) (place : ℕ) : Type 0 where
  pub inside : place < length history
  pub legal : IsLegal r (take place history)
  pub entry : Entry
  pub later : List Entry
  pub there : drop place history ≡ entry ∷ later
  pub why : Refusal
  pub refused : refusal r (reverse (take place history)) entry.command ≡ Some why

-- What opening a repository with these entries answers: its state, or the place of the entry that is refused. Want of memory says
-- nothing.
abbrev pub Opens : ℕ → List Entry → Result State StateOpen → Type 0
Opens r history (Ok s) = StandsFor s (reverse history) × IsLegal r history × (repository_of s ≡ r)
Opens r history (Err (NotAcceptable place)) = IsRefusedAt r history place
Opens r history (Err Memory) = ⊤
