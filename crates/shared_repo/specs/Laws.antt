-- Opening again: a keeper whose records spell a history opens as that history.
use Rattle.std.specs.Prelude.{◌≡◌, ℕ, List}
use Rattle.std.specs.List.{All}
use Rattle.entry_codec.specs.declared.entry.Entry.{Entry}
use Rattle.repo_state.specs.Opening.{IsLegal}
use Rattle.shared_repo.specs.Stored.{IsStoredEntry, spelled}
use Rattle.shared_repo.specs.Opening.{IsDamage}

-- two histories that spell the same records are one
abbrev pub IsSpelledOnce : Type 0
IsSpelledOnce = (g h : List Entry) → All IsStoredEntry g → All IsStoredEntry h → spelled g ≡ spelled h → g ≡ h

-- no record of a legal history is damaged
abbrev pub IsNeverDamaged : Type 0
IsNeverDamaged = (repository : ℕ) (history : List Entry) (index : ℕ) → IsLegal repository history → All IsStoredEntry history → IsDamage repository (spelled history) index → ⊥
