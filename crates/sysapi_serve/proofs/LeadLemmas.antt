-- How one time of a repository leads to another: what a step leads to, one step after another.
use Rattle.std.proofs.Common.{ℕ, List, Option, refl, ◌∙◌}
use Rattle.journal_disk.specs.Keeper.{Figures}
use Rattle.journal_disk.specs.declared.keeper.Keeper as keeper
use Rattle.shared_repo.specs.declared.repo.Repo.{Repo}
use Rattle.sysapi_serve.specs.Kept.{Kept, Leads, GoesOn}

module _ {Q : Type 0} {keeps : keeper.Ghosts Q} (figures : Q → Figures) (records : Q → Option (List (List ℕ))) (faults : Q → ℕ) where
  -- no step
  pub leads_here : (repo : Repo Q keeps) (P : Kept → Kept → Type 0) → ((k : Kept) → P k k) → Leads figures records faults repo repo P
  leads_here repo P here = λ before stores. (before, stores, here _)

  -- what follows from what a step leads to
  pub leads_as : (old new : Repo Q keeps) (P R : Kept → Kept → Type 0) → Leads figures records faults old new P → ((a b : Kept) → P a b → R a b) → Leads figures records faults old new R
  leads_as old new P R leads follows = λ before stores. let now = leads before stores in (now.0, now.1, follows _ _ now.2)

  -- one step after another
  pub leads_then : (old mid new : Repo Q keeps) (P R S : Kept → Kept → Type 0) → Leads figures records faults old mid P → Leads figures records faults mid new R
      → ((a b c : Kept) → P a b → R b c → S a c) → Leads figures records faults old new S
  leads_then old mid new P R S first second follows = λ before stores.
      let then = first before stores in
      let now = second then.0 then.1 in
      (now.0, now.1, follows _ _ _ then.2 now.2)

module _ {Q : Type 0} {keeps : keeper.Ghosts Q} (records : Q → Option (List (List ℕ))) (faults : Q → ℕ) (IsSteady : Q → Type 0) where
  pub goes_nowhere : (repo : Repo Q keeps) → GoesOn records faults IsSteady repo repo
  goes_nowhere repo = record { steady = λ is. (is, refl); told = λ is. is }

  pub goes_then : (old mid new : Repo Q keeps) → GoesOn records faults IsSteady old mid → GoesOn records faults IsSteady mid new → GoesOn records faults IsSteady old new
  goes_then old mid new first second = record {
    steady = λ is.
        let was = first.steady is in
        let now = second.steady was.0 in
        (now.0, now.1 ∙ was.1);
    told = λ is. first.told (second.told is);
  }
