-- A repository is opened entry by entry.
use Rattle.std.proofs.Common.{◌≡◌, ℕ, ◌+◌, ◌<◌, List, [], ◌∷◌, ◌++◌, length, get_or, take, drop, Some, Ok, ap, sym, subst, ◌∙◌}
use Rattle.std.specs.Prelude.{reverse}
use Rattle.std.proofs.lemmas.List.{take_more, reverse-append}
use Rattle.api_records.specs.declared.refusal.Refusal.{Refusal}
use Rattle.entry_codec.specs.declared.entry.Entry.{Entry}
use Rattle.entry_codec.specs.Refusals.{refusal}
use Rattle.repo_state.specs.Stands.{StandsFor, Accepts, repository_of}
use Rattle.repo_state.specs.Opening.{AreAccepted, IsRefusedAt}
use Rattle.repo_state.specs.declared.state.State.{State}
use Rattle.repo_state.specs.declared.accept.Accepted.{Accepted}
use Rattle.repo_state.proofs.VersionLemmas.{split_at}

-- what an opened state is known to be
pub record IsOpened (r : ℕ) (past : List Entry) (s : State) : Type 0 where
  pub stands : StandsFor s past
  pub accepted : AreAccepted r past
  pub number : repository_of s ≡ r

-- one more entry that is accepted
pub opened_more : (r : ℕ) (past : List Entry) (s : State) (e : Entry) (a : Accepted) → IsOpened r past s → Accepts s past e (Ok a) → IsOpened r (e ∷ past) a.state
opened_more r past s e a is at = record {
  stands = at.stands;
  accepted = (ap (λ n. refusal n past e.command) (sym is.number) ∙ at.allowed, is.accepted);
  number = at.same ∙ is.number;
}

-- the first entries and one more, the newest first
pub newest_first : (history : List Entry) (place : ℕ) (e : Entry) → place < length history → e ≡ get_or history place e → e ∷ reverse (take place history) ≡ reverse (take (place + 1) history)
newest_first history place e less at =
    sym (reverse-append (take place history) (e ∷ []))
    ∙ ap (λ (es : List Entry). reverse es) (ap (λ x. take place history ++ x ∷ []) at ∙ sym (take_more history place e less))

pub opened_next : (r : ℕ) (history : List Entry) (place : ℕ) (s : State) (e : Entry) (a : Accepted) → place < length history → e ≡ get_or history place e
    → IsOpened r (reverse (take place history)) s → Accepts s (reverse (take place history)) e (Ok a) → IsOpened r (reverse (take (place + 1) history)) a.state
opened_next r history place s e a less at is accepts =
    subst (λ past. IsOpened r past a.state) (newest_first history place e less at) (opened_more r (reverse (take place history)) s e a is accepts)

-- the first entry that is refused
pub refused_next : (r : ℕ) (history : List Entry) (place : ℕ) (s : State) (e : Entry) (why : Refusal) → place < length history → e ≡ get_or history place e
    → IsOpened r (reverse (take place history)) s → refusal (repository_of s) (reverse (take place history)) e.command ≡ Some why → IsRefusedAt r history place
refused_next r history place s e why less at is refused = record {
  inside = less;
  legal = is.accepted;
  entry = e;
  later = drop (place + 1) history;
  there = split_at history place e less at;
  why = why;
  refused = ap (λ n. refusal n (reverse (take place history)) e.command) (sym is.number) ∙ refused;
}
