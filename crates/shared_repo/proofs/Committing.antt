-- What a repository stores behind a command.
use Rattle.std.proofs.Common.{rules, ◌≡◌, ℕ, ◌+◌, List, [], ◌∷◌, ◌++◌, length, reverse, Option, Some, None, ap, sym, subst, ◌∙◌, refl, arith}
use Rattle.std.proofs.lemmas.List.{reverse-append, length_push, map_push, append-nil}
use Rattle.std.proofs.lemmas.List.Elements.{All-push}
use Rattle.std.proofs.lemmas.Option.{same_Some}
use Rattle.std.specs.Prelude.{IsSome, ◌≤◌, ◌^◌, Result, Ok, Err}
use Rattle.std.specs.Result.{IsErrAnd}
use Rattle.std.proofs.Common.{inl, inr}
use Rattle.sysapi_base.specs.Outside.{Grows}
use Rattle.api_records.specs.Storable.{IsStorable}
use Rattle.api_records.specs.declared.command.Command.{Command}
use Rattle.entry_bytes.proofs.Entries.{entry_short}
use Rattle.journal_disk.specs.Disk.{LeavesOnly}
use Rattle.journal_disk.specs.Keeper.{IsOldOrMore, IsKeptWith}
use Rattle.journal_disk.proofs.Moments.{weaker, run_on}
use Rattle.entry_bytes.specs.Sound.{IsProperEntry}
use Rattle.journal_disk.specs.Keeper.{SameFigures}
use Rattle.shared_repo.specs.declared.commit.Ready.{Ready}
use Rattle.shared_repo.specs.declared.fault.Written.{Written}
use Rattle.shared_repo.specs.declared.fault.WriteError.{WriteError}
use Rattle.shared_repo.specs.declared.fault.WriteError.TheVariants.{Fault}
use Rattle.shared_repo.specs.Commands.{Commands, IsReady, IsWritten, IsFaulty, IsKeptOrNew}
use Rattle.entry_codec.specs.declared.entry.Entry.{Entry}
use Rattle.entry_codec.specs.Refusals.{refusal}
use Rattle.entry_bytes.specs.Spelling.{entry_bytes}
use Rattle.repo_state.specs.Stands.{StandsFor, repository_of}
use Rattle.repo_state.specs.Opening.{AreAccepted}
use Rattle.repo_state.specs.declared.state.State.{State}
use Rattle.journal_disk.specs.Keeper.{Figures, OneMore, NoMore}
use Rattle.shared_repo.specs.Stored.{Opened, IsStoredEntry, Stores}

-- what is told at the end was told before, without what was added
pub told_before : {A : Type 0} (old new : Option (List A)) (items kept : List A) → Grows old new items → new ≡ Some kept
    → (before : List A) × (old ≡ Some before) × (kept ≡ before ++ items)
told_before None new items kept grows is = cc
told_before (Some old) None items kept grows is = cc
told_before (Some old) (Some new) items kept grows is = (old, refl, sym (same_Some new kept is) ∙ grows)

module _ {Q : Type 0} (figures : Q → Figures) (records : Q → Option (List (List ℕ))) where
  -- the history stays
  pub stores_same : (old : Opened Q) (new : Q) (history : List Entry) → Stores figures records old history
      → (figures new).repository ≡ (figures old.keeper).repository → (figures new).count ≡ (figures old.keeper).count → Grows (records old.keeper) (records new) []
      → Stores figures records (record { keeper = new; state = old.state }) history
  stores_same old new history s number count grows = record {
    stands = s.stands;
    legal = s.legal;
    stored = s.stored;
    number = s.number ∙ sym number;
    count = count ∙ s.count;
    spells = λ kept is.
        let before = told_before (records old.keeper) (records new) [] kept grows is in
        before.2 ∙ append-nil before.0 ∙ s.spells before.0 before.1;
  }

  -- an entry more
  pub stores_more : (old : Opened Q) (new : Q) (state : State) (history : List Entry) (e : Entry) (cost : ℕ) → Stores figures records old history
      → StandsFor state (e ∷ reverse history) → repository_of state ≡ repository_of old.state → refusal (repository_of old.state) (reverse history) e.command ≡ None
      → IsStoredEntry e → OneMore cost (figures old.keeper) (figures new) → Grows (records old.keeper) (records new) (entry_bytes e ∷ [])
      → Stores figures records (record { keeper = new; state = state }) (history ++ e ∷ [])
  stores_more old new state history e cost s stands same allowed stored more grows = record {
    stands = subst (λ (past : List Entry). StandsFor state past) (sym (reverse-append history (e ∷ []))) stands;
    legal = subst (λ (r : ℕ). AreAccepted r (reverse (history ++ e ∷ []))) (sym same)
        (subst (λ (past : List Entry). AreAccepted (repository_of old.state) past) (sym (reverse-append history (e ∷ []))) (allowed, s.legal));
    stored = All-push IsStoredEntry history e s.stored stored;
    number = same ∙ s.number ∙ sym more.repository;
    count = omega (arith, more.count, s.count, length_push history e);
    spells = λ kept is.
        let before = told_before (records old.keeper) (records new) (entry_bytes e ∷ []) kept grows is in
        before.2 ∙ ap (λ (front : List (List ℕ)). front ++ entry_bytes e ∷ []) (s.spells before.0 before.1) ∙ sym (map_push entry_bytes history e);
  }

  -- what was ready is kept
  pub written : (costs : ℕ → ℕ) (old : Opened Q) (mid new : Q) (ready : Ready) (history : List Entry) (e : Entry) (bytes : List ℕ) → Stores figures records old history
      → IsReady costs (figures old.keeper) old.state history e ready → IsStorable e.command → IsProperEntry e → bytes ≡ entry_bytes e
      → SameFigures (figures old.keeper) (figures mid) → records mid ≡ records old.keeper → OneMore (costs (length bytes)) (figures mid) (figures new)
      → Grows (records mid) (records new) (bytes ∷ [])
      → IsWritten figures records costs old (record { keeper = new; state = ready.state }) history e (record { reply = ready.reply; place = ready.place })
  written costs old mid new ready history e bytes s is storable proper spells same told more grows =
      let cost : OneMore (costs (length (entry_bytes e))) (figures old.keeper) (figures new) = record {
        repository = more.repository ∙ same.repository;
        count = more.count ∙ ap (λ (n : ℕ). n + 1) same.count;
        used = more.used ∙ ap (λ (n : ℕ). n + costs (length bytes)) same.used ∙ ap (λ (b : List ℕ). (figures old.keeper).used + costs (length b)) spells;
        room = more.room ∙ same.room;
        doubt = more.doubt;
      } in
      let grown : Grows (records old.keeper) (records new) (entry_bytes e ∷ []) =
      subst (λ (b : List ℕ). Grows (records old.keeper) (records new) (b ∷ [])) spells (subst (λ (o : Option (List (List ℕ))). Grows o (records new) (bytes ∷ [])) told grows) in
      record {
        allowed = is.allowed;
        place = is.place;
        reply = is.reply;
        stores = stores_more old new ready.state history e (costs (length (entry_bytes e))) s is.stands is.same is.allowed.allowed (storable, proper) cost grown;
        more = cost;
      }

  -- what holds of a fault holds of an answer that is one
  at_fault : (P : Result Written WriteError → Type 0) (answer : Result Written WriteError) → IsErrAnd answer (λ e. e ≡ Fault) → P (Err Fault) → P answer
  at_fault P (Ok written) met p = absurd met
  at_fault P (Err e) met p = subst (λ x. P (Err x)) (sym met) p

  -- what was ready met a fault
  pub faulty : (costs : ℕ → ℕ) (old : Opened Q) (mid new : Q) (ready : Ready) (history : List Entry) (e : Entry) (answer : Result Written WriteError) → Stores figures records old history
      → IsReady costs (figures old.keeper) old.state history e ready → SameFigures (figures old.keeper) (figures mid) → records mid ≡ records old.keeper
      → NoMore (figures mid) (figures new) → Grows (records mid) (records new) [] → IsErrAnd answer (λ e. e ≡ Fault)
      → Commands figures records costs old (record { keeper = new; state = old.state }) history e answer
  faulty costs old mid new ready history e answer s is same told fewer grows met =
      let grown : Grows (records old.keeper) (records new) [] = subst (λ (o : Option (List (List ℕ))). Grows o (records new) []) told grows in
      let fault : IsFaulty figures records costs old (record { keeper = new; state = old.state }) history e = record {
        allowed = is.allowed;
        stores = stores_same old new history s (fewer.repository ∙ same.repository) (fewer.count ∙ same.count) grown;
        no_more = search rules;
      } in
      at_fault (Commands figures records costs old (record { keeper = new; state = old.state }) history e) answer met fault

-- the bytes of an entry whose command can be stored
pub short_bytes : (bytes : List ℕ) (moment : ℕ) (command : Command) → IsStorable command → bytes ≡ entry_bytes (record { moment = moment; command = command })
    → length bytes ≤ 2 ^ 27
short_bytes bytes moment command storable is =
    subst (λ (b : List ℕ). length b ≤ 2 ^ 27) (sym is) (entry_short (record { moment = moment; command = command }) storable.1)

-- ---- what a crash leaves

-- records that are told at the end were told between
pub told_between : {A : Type 0} (old mid new : Option (List A)) (more kept : List A) → Grows old mid [] → Grows mid new more → old ≡ Some kept → IsSome new → mid ≡ Some kept
told_between None mid new more kept first second is some = cc
told_between (Some old) None None more kept first second is some = cc
told_between (Some old) None (Some new) more kept first second is some = cc
told_between (Some old) (Some mid) new more kept first second is some = ap Some (first ∙ append-nil old) ∙ is

with_doubt : (kept : List (List ℕ)) (doubted : Option (List ℕ)) (image : Option (List (List ℕ))) → image ≡ Some kept → IsKeptWith kept doubted image
with_doubt kept None image is = is
with_doubt kept (Some r) image is = inl is

kept_or_new : (kept : List (List ℕ)) (doubted : Option (List ℕ)) (new : List ℕ) (image : Option (List (List ℕ))) → IsOldOrMore kept new image → IsKeptOrNew kept doubted new image
kept_or_new kept doubted new image (inl old) = inl (with_doubt kept doubted image old)
kept_or_new kept doubted new image (inr more) = inr more

-- a keeper that was left alone but for its spare
pub reserved_leaves : {Q : Type 0} (moment : Q → ℕ) (since : Q → ℕ → Option (List (List ℕ)) → Type 0) (images : Q → Option (List (List ℕ)) → Type 0) (old new : Q) (kept : List (List ℕ)) (doubted : Option (List ℕ))
    → ((image : Option (List (List ℕ))) → images old image → IsKeptWith kept doubted image) → LeavesOnly moment since old new (images old)
    → LeavesOnly moment since old new (IsKeptWith kept doubted)
reserved_leaves moment since images old new kept doubted sound leaves = weaker moment since old new (images old) (IsKeptWith kept doubted) sound leaves

pub prepared_leaves : {Q : Type 0} (moment : Q → ℕ) (since : Q → ℕ → Option (List (List ℕ)) → Type 0) (old new : Q) (kept : List (List ℕ)) (doubted : Option (List ℕ)) (bytes : List ℕ)
    → LeavesOnly moment since old new (IsKeptWith kept doubted) → LeavesOnly moment since old new (IsKeptOrNew kept doubted bytes)
prepared_leaves moment since old new kept doubted bytes leaves = weaker moment since old new (IsKeptWith kept doubted) (IsKeptOrNew kept doubted bytes) (λ image is. inl is) leaves

-- a prepared command, and then settling and an append
pub command_leaves : {Q : Type 0} (moment : Q → ℕ) (since : Q → ℕ → Option (List (List ℕ)) → Type 0) (records : Q → Option (List (List ℕ))) (doubted : Q → Option (List ℕ)) (old mid new : Q) (kept : List (List ℕ)) (bytes entry : List ℕ)
    → records mid ≡ records old → doubted mid ≡ doubted old → bytes ≡ entry → records old ≡ Some kept → IsSome (records new)
    → LeavesOnly moment since old mid (IsKeptWith kept (doubted old))
    → ((kept : List (List ℕ)) → records mid ≡ Some kept → IsSome (records new) → LeavesOnly moment since mid new (IsKeptOrNew kept (doubted mid) bytes))
    → LeavesOnly moment since old new (IsKeptOrNew kept (doubted old) entry)
command_leaves moment since records doubted old mid new kept bytes entry same_records same_doubted same_bytes told some first second =
    run_on moment since old mid new (IsKeptOrNew kept (doubted old) entry) (prepared_leaves moment since old mid kept (doubted old) entry first)
    (subst (λ (b : List ℕ). LeavesOnly moment since mid new (IsKeptOrNew kept (doubted old) b)) same_bytes
    (subst (λ (d : Option (List ℕ)). LeavesOnly moment since mid new (IsKeptOrNew kept d bytes)) same_doubted (second kept (same_records ∙ told) some)))

-- settling, and then an append
pub settled_and_appended : {Q : Type 0} (moment : Q → ℕ) (since : Q → ℕ → Option (List (List ℕ)) → Type 0) (old mid new : Q) (kept : List (List ℕ)) (doubted : Option (List ℕ)) (bytes : List ℕ)
    → LeavesOnly moment since old mid (IsKeptWith kept doubted) → LeavesOnly moment since mid new (IsOldOrMore kept bytes)
    → LeavesOnly moment since old new (IsKeptOrNew kept doubted bytes)
settled_and_appended moment since old mid new kept doubted bytes first second =
    run_on moment since old mid new (IsKeptOrNew kept doubted bytes)
    (weaker moment since old mid (IsKeptWith kept doubted) (IsKeptOrNew kept doubted bytes) (λ image is. inl is) first)
    (weaker moment since mid new (IsOldOrMore kept bytes) (IsKeptOrNew kept doubted bytes) (kept_or_new kept doubted bytes) second)
