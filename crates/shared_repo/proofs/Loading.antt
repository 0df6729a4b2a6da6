-- A keeper is read record by record.
use Rattle.std.proofs.Common.{◌≡◌, ◌≢◌, ℕ, ◌+◌, ◌<◌, List, [], ◌∷◌, ◌++◌, length, take, reverse, Option, Some, None, Ok, refl, ap, sym, subst, ◌∙◌, arith}
use Rattle.std.specs.Prelude.{slice_index_or, ◌≤◌, Result}
use Rattle.std.proofs.lemmas.List.{take_more, reverse-append, length_push, map_push, take_all}
use Rattle.std.proofs.lemmas.List.Elements.{All-push, All-nil}
use Rattle.api_records.specs.declared.refusal.Refusal.{Refusal}
use Rattle.entry_codec.specs.declared.entry.Entry.{Entry}
use Rattle.entry_codec.specs.Refusals.{refusal}
use Rattle.entry_bytes.specs.Spelling.{entry_bytes}
use Rattle.entry_bytes.specs.Reading.{IsNoEntry}
use Rattle.entry_bytes.proofs.Entries.{one_spelling}
use Rattle.repo_state.specs.Stands.{StandsFor, Accepts, repository_of}
use Rattle.repo_state.specs.Opening.{AreAccepted, IsLegal}
use Rattle.repo_state.specs.declared.state.State.{State}
use Rattle.repo_state.specs.declared.accept.Accepted.{Accepted}
use Rattle.journal_disk.specs.Keeper.{KeepsPlaces}
use Rattle.journal_disk.specs.declared.fault.OpenFault.{OpenFault}
use Rattle.journal_disk.specs.declared.fault.OpenFault.TheVariants as fault
use Rattle.shared_repo.specs.Stored.{IsStoredEntry, Stores}
use Rattle.journal_disk.specs.Disk.{LeavesOnly}
use Rattle.journal_disk.specs.Faults.{Counts}
use Rattle.journal_disk.specs.Keeper.{Figures}
use Rattle.journal_disk.proofs.Moments.{weaker, run_on, at_end}
use Rattle.sysapi_base.proofs.OutsideLemmas.{Rises-then}
use Rattle.shared_repo.specs.Opening.{IsDamagedAt, IsCause, IsOnlyRead, Holds}

-- the history before the first record
pub holds_nothing : (r : ℕ) (told : Option (List (List ℕ))) (s : State) → StandsFor s [] → repository_of s ≡ r → Holds r told s []
holds_nothing r told s stands number = record {
  stands = stands;
  number = number;
  legal = tt;
  stored = All-nil IsStoredEntry;
  spells = λ kept is. refl;
}

-- this record has these bytes, where it is told
abbrev pub IsRecord : Option (List (List ℕ)) → ℕ → List ℕ → Type 0
IsRecord told index bytes = (kept : List (List ℕ)) → told ≡ Some kept → (index < length kept) × (bytes ≡ slice_index_or kept index [])

pub is_record : (told : Option (List (List ℕ))) (index count : ℕ) (history : List Entry) (bytes : List ℕ) → length history ≡ index → index < count
    → ((kept : List (List ℕ)) → told ≡ Some kept → count ≡ length kept) → ((kept : List (List ℕ)) → told ≡ Some kept → bytes ≡ slice_index_or kept index [])
    → IsRecord told (length history) bytes
is_record told index count history bytes len inside count_is value = λ kept is.
    (omega (arith, len, inside, count_is kept is), value kept is ∙ ap (λ (n : ℕ). slice_index_or kept n []) (sym len))

-- the newest entry first
push_reversed : (history : List Entry) (e : Entry) → reverse (history ++ e ∷ []) ≡ e ∷ reverse history
push_reversed history e = reverse-append history (e ∷ [])

-- one record more, which is an acceptable entry
pub holds_more : (r : ℕ) (told : Option (List (List ℕ))) (s : State) (history : List Entry) (e : Entry) (a : Accepted) (bytes : List ℕ)
    → Holds r told s history → Accepts s (reverse history) e (Ok a) → IsStoredEntry e → entry_bytes e ≡ bytes → IsRecord told (length history) bytes
    → Holds r told a.state (history ++ e ∷ [])
holds_more r told s history e a bytes h accepts stored spells is = record {
  stands = subst (λ (past : List Entry). StandsFor a.state past) (sym (push_reversed history e)) accepts.stands;
  number = accepts.same ∙ h.number;
  legal = subst (λ (past : List Entry). AreAccepted r past) (sym (push_reversed history e))
      (ap (λ (n : ℕ). refusal n (reverse history) e.command) (sym h.number) ∙ accepts.allowed, h.legal);
  stored = All-push IsStoredEntry history e h.stored stored;
  spells = λ kept told_is.
      let at = is kept told_is in
      ap (λ (n : ℕ). take n kept) (length_push history e)
      ∙ take_more kept (length history) [] at.0
      ∙ ap (λ (b : List ℕ). take (length history) kept ++ b ∷ []) (sym at.1 ∙ sym spells)
      ∙ ap (λ (front : List (List ℕ)). front ++ entry_bytes e ∷ []) (h.spells kept told_is)
      ∙ sym (map_push entry_bytes history e);
}

-- a record whose bytes spell no acceptable entry is the first damaged one
damaged : (r : ℕ) (told : Option (List (List ℕ))) (s : State) (history : List Entry) (bytes : List ℕ) (places : ℕ → ℕ)
    → Holds r told s history → IsRecord told (length history) bytes
    → ((e : Entry) → IsStoredEntry e → entry_bytes e ≡ bytes → refusal r (reverse history) e.command ≢ None)
    → IsDamagedAt r told places (places (length history))
damaged r told s history bytes places h is none = λ kept told_is.
    let at = is kept told_is in (
      length history,
      refl,
      record {
        inside = at.0;
        history = history;
        legal = h.legal;
        stored = h.stored;
        before = h.spells kept told_is;
        unacceptable = λ e stored spells. none e stored (spells ∙ sym at.1);
      },
    )

-- no entry has the bytes
pub no_entry_is_damage : (r : ℕ) (told : Option (List (List ℕ))) (s : State) (history : List Entry) (bytes : List ℕ) (places : ℕ → ℕ)
    → Holds r told s history → IsRecord told (length history) bytes → IsNoEntry bytes → IsDamagedAt r told places (places (length history))
no_entry_is_damage r told s history bytes places h is none =
    damaged r told s history bytes places h is (λ e stored spells. absurd (none e stored.0 stored.1 spells))

-- the entry that has them is refused
pub refused_is_damage : (r : ℕ) (told : Option (List (List ℕ))) (s : State) (history : List Entry) (bytes : List ℕ) (places : ℕ → ℕ) (e : Entry) (why : Refusal)
    → Holds r told s history → IsRecord told (length history) bytes → IsStoredEntry e → entry_bytes e ≡ bytes
    → refusal (repository_of s) (reverse history) e.command ≡ Some why → IsDamagedAt r told places (places (length history))
refused_is_damage r told s history bytes places e why h is stored spells refused =
    damaged r told s history bytes places h is (λ f stored_f spells_f allowed.
    let same : f ≡ e = one_spelling f e stored_f.0 stored_f.1 stored.0 stored.1 (spells_f ∙ sym spells) in
    let none : refusal r (reverse history) e.command ≡ None = ap (λ (g : Entry). refusal r (reverse history) g.command) (sym same) ∙ allowed in
    let some : refusal r (reverse history) e.command ≡ Some why = ap (λ (n : ℕ). refusal n (reverse history) e.command) (sym h.number) ∙ refused in
    cc)

-- a cause by the places that the records had before
pub cause_as : (r n : ℕ) (told : Option (List (List ℕ))) (old new : ℕ → ℕ) (why : OpenFault) → KeepsPlaces n old new
    → ((kept : List (List ℕ)) → told ≡ Some kept → n ≡ length kept) → IsCause r told new why → IsCause r told old why
cause_as r n told old new (fault.Damaged place) keeps count cause = λ kept told_is.
    let d = cause kept told_is in
    let within : d.0 < n = subst (λ (m : ℕ). d.0 < m) (sym (count kept told_is)) d.2.inside in
    (d.0, d.1 ∙ keeps d.0 within, d.2)
cause_as r n told old new fault.Fault keeps count cause = tt
cause_as r n told old new fault.Memory keeps count cause = tt

-- ---- one read after another

pub reads_on : {Q : Type 0} (figures : Q → Figures) (places : Q → ℕ → ℕ) (records : Q → Option (List (List ℕ))) (reading doubted : Q → Option (List ℕ)) (old mid new : Q)
    → IsOnlyRead figures places records reading doubted old mid → IsOnlyRead figures places records reading doubted mid new
    → IsOnlyRead figures places records reading doubted old new
reads_on figures places records reading doubted old mid new first second = record {
  same_figures = second.same_figures ∙ first.same_figures;
  same_places = λ i less.
      second.same_places i (subst (λ (n : ℕ). i < n) (sym (ap (λ (f : Figures). f.count) first.same_figures)) less) ∙ first.same_places i less;
  same_records = second.same_records ∙ first.same_records;
  same_reading = second.same_reading ∙ first.same_reading;
  same_doubted = second.same_doubted ∙ first.same_doubted;
}

-- each image was one before the first read
pub leaves_on : {Q X : Type 0} (moment : Q → ℕ) (since : Q → ℕ → X → Type 0) (images : Q → X → Type 0) (counts_now : (k : Q) (t : ℕ) (c : X) → t ≤ moment k → images k c → since k t c) (old mid new : Q)
    → LeavesOnly moment since old mid (images old) → LeavesOnly moment since mid new (images mid) → LeavesOnly moment since old new (images old)
leaves_on moment since images counts_now old mid new first second =
    run_on moment since old mid new (images old) first
    (weaker moment since mid new (images mid) (images old) (at_end moment since images counts_now old mid (images old) first) second)

-- a keeper whose calls so far went well
pub record HasCounted {Q : Type 0} (faults : Q → ℕ) (IsSteady : Q → Type 0) (old new : Q) : Type 0 where
  pub later : faults old ≤ faults new
  pub steady : IsSteady old → IsSteady new × (faults new ≡ faults old)

pub counts_on : {Q T E : Type 0} (faults : Q → ℕ) (IsSteady : Q → Type 0) (fault : E) (old mid new : Q) (result : Result T E) → HasCounted faults IsSteady old mid
    → Counts faults IsSteady fault mid new result → Counts faults IsSteady fault old new result
counts_on faults IsSteady fault old mid new result first second = record {
  later = omega (arith, first.later, second.later);
  failed = λ is. Rises-then (faults old) (faults mid) (faults new) first.later second.later (second.failed is);
  steady = λ steady.
      let was = first.steady steady in
      let now = second.steady was.0 in
      (now.0, now.1, now.2 ∙ was.1);
}

pub counted_on : {Q T E : Type 0} (faults : Q → ℕ) (IsSteady : Q → Type 0) (fault : E) (old mid new : Q) (result : Result T E) → HasCounted faults IsSteady old mid
    → Counts faults IsSteady fault mid new result → HasCounted faults IsSteady old new
counted_on faults IsSteady fault old mid new result first second = record {
  later = omega (arith, first.later, second.later);
  steady = λ steady.
      let was = first.steady steady in
      let now = second.steady was.0 in
      (now.1, now.2 ∙ was.1);
}

-- the state behind one record more of a keeper that was only read
pub next_holds : {Q : Type 0} (figures : Q → Figures) (places : Q → ℕ → ℕ) (records : Q → Option (List (List ℕ))) (reading doubted : Q → Option (List ℕ)) (old mid : Q) (index : ℕ) (state next : State)
    → IsOnlyRead figures places records reading doubted old mid → ((history : List Entry) × (length history ≡ index) × Holds (figures old).repository (records old) state history)
    → ((history : List Entry) → length history ≡ index → Holds (figures mid).repository (records mid) state history
    → (history : List Entry) × (length history ≡ index + 1) × Holds (figures mid).repository (records mid) next history)
    → (history : List Entry) × (length history ≡ index + 1) × Holds (figures old).repository (records old) next history
next_holds figures places records reading doubted old mid index state next read holds loads =
    let number : (figures mid).repository ≡ (figures old).repository = ap (λ (f : Figures). f.repository) read.same_figures in
    let there = subst (λ (told : Option (List (List ℕ))). Holds (figures mid).repository told state holds.0) (sym read.same_records)
    (subst (λ (r : ℕ). Holds r (records old) state holds.0) (sym number) holds.2) in
    let now = loads holds.0 holds.1 there in (
      now.0,
      now.1,
      subst (λ (told : Option (List (List ℕ))). Holds (figures old).repository told next now.0) read.same_records
          (subst (λ (r : ℕ). Holds r (records mid) next now.0) number now.2),
    )

-- the repository over a keeper whose records were all read
pub loaded : {Q : Type 0} (figures : Q → Figures) (places : Q → ℕ → ℕ) (records : Q → Option (List (List ℕ))) (reading doubted : Q → Option (List ℕ)) (old new : Q) (state : State)
    → IsOnlyRead figures places records reading doubted old new → ((kept : List (List ℕ)) → records old ≡ Some kept → (figures old).count ≡ length kept)
    → ((history : List Entry) × (length history ≡ (figures old).count) × Holds (figures old).repository (records old) state history)
    → (history : List Entry) × Stores figures records (record { keeper = new; state = state }) history
loaded figures places records reading doubted old new state read count (history, len, h) = (
  history,
  record {
    stands = h.stands;
    legal = subst (λ (r : ℕ). IsLegal r history) (sym h.number) h.legal;
    stored = h.stored;
    number = h.number ∙ sym (ap (λ (f : Figures). f.repository) read.same_figures);
    count = ap (λ (f : Figures). f.count) read.same_figures ∙ sym len;
    spells = λ kept is.
        let told = sym read.same_records ∙ is in
        sym (take_all (length history) kept (omega (arith, len, count kept told))) ∙ h.spells kept told;
  },
)
