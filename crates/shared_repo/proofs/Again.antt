-- Opening again.
use Rattle.std.proofs.Common.{◌≡◌, ℕ, ◌<◌, zero, suc, List, [], ◌∷◌, ◌++◌, length, take, reverse, None, refl, ap, sym, subst, ◌∙◌, arith, append_assoc}
use Rattle.std.specs.List.{All}
use Rattle.std.specs.Prelude.{slice_index_or}
use Rattle.std.proofs.lemmas.List.{reverse-append, length-map, append-nil}
use Rattle.std.proofs.lemmas.List.Elements.{All-head, All-tail, All-nil, All-cons}
use Rattle.entry_codec.specs.declared.entry.Entry.{Entry}
use Rattle.entry_codec.specs.Refusals.{refusal}
use Rattle.entry_bytes.specs.Spelling.{entry_bytes}
use Rattle.entry_bytes.proofs.Entries.{one_spelling}
use Rattle.repo_state.specs.Opening.{AreAccepted, IsLegal}
use Rattle.shared_repo.specs.Stored.{IsStoredEntry, spelled}
use Rattle.shared_repo.specs.Laws.{IsSpelledOnce, IsNeverDamaged}

same_heads : {A : Type 0} (a b : A) (xs ys : List A) → a ∷ xs ≡ b ∷ ys → (a ≡ b) × (xs ≡ ys)
same_heads a b xs ys is = (cc, cc)

pub spelled_once : IsSpelledOnce
spelled_once [] [] all_g all_h is = refl
spelled_once [] (f ∷ h) all_g all_h is = cc
spelled_once (e ∷ g) [] all_g all_h is = cc
spelled_once (e ∷ g) (f ∷ h) all_g all_h is =
    let heads = same_heads (entry_bytes e) (entry_bytes f) (spelled g) (spelled h) is in
    let stored_e = All-head IsStoredEntry e g all_g in
    let stored_f = All-head IsStoredEntry f h all_h in
    let same : e ≡ f = one_spelling e f stored_e.0 stored_e.1 stored_f.0 stored_f.1 heads.0 in
    let rest : g ≡ h = spelled_once g h (All-tail IsStoredEntry e g all_g) (All-tail IsStoredEntry f h all_h) heads.1 in
    cc (same, rest)

-- the older entries of a legal history are legal
older : (r : ℕ) (newer past : List Entry) → AreAccepted r (newer ++ past) → AreAccepted r past
older r [] past all = all
older r (e ∷ newer) past all = older r newer past all.1

-- the entry at an index, behind others that are legal with it
pub record IsAccepted (r : ℕ) (front history : List Entry) (index : ℕ) : Type 0 where
  pub entry : Entry
  pub stored : IsStoredEntry entry
  pub spells : entry_bytes entry ≡ slice_index_or (spelled history) index []
  pub allowed : refusal r (reverse (front ++ take index history)) entry.command ≡ None

accepted_at : (r : ℕ) (front history : List Entry) (index : ℕ) → IsLegal r (front ++ history) → All IsStoredEntry history → index < length history → IsAccepted r front history index
accepted_at r front [] index legal stored less = absurd (omega (arith, less))
accepted_at r front (e ∷ history) zero legal stored less =
    let split : reverse (front ++ e ∷ history) ≡ reverse history ++ (e ∷ reverse front) =
    ap (λ (l : List Entry). reverse l) (sym (append_assoc front (e ∷ []) history)) ∙ reverse-append (front ++ e ∷ []) history
    ∙ ap (λ (l : List Entry). reverse history ++ l) (reverse-append front (e ∷ [])) in
    let accepted = older r (reverse history) (e ∷ reverse front) (subst (λ (l : List Entry). AreAccepted r l) split legal) in
    record {
      entry = e;
      stored = All-head IsStoredEntry e history stored;
      spells = refl;
      allowed = subst (λ (l : List Entry). refusal r (reverse l) e.command ≡ None) (sym (append-nil front)) accepted.0;
    }
accepted_at r front (e ∷ history) (suc index) legal stored less =
    let there = accepted_at r (front ++ e ∷ []) history index (subst (λ (l : List Entry). IsLegal r l) (sym (append_assoc front (e ∷ []) history)) legal)
    (All-tail IsStoredEntry e history stored) (omega (arith, less)) in
    record {
      entry = there.entry;
      stored = there.stored;
      spells = there.spells;
      allowed = subst (λ (l : List Entry). refusal r (reverse l) there.entry.command ≡ None) (append_assoc front (e ∷ []) (take index history)) there.allowed;
    }

take_spelled : (index : ℕ) (history : List Entry) → take index (spelled history) ≡ spelled (take index history)
take_spelled zero history = refl
take_spelled (suc index) [] = refl
take_spelled (suc index) (e ∷ history) = ap (λ (l : List (List ℕ)). entry_bytes e ∷ l) (take_spelled index history)

take_stored : (index : ℕ) (history : List Entry) → All IsStoredEntry history → All IsStoredEntry (take index history)
take_stored zero history all = All-nil IsStoredEntry
take_stored (suc index) [] all = All-nil IsStoredEntry
take_stored (suc index) (e ∷ history) all =
    All-cons IsStoredEntry e (take index history) (All-head IsStoredEntry e history all) (take_stored index history (All-tail IsStoredEntry e history all))

pub never_damaged : IsNeverDamaged
never_damaged r history index legal stored damage =
    let less : index < length history = subst (λ (n : ℕ). index < n) (length-map history entry_bytes) damage.inside in
    let there = accepted_at r [] history index legal stored less in
    let before : damage.history ≡ take index history =
    spelled_once damage.history (take index history) damage.stored (take_stored index history stored) (sym damage.before ∙ take_spelled index history) in
    let allowed = subst (λ (l : List Entry). refusal r (reverse l) there.entry.command ≡ None) (sym before) there.allowed in
    damage.unacceptable there.entry there.stored there.spells allowed
