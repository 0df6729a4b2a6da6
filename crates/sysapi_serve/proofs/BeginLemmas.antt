-- Opening a repository over a disk, step by step.
use Rattle.std.proofs.Common.{◌≡◌, ◌≢◌, ℕ, ◌≤◌, false, List, [], ◌∷◌, length, get_or, Option, Some, None, IsSome, Ok, refl, inl, inr, sym, ap, subst, ◌∙◌, arith}
use Rattle.std.proofs.lemmas.List.{length-map}
use Rattle.std.proofs.lemmas.Option.{same_Some}
use Rattle.std.specs.Option.{option_map}
use Rattle.sysapi_base.specs.Outside.{Passes, Rises}
use Rattle.sysapi_base.proofs.OutsideLemmas.{Rises-then}
use Rattle.entry_codec.specs.declared.entry.Entry.{Entry}
use Rattle.repo_state.specs.Opening.{IsLegal}
use Rattle.journal_disk.specs.Disk.{Keeps, Tells}
use Rattle.journal_disk.specs.Format.{HasRecords, places_from, records_at}
use Rattle.journal_disk.specs.Journal.{Held, told, doubted, reading_of, figures_of, place_of}
use Rattle.journal_disk.specs.Keeper.{Figures}
use Rattle.journal_disk.specs.Opening.{IsFaultOf}
use Rattle.journal_disk.specs.declared.fault.JournalFault.{JournalFault}
use Rattle.journal_disk.specs.declared.fault.JournalFault.TheVariants as fault
use Rattle.journal_disk.specs.declared.fault.OpenFault.{OpenFault}
use Rattle.journal_disk.specs.declared.fault.OpenFault.TheVariants as unopened
use Rattle.shared_repo.specs.Opening.{IsCause, IsOnlyRead}
use Rattle.shared_repo.specs.Stored.{Opened, spelled}
use Rattle.sysapi_serve.specs.declared.offline.TheConstants.{REPOSITORY, ROOM}
use Rattle.sysapi_serve.specs.Offline.{IsHistoryOf, BeginsWith, IsCauseIn, HindersOnce, CountsDisk, IsHindered}
use Rattle.sysapi_serve.specs.Begin.{causes, IsOfLength, IsOver, IsCauseOver, IsNotOver, IsBegun}

-- ---- counts

module _ {D : Type 0} (faults : D → ℕ) (IsSteady : D → Type 0) where
  pub counts_then : {met : Type 0} (a b c : D) → CountsDisk faults IsSteady a b ⊥ → CountsDisk faults IsSteady b c met → CountsDisk faults IsSteady a c met
  counts_then a b c p q = record {
    later = let first = p.later in let second = q.later in omega arith;
    failed = λ met. Rises-then (faults a) (faults b) (faults c) p.later q.later (q.failed met);
    steady = λ steady. let first = p.steady steady in let second = q.steady first.1 in (second.0, second.1, second.2 ∙ first.2);
  }

  -- a call that was done
  pub counts_done : {T E : Type 0} (a b : D) (t : T) → Passes {E = E} faults IsSteady a b (Ok t) → CountsDisk faults IsSteady a b ⊥
  counts_done a b t p = record {
    later = p.later;
    failed = λ none. absurd none;
    steady = λ steady. let was = p.steady steady in (λ none. none, was.1, was.2);
  }

-- ---- what is told

-- what stood on the disk is what it still tells
pub same_bytes : (before now : Option (List ℕ)) (bytes : List ℕ) → Keeps before now → before ≡ Some bytes → IsSome now → now ≡ Some bytes
same_bytes before None bytes keeps was still = absurd (let no = still in cc)
same_bytes before (Some b) bytes keeps was still = ap (λ (t : List ℕ). Some t) (same_Some b bytes (sym (keeps b refl) ∙ was))

-- there are as many records as places
told_count : (reading : Option (List ℕ)) (places : List ℕ) (kept : List (List ℕ)) → option_map (records_at places) reading ≡ Some kept → length kept ≡ length places
told_count None places kept is = cc
told_count (Some b) places kept is = ap length (sym (same_Some (records_at places b) kept is)) ∙ length-map places _

no_bytes : (b : List ℕ) → 0 ≡ length b → b ≡ []
no_bytes [] is = refl
no_bytes (x ∷ b) is = absurd (omega (arith, is))

no_entries : (history : List Entry) → 0 ≡ length history → history ≡ []
no_entries [] is = refl
no_entries (e ∷ history) is = absurd (omega (arith, is))

is_told : (o : Option (List ℕ)) → IsSome o → (b : List ℕ) × (o ≡ Some b)
is_told None some = absurd (let no = some in cc)
is_told (Some b) some = (b, refl)

reads_none : (before now : Option (List ℕ)) (bytes : List ℕ) → IsOfLength before 0 → Tells before now → now ≡ Some bytes → (old : List ℕ) × (before ≡ Some old) × (old ≢ [] → bytes ≡ old)
reads_none before now bytes empty tells is =
    let was = tells bytes is in
    (was.0, was.1, λ some. absurd (some (no_bytes was.0 (empty was.0 was.1))))

-- ---- a repository over a journal

fault_of_cause : (why : OpenFault) → causes why ≡ fault.Fault → why ≡ unopened.Fault
fault_of_cause unopened.Fault is = refl
fault_of_cause (unopened.Damaged place) is = cc
fault_of_cause unopened.Memory is = cc

module _ {D : Type 0} (reading : D → Option (List ℕ)) where
  cause_over : (journal keeper : Held D) (why : OpenFault) → IsCause journal.repository (told reading journal) (place_of journal) why
      → IsOnlyRead figures_of place_of (told reading) (reading_of reading) (doubted reading) journal keeper
      → ((kept : List (List ℕ)) → told reading keeper ≡ Some kept → keeper.places ≡ places_from 16 kept)
      → IsCauseOver journal.repository (told reading journal) (causes why)
  cause_over journal keeper unopened.Fault cause read places = tt
  cause_over journal keeper unopened.Memory cause read places = tt
  cause_over journal keeper (unopened.Damaged place) cause read places = λ kept is.
      let damage = cause kept is in
      let index = damage.0 in
      let inside = damage.2.inside in
      let same = read.same_places index (omega (arith, inside, told_count (reading journal.disk) journal.places kept is)) in
      (index, damage.1 ∙ sym same ∙ ap (λ (l : List ℕ). get_or l index 0) (places kept (read.same_records ∙ is)), damage.2)

  pub not_over : (faults : D → ℕ) (IsSteady : D → Type 0) (journal keeper : Held D) (new : D) (why : OpenFault) (told_why : JournalFault)
      → new ≡ keeper.disk → told_why ≡ causes why
      → IsCause journal.repository (told reading journal) (place_of journal) why
      → IsOnlyRead figures_of place_of (told reading) (reading_of reading) (doubted reading) journal keeper
      → ((kept : List (List ℕ)) → told reading keeper ≡ Some kept → keeper.places ≡ places_from 16 kept)
      → faults journal.disk ≤ faults keeper.disk
      → (why ≡ unopened.Fault → Rises (faults journal.disk) (faults keeper.disk))
      → (IsSteady journal.disk → why ≢ unopened.Fault)
      → (IsSteady journal.disk → IsSteady keeper.disk × (faults keeper.disk ≡ faults journal.disk))
      → IsNotOver reading faults IsSteady journal new told_why
  not_over faults IsSteady journal keeper new why told_why new_is why_is cause read places later failed no_fault steady =
      subst (λ (w : JournalFault). IsNotOver reading faults IsSteady journal new w) (sym why_is)
      (subst (λ (d : D). IsNotOver reading faults IsSteady journal d (causes why)) (sym new_is) (record {
        cause = cause_over journal keeper why cause read places;
        same_reading = read.same_reading;
        counts = record {
          later = later;
          failed = λ met. failed (fault_of_cause why met);
          steady = λ s. (λ met. no_fault s (fault_of_cause why met), (steady s).0, (steady s).1);
        };
      }))

-- ---- over the journal on a disk

cause_in : (repository : ℕ) (records : Option (List (List ℕ))) (why : JournalFault) (bytes : List ℕ) (kept : List (List ℕ)) → records ≡ Some kept → HasRecords repository kept bytes → IsCauseOver repository records why → IsCauseIn bytes why
cause_in repository records fault.Fault bytes kept is sound cause = tt
cause_in repository records fault.Memory bytes kept is sound cause = tt
cause_in repository records (fault.OtherVersion version) bytes kept is sound cause = absurd cause
cause_in repository records (fault.Damaged place) bytes kept is sound cause = inr (repository, kept, sound, cause kept is)

fault_in : (reading : Option (List ℕ)) (why : JournalFault) (bytes : List ℕ) → reading ≡ Some bytes → IsFaultOf reading why → IsCauseIn bytes why
fault_in reading fault.Fault bytes is of = tt
fault_in reading fault.Memory bytes is of = tt
fault_in reading (fault.OtherVersion version) bytes is of = of bytes is
fault_in reading (fault.Damaged place) bytes is of = inl (of bytes is)

-- why there is none where the journal has no record
cause_of_none : (repository : ℕ) (records : Option (List (List ℕ))) (why : JournalFault) → records ≡ Some [] → IsCauseOver repository records why → HindersOnce [] why
cause_of_none repository records fault.Fault is cause = inl refl
cause_of_none repository records fault.Memory is cause = inr refl
cause_of_none repository records (fault.OtherVersion version) is cause = absurd cause
cause_of_none repository records (fault.Damaged place) is cause = absurd (let damage = cause [] is in let inside = damage.2.inside in omega (arith, inside))

fault_hinders : (bytes : List ℕ) → HindersOnce bytes fault.Fault
fault_hinders [] = inl refl
fault_hinders (b ∷ bytes) = tt

begins_later : (repository : ℕ) (history : List Entry) (n : ℕ) (bytes : List ℕ) → n ≢ 0 → n ≡ length bytes → IsHistoryOf repository history bytes → BeginsWith repository history bytes
begins_later repository history n [] some is of = absurd (some is)
begins_later repository history n (b ∷ bytes) some is of = of

hinders_later : (n : ℕ) (bytes : List ℕ) (why : JournalFault) → n ≢ 0 → n ≡ length bytes → IsCauseIn bytes why → HindersOnce bytes why
hinders_later n [] why some is cause = absurd (some is)
hinders_later n (b ∷ bytes) why some is cause = cause

module _ {D : Type 0} (reading : D → Option (List ℕ)) (faults : D → ℕ) (IsSteady : D → Type 0) where
  -- opening that ended well
  pub counts_opened : (a b : D) → faults a ≤ faults b → (IsSteady a → IsSteady b × (faults b ≡ faults a)) → CountsDisk faults IsSteady a b ⊥
  counts_opened a b later steady = record { later = later; failed = λ none. absurd none; steady = λ s. (λ none. none, (steady s).0, (steady s).1) }

  -- or that didn't
  pub counts_unopened : (a b : D) (why : JournalFault) → faults a ≤ faults b → (why ≡ fault.Fault → Rises (faults a) (faults b)) → (IsSteady a → why ≢ fault.Fault) → (IsSteady a → IsSteady b × (faults b ≡ faults a))
      → CountsDisk faults IsSteady a b (why ≡ fault.Fault)
  counts_unopened a b why later failed no_fault steady = record { later = later; failed = failed; steady = λ s. (no_fault s, (steady s).0, (steady s).1) }

  module _ (old : D) (journal : Held D) (counts : CountsDisk faults IsSteady old journal.disk ⊥) where
    pub begun_on : (repo : Opened (Held D)) → journal.room ≡ ROOM → journal.doubt ≡ false → Keeps (reading old) (reading journal.disk)
        → ((b : List ℕ) → reading journal.disk ≡ Some b → (kept : List (List ℕ)) × (told reading journal ≡ Some kept) × HasRecords journal.repository kept b)
        → IsOver reading faults IsSteady journal repo → IsBegun reading faults IsSteady IsHistoryOf old repo
    begun_on repo room clean keeps records over =
        let figures = over.same_figures in
        let repository = ap (λ (f : Figures). f.repository) figures in record {
          history = over.history;
          stores = over.stores;
          found = λ bytes was still.
              let now = same_bytes (reading old) (reading journal.disk) bytes keeps was (subst IsSome over.same_reading still) in
              let has = records bytes now in
              let spells = over.stores.spells has.0 (over.same_records ∙ has.1) in record {
                sound = subst (λ (n : ℕ). HasRecords n (spelled over.history) bytes) (sym repository) (subst (λ (l : List (List ℕ)). HasRecords journal.repository l bytes) spells has.2);
                legal = subst (λ (n : ℕ). IsLegal n over.history) over.stores.number over.stores.legal;
                stored = over.stores.stored;
              };
          room = ap (λ (f : Figures). f.room) figures ∙ room;
          clean = ap (λ (f : Figures). f.doubt) figures ∙ clean;
          counts = counts_then faults IsSteady old journal.disk repo.keeper.disk counts over.counts;
        }

    pub stopped_on : (new : D) (why : JournalFault) → Keeps (reading old) (reading journal.disk)
        → ((b : List ℕ) → reading journal.disk ≡ Some b → (kept : List (List ℕ)) × (told reading journal ≡ Some kept) × HasRecords journal.repository kept b)
        → IsNotOver reading faults IsSteady journal new why → IsHindered reading faults IsSteady IsCauseIn old new why
    stopped_on new why keeps records over = record {
      cause = λ bytes was still.
          let has = records bytes (same_bytes (reading old) (reading journal.disk) bytes keeps was (subst IsSome over.same_reading still)) in
          cause_in journal.repository (told reading journal) why bytes has.0 has.1 has.2 over.cause;
      same = λ bytes now. (bytes, keeps bytes (sym over.same_reading ∙ now), λ some. refl);
      counts = counts_then faults IsSteady old journal.disk new counts over.counts;
    }

    pub begun_in : (repo : Opened (Held D)) → IsOfLength (reading old) 0 → journal.repository ≡ REPOSITORY → journal.room ≡ ROOM → journal.places ≡ [] → journal.doubt ≡ false
        → IsOver reading faults IsSteady journal repo → IsBegun reading faults IsSteady BeginsWith old repo
    begun_in repo empty number room none clean over =
        let figures = over.same_figures in
        let repository = ap (λ (f : Figures). f.repository) figures ∙ number in
        let count : 0 ≡ length over.history = sym (ap length none) ∙ sym (ap (λ (f : Figures). f.count) figures) ∙ over.stores.count in record {
          history = over.history;
          stores = over.stores;
          found = λ bytes was still. subst (λ (t : List ℕ). BeginsWith repo.keeper.repository over.history t) (sym (no_bytes bytes (empty bytes was))) (repository, no_entries over.history count);
          room = ap (λ (f : Figures). f.room) figures ∙ room;
          clean = ap (λ (f : Figures). f.doubt) figures ∙ clean;
          counts = counts_then faults IsSteady old journal.disk repo.keeper.disk counts over.counts;
        }

    pub stopped_in : (new : D) (why : JournalFault) → IsOfLength (reading old) 0 → Tells (reading old) (reading journal.disk)
        → ((b : List ℕ) → reading journal.disk ≡ Some b → (told reading journal ≡ Some []) × (17 ≤ length b))
        → IsNotOver reading faults IsSteady journal new why → IsHindered reading faults IsSteady HindersOnce old new why
    stopped_in new why empty tells none over = record {
      cause = λ bytes was still.
          let some = is_told (reading journal.disk) (subst IsSome over.same_reading still) in
          subst (λ (t : List ℕ). HindersOnce t why) (sym (no_bytes bytes (empty bytes was))) (cause_of_none journal.repository (told reading journal) why (none some.0 some.1).0 over.cause);
      same = λ bytes now. reads_none (reading old) (reading journal.disk) bytes empty tells (sym over.same_reading ∙ now);
      counts = counts_then faults IsSteady old journal.disk new counts over.counts;
    }

  pub unopened_on : (old new : D) (why : JournalFault) → IsFaultOf (reading new) why → Keeps (reading old) (reading new) → CountsDisk faults IsSteady old new (why ≡ fault.Fault)
      → IsHindered reading faults IsSteady IsCauseIn old new why
  unopened_on old new why of keeps counts = record {
    cause = λ bytes was still. fault_in (reading new) why bytes (same_bytes (reading old) (reading new) bytes keeps was still) of;
    same = λ bytes now. (bytes, keeps bytes now, λ some. refl);
    counts = counts;
  }

  pub unmade_in : (old new : D) (why : JournalFault) → IsOfLength (reading old) 0 → why ≡ fault.Fault → Tells (reading old) (reading new) → CountsDisk faults IsSteady old new (why ≡ fault.Fault)
      → IsHindered reading faults IsSteady HindersOnce old new why
  unmade_in old new why empty is tells counts = record {
    cause = λ bytes was still. subst (λ (w : JournalFault). HindersOnce bytes w) (sym is) (fault_hinders bytes);
    same = λ bytes now. reads_none (reading old) (reading new) bytes empty tells now;
    counts = counts;
  }

  -- ---- behind the disk's length

  module _ (old mid : D) (same : reading mid ≡ reading old) (counts : CountsDisk faults IsSteady old mid ⊥) where
    pub begun_behind : (begins : ℕ → List Entry → List ℕ → Type 0) (repo : Opened (Held D)) → IsBegun reading faults IsSteady begins mid repo → IsBegun reading faults IsSteady begins old repo
    begun_behind begins repo begun = record {
      history = begun.history;
      stores = begun.stores;
      found = λ bytes was still. begun.found bytes (same ∙ was) still;
      room = begun.room;
      clean = begun.clean;
      counts = counts_then faults IsSteady old mid repo.keeper.disk counts begun.counts;
    }

  module _ (old : D) (n : ℕ) (some : n ≢ 0) (of : IsOfLength (reading old) n) where
    pub begun_later : (repo : Opened (Held D)) → IsBegun reading faults IsSteady IsHistoryOf old repo → IsBegun reading faults IsSteady BeginsWith old repo
    begun_later repo begun = record {
      history = begun.history;
      stores = begun.stores;
      found = λ bytes was still. begins_later repo.keeper.repository begun.history n bytes some (of bytes was) (begun.found bytes was still);
      room = begun.room;
      clean = begun.clean;
      counts = begun.counts;
    }
