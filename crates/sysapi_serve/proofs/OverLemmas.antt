-- A session, and a summary, over a repository that was opened on a disk.
use Rattle.std.proofs.Common.{◌≡◌, ℕ, ◌+◌, List, [], ◌∷◌, ◌++◌, length, Option, Some, None, IsSome, Result, refl, sym, ap, subst, ◌∙◌, arith}
use Rattle.std.proofs.lemmas.List.Sums.{sum_by-append, sum_by-cons}
use Rattle.std.specs.Prelude.{⊤, sum_by}
use Rattle.std.specs.Option.{option_map}
use Rattle.sysapi_base.specs.declared.error.Failed.{Failed}
use Rattle.entry_bytes.specs.Spelling.{entry_bytes}
use Rattle.entry_codec.specs.declared.entry.Entry.{Entry}
use Rattle.journal_disk.specs.Disk.{Keeps}
use Rattle.journal_disk.specs.Format.{records_at, used_by}
use Rattle.journal_disk.specs.Journal.{Held, told, doubted, figures_of, IsKeptOr}
use Rattle.journal_disk.specs.JournalLaws.{no_doubted}
use Rattle.shared_repo.specs.Stored.{Opened, Stores, spelled}
use Rattle.sysapi_serve.specs.declared.outcome.Served.{Served}
use Rattle.sysapi_serve.specs.Kept.{kept_of}
use Rattle.sysapi_serve.specs.Alone.{IsServed, cost_of, used_behind}
use Rattle.sysapi_serve.specs.Parts.{Sends}
use Rattle.sysapi_serve.specs.Offline.{BeginsWith, IsHistoryOf, IsServedOver, IsSummed, summary}
use Rattle.sysapi_serve.specs.Begin.{IsBegun}

-- the records are told exactly where the bytes are
records_told : (reading : Option (List ℕ)) (places : List ℕ) → IsSome reading → (kept : List (List ℕ)) × (option_map (records_at places) reading ≡ Some kept)
records_told None places some = absurd (let no = some in cc)
records_told (Some b) places some = (records_at places b, refl)

told_some : (o : Option (List (List ℕ))) (kept : List (List ℕ)) → o ≡ Some kept → IsSome o
told_some o kept is = subst IsSome (sym is) refl

bytes_told : (reading : Option (List ℕ)) (places : List ℕ) → IsSome (option_map (records_at places) reading) → IsSome reading
bytes_told None places some = some
bytes_told (Some b) places some = refl

-- what the record of an entry costs is what it adds to what is used
costs_spelled : (history : List Entry) → sum_by (λ r. 5 + length r) (spelled history) ≡ sum_by (cost_of (λ n. n + 5)) history
costs_spelled [] = refl
costs_spelled (e ∷ history) =
    let rest = costs_spelled history in
    omega (arith, rest, sum_by-cons (λ r. 5 + length r) (entry_bytes e) (spelled history), sum_by-cons (cost_of (λ n. n + 5)) e history)

used_grows : (history more : List Entry) → used_by (spelled (history ++ more)) ≡ used_behind (λ n. n + 5) (used_by (spelled history)) more
used_grows history more = omega (arith, costs_spelled (history ++ more), costs_spelled history, sum_by-append (cost_of (λ n. n + 5)) history more)

module _ {D : Type 0} (reading : D → Option (List ℕ)) (faults : D → ℕ) (IsSteady : D → Type 0) where
  pub summed : (old new : D) (journal : Held D) (repo : Opened (Held D)) (repository count used : ℕ) (taken taken_now : Option (List ℕ)) (result : Result ⊤ Failed)
      → journal ≡ repo.keeper → new ≡ journal.disk → repository ≡ journal.repository → count ≡ length journal.places
      → ((kept : List (List ℕ)) → told reading journal ≡ Some kept → used ≡ used_by kept)
      → Sends taken taken_now (summary repository count used) result
      → IsBegun reading faults IsSteady IsHistoryOf old repo → Keeps (reading old) (reading repo.keeper.disk)
      → IsSummed reading faults IsSteady old new taken taken_now result
  summed old new journal repo repository count used taken taken_now result same new_is number counted exact sends begun keeps =
      let at : new ≡ repo.keeper.disk = new_is ∙ ap (λ (j : Held D). j.disk) same in
      subst (λ (d : D). IsSummed reading faults IsSteady old d taken taken_now result) (sym at) (record {
        repository = repository;
        count = count;
        used = used;
        sends = sends;
        found = λ bytes was still.
            let kept = records_told (reading repo.keeper.disk) repo.keeper.places still in
            let spells = begun.stores.spells kept.0 kept.1 in (
              begun.history,
              subst (λ (n : ℕ). IsHistoryOf n begun.history bytes) (sym (number ∙ ap (λ (j : Held D). j.repository) same)) (begun.found bytes was still),
              counted ∙ ap (λ (j : Held D). length j.places) same ∙ begun.stores.count,
              exact kept.0 (ap (λ (j : Held D). told reading j) same ∙ kept.1) ∙ ap used_by spells,
            );
        same = keeps;
        counts = begun.counts;
      })

  module _ (images : D → List ℕ → Type 0) where
    pub served_over : (old new : D) (start after : Opened (Held D)) (keeper : Held D) (left left_now taken taken_now clock clock_now : Option (List ℕ)) (served : Served)
        → IsBegun reading faults IsSteady BeginsWith old start
        → ((before : List Entry) → Stores figures_of (told reading) start before
        → (now : List Entry) × Stores figures_of (told reading) after now
        × IsServed (λ n. n + 5) (IsSteady start.keeper.disk) (kept_of figures_of (λ j. faults j.disk) start before) (kept_of figures_of (λ j. faults j.disk) after now)
        left left_now taken taken_now clock clock_now served)
        → (IsSteady start.keeper.disk → IsSteady after.keeper.disk × (faults after.keeper.disk ≡ faults start.keeper.disk))
        → (IsSome (told reading after.keeper) → IsSome (told reading start.keeper))
        → keeper ≡ after.keeper → new ≡ keeper.disk
        → ((kept : List (List ℕ)) → told reading keeper ≡ Some kept → keeper.used ≡ used_by kept)
        → ((kept : List (List ℕ)) → told reading keeper ≡ Some kept → (c : List ℕ) → images keeper.disk c → IsKeptOr keeper.repository kept (doubted reading keeper) c)
        → IsServedOver reading images faults IsSteady old new left left_now taken taken_now clock clock_now served
    served_over old new start after keeper left left_now taken taken_now clock clock_now served begun leads steady goes_on same disk_is exact_keeper sound_keeper =
        let new_is : new ≡ after.keeper.disk = disk_is ∙ ap (λ (j : Held D). j.disk) same in
        let exact = subst (λ (j : Held D). (kept : List (List ℕ)) → told reading j ≡ Some kept → j.used ≡ used_by kept) same exact_keeper in
        let sound = subst (λ (j : Held D). (kept : List (List ℕ)) → told reading j ≡ Some kept → (c : List ℕ) → images j.disk c → IsKeptOr j.repository kept (doubted reading j) c) same sound_keeper in
        let led = leads begun.history begun.stores in
        let does = led.2 in
        let kept : IsSome (reading new) → (kept : List (List ℕ)) × (told reading after.keeper ≡ Some kept)
        = λ still. records_told (reading after.keeper.disk) after.keeper.places (subst (λ (d : D). IsSome (reading d)) new_is still) in
        let told_first : IsSome (reading new) → IsSome (reading start.keeper.disk)
        = λ still. bytes_told (reading start.keeper.disk) start.keeper.places (goes_on (told_some (told reading after.keeper) (kept still).0 (kept still).1)) in
        record {
          first = kept_of figures_of (λ j. faults j.disk) start begun.history;
          last = kept_of figures_of (λ j. faults j.disk) after led.0;
          begins = λ bytes was still. begun.found bytes was (told_first still);
          used = λ still.
              let k = kept still in
              let now : after.keeper.used ≡ used_by (spelled led.0) = exact k.0 k.1 ∙ ap used_by (led.1.spells k.0 k.1) in
              let grown : used_by (spelled led.0) ≡ used_behind (λ n. n + 5) (used_by (spelled begun.history)) does.more = ap (λ (h : List Entry). used_by (spelled h)) does.grown ∙ used_grows begun.history does.more in
              let used = does.used in
              omega (arith, now, grown, used);
          room = begun.room;
          clean = begun.clean;
          serves = record {
            repository = does.repository;
            room = does.room;
            more = does.more;
            grown = does.grown;
            used = does.used;
            read = does.read;
            readings = does.readings;
            written = does.written;
            consumed = does.consumed;
            ticked = does.ticked;
            took = does.took;
            session = does.session;
            alone = does.alone;
            faults = does.faults;
            steady_keeper = λ s. does.steady_keeper (begun.counts.steady s).1;
            settled = does.settled;
          };
          doubted = doubted reading after.keeper;
          settled = λ faultless. no_doubted reading after.keeper (does.settled faultless begun.clean);
          leaves = λ still image is.
              let k = kept still in
              subst (λ (l : List (List ℕ)). IsKeptOr after.keeper.repository l (doubted reading after.keeper) image) (led.1.spells k.0 k.1)
              (sound k.0 k.1 image (subst (λ (d : D). images d image) new_is is));
          later = begun.counts.later;
          count = ap faults (sym new_is);
          steady = λ s.
              let first = begun.counts.steady s in
              let then = steady first.1 in
              (subst IsSteady (sym new_is) then.0, ap faults new_is ∙ then.1 ∙ first.2);
        }
