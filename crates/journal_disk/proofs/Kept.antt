-- What is kept through the calls of a journal.
use Rattle.std.proofs.Common.{◌≡◌, inl, ℕ, zero, suc, ◌+◌, ◌*◌, ◌-◌, ◌^◌, ◌<◌, ◌≤◌, Bool, true, false, cond, List, [], ◌∷◌, ◌++◌, length, get_or, take, drop, Vec, Option, Some, None, Result, IfOk, Ok, Err, is_err, OnOk, IfSome, refl, sym, ◌∙◌, ap, subst, arith, append_assoc, length-append}
use Rattle.std.proofs.lemmas.Option.{same_Some}
use Rattle.std.proofs.lemmas.Result.{IfOk-weaker}
use Rattle.std.proofs.lemmas.List.{append-nil, take_at}
use Rattle.std.specs.declared.alloc.Global.{Global}
use Rattle.std.specs.Option.{option_map}
use Rattle.sysapi_base.specs.Outside.{Grows}
use Rattle.journal_disk.specs.Format.{Begins, Gated, header, base, body, places_from, used_by, Fits, HasRecords, IsEither, record_at, records_at}
use Rattle.journal_disk.specs.Disk.{Tells}
use Rattle.journal_disk.specs.Journal.{Held, IsKept, IsKeptOr}
use Rattle.journal_disk.proofs.Formats.{length-header, length-body, length-base, length-places, spelled_most, used-spelled, ends_there, short_record, text_of_base, base-push, places-push, Fits-push, shut_records, open_records, either_records, records_of_base, few_places, empty_begins, length-empty, front_begins, open_begins, record_there}

no_truth : {X : Type 0} (b : Bool) → b ≡ true → b ≡ false → X
no_truth b is not_so = cc

pub begins_less : (front behind c : List ℕ) → Begins (front ++ behind) c → Begins front c
begins_less front behind c begins = (behind ++ begins.0, begins.1 ∙ append_assoc front behind begins.0)

pub gated_base : (front behind c : List ℕ) → Gated front behind c → Begins front c
gated_base front behind c gated = begins_less front (gated.0 ∷ behind) c gated.1

pub gated_from : (front behind : List ℕ) (gate : ℕ) (c : List ℕ) → Begins ((front ++ gate ∷ []) ++ behind) c → Gated front behind c
gated_from front behind gate c begins = (gate, subst (λ (l : List ℕ). Begins l c) (append_assoc front (gate ∷ []) behind) begins)

pub ok_of : {T E P : Type 0} (result : Result T E) → is_err result ≡ false → OnOk result P → P
ok_of (Ok x) is p = p
ok_of (Err e) is p = cc

pub text_len : (r text : List ℕ) (n v : ℕ) → n ≡ v → length text ≡ v → text ≡ body r ++ 0 ∷ [] → n ≡ length r + 5
text_len r text n v is len same = omega (arith, is, len, ap length same, length-append (body r) (0 ∷ []), length-body r)

place_low : (place : ℕ) (rs : List (List ℕ)) (i : ℕ) → Fits place rs → i < length (places_from place rs) → get_or (places_from place rs) i 0 < 2 ^ 36
place_low place [] i fits within = absurd (omega arith)
place_low place (r ∷ rs) zero fits within = fits.0
place_low place (r ∷ rs) (suc i) fits within = place_low (place + 5 + length r) rs i fits.2 (omega arith)

module _ {D : Type 0} (a b : Held D) (same : a ≡ b) where
  pub doubt_of : b.doubt ≡ false → a.doubt ≡ false
  doubt_of is = ap (λ (h : Held D). h.doubt) same ∙ is

  pub room_of : (n : ℕ) → b.used + n ≤ b.room → a.used + n ≤ a.room
  room_of n fits = omega (arith, fits, ap (λ (h : Held D). h.used) same, ap (λ (h : Held D). h.room) same)

  pub within_of : (i : ℕ) → i < length b.places → i < length a.places
  within_of i within = omega (arith, within, ap (λ (h : Held D). length h.places) same)

  pub used_of : (n : ℕ) → a.used + n ≡ b.used + n
  used_of n = ap (λ (h : Held D). h.used + n) same

takes : (o n : Option (List ℕ)) (places places' : List ℕ) (rs bs : List (List ℕ)) → ((a : List ℕ) → o ≡ Some a → records_at places a ≡ rs) → ((b : List ℕ) → n ≡ Some b → records_at places' b ≡ rs ++ bs) → Tells o n → Grows (option_map (records_at places) o) (option_map (records_at places') n) bs
takes None None places places' rs bs before after tells = refl
takes None (Some b) places places' rs bs before after tells = let was = tells b refl in let e = was.1 in cc
takes (Some a) None places places' rs bs before after tells = tt
takes (Some a) (Some b) places places' rs bs before after tells = after b refl ∙ ap (λ (l : List (List ℕ)). l ++ bs) (sym (before a refl))

module _ {images : List ℕ → Type 0} {repository room used : ℕ} {places : List ℕ} {doubt : Bool} (k : IsKept images repository room used places doubt) where
  pub last : used - 1 ≡ length (base repository k.records)
  last = let u = k.used_is in omega arith

  pub behind_gate : (gate : ℕ) → used ≡ length (base repository k.records ++ gate ∷ [])
  behind_gate gate = let u = k.used_is in omega (arith, length-append (base repository k.records) (gate ∷ []))

  pub below : length places < used
  below = omega (arith, few_places repository k.records places k.places_are, k.used_is)

  pub few : length places < 2 ^ 36
  few = omega (arith, few_places repository k.records places k.places_are, k.used_is, k.bound)

  pub low : (n : ℕ) → used + n ≤ room → used ≤ 2 ^ 36
  low n fits = let most = k.most in omega arith

  pub begins : (c : List ℕ) → images c → Begins (base repository k.records) c
  begins c now = by_doubt doubt refl
    where
      by_doubt : (b : Bool) → doubt ≡ b → Begins (base repository k.records) c
      by_doubt true is = let s = k.staged is in let gated = s.3 c now in begins_less (base repository k.records) (gated.0 ∷ (body s.0 ++ 0 ∷ [])) c gated.1
      by_doubt false is = let s = k.settled is in begins_less (base repository k.records) (s.0 ∷ []) c (s.2 c now)

  module _ {new : List ℕ → Type 0} where
    -- the record behind the gate
    pub whole_there : (r : List ℕ) → length r ≤ 2 ^ 27 → ((c : List ℕ) → new c → Gated (base repository k.records) (body r ++ 0 ∷ []) c) → (c : List ℕ) → new c → record_at (used - 1) c ≡ r
    whole_there r small all c now =
        let gated = all c now in
        let split : c ≡ base repository k.records ++ (gated.0 ∷ (body r ++ (0 ∷ gated.1.0))) =
        gated.1.1 ∙ append_assoc (base repository k.records) (gated.0 ∷ (body r ++ 0 ∷ [])) gated.1.0
        ∙ ap (λ (l : List ℕ). base repository k.records ++ (gated.0 ∷ l)) (append_assoc (body r) (0 ∷ []) gated.1.0) in
        record_there (base repository k.records) r (0 ∷ gated.1.0) c gated.0 (used - 1) last small split

  pub more_fits : (r : List ℕ) → length r ≤ 2 ^ 27 → used ≤ 2 ^ 36 → Fits 16 (k.records ++ r ∷ [])
  more_fits r small low = Fits-push repository k.records r (used - 1) last k.fits (let u = k.used_is in omega arith) small

  many : length places ≡ length k.records
  many = ap length k.places_are ∙ length-places 16 k.records

  pub least_used : 17 ≤ used
  least_used = omega (arith, k.used_is, length-base repository k.records)

  pub most_used : used ≤ 64 + (2 ^ 27 + 64) * length places
  most_used = omega (arith, k.used_is, length-base repository k.records, spelled_most 16 k.records k.fits, many)

  -- the record of a number, and its place
  module _ (i : ℕ) (within : i < length places) where
    inside : i < length k.records
    inside = omega (arith, within, many)

    pub low_place : get_or places i 0 < 2 ^ 36
    low_place = let e = k.places_are in subst (λ (l : List ℕ). get_or l i 0 < 2 ^ 36) (sym e) (place_low 16 k.records i k.fits (omega (arith, within, ap length e)))

    pub ends : get_or places (i + 1) (used - 1) ≡ get_or places i 0 + 5 + length (get_or k.records i [])
    ends =
        let next : i + 1 ≡ suc i = omega arith in
        let e = k.places_are in
        ap (λ (j : ℕ). get_or places j (used - 1)) next
        ∙ subst (λ (l : List ℕ). get_or l (suc i) (used - 1) ≡ get_or l i 0 + 5 + length (get_or k.records i [])) (sym e)
        (ends_there 16 (used - 1) k.records i (omega (arith, last, length-base repository k.records)) inside)

    pub short : length (get_or k.records i []) ≤ 2 ^ 27
    short = short_record 16 k.records i k.fits inside

    pub stands : (b : List ℕ) → images b → take (length (get_or k.records i [])) (drop (get_or places i 0 + 5) b) ≡ get_or k.records i []
    stands b now =
        let e = k.places_are in
        let there = text_of_base repository k.records b i k.fits inside (begins b now) in
        ap (λ (l : List ℕ). take (length (get_or k.records i [])) (drop (get_or l i 0 + 5) b)) e
        ∙ ap (λ (l : List ℕ). take (length (get_or k.records i [])) l) there.1
        ∙ take_at (get_or k.records i []) there.0 (length (get_or k.records i [])) refl

  module _ (reading : Option (List ℕ)) (reads : (b : List ℕ) → reading ≡ Some b → images b) where
    -- the told records are the kept ones
    pub kept_are : (kept : List (List ℕ)) → option_map (records_at places) reading ≡ Some kept → kept ≡ k.records
    kept_are kept is = by_reading reading refl
      where
        by_reading : (o : Option (List ℕ)) → reading ≡ o → kept ≡ k.records
        by_reading None none = let e : option_map (records_at places) None ≡ Some kept = subst (λ (o : Option (List ℕ)). option_map (records_at places) o ≡ Some kept) none is in cc
        by_reading (Some b) some =
            let e : Some (records_at places b) ≡ Some kept = subst (λ (o : Option (List ℕ)). option_map (records_at places) o ≡ Some kept) some is in
            sym (same_Some (records_at places b) kept e) ∙ ap (λ (l : List ℕ). records_at l b) k.places_are ∙ records_of_base repository k.records b k.fits (begins b (reads b some))

    pub used_exact : (kept : List (List ℕ)) → option_map (records_at places) reading ≡ Some kept → used ≡ used_by kept
    used_exact kept told =
        omega (arith, k.used_is, length-base repository k.records, used-spelled k.records)
        ∙ ap (λ (rs : List (List ℕ)). used_by rs) (sym (kept_are kept told))

    pub count_exact : (kept : List (List ℕ)) → option_map (records_at places) reading ≡ Some kept → length places ≡ length kept
    count_exact kept told = many ∙ ap length (sym (kept_are kept told))

    pub places_exact : (kept : List (List ℕ)) → option_map (records_at places) reading ≡ Some kept → places ≡ places_from 16 kept
    places_exact kept told = k.places_are ∙ ap (λ (rs : List (List ℕ)). places_from 16 rs) (sym (kept_are kept told))

    pub place_exact : (i : ℕ) (kept : List (List ℕ)) → option_map (records_at places) reading ≡ Some kept → get_or places i 0 ≡ get_or (places_from 16 kept) i 0
    place_exact i kept told = ap (λ (l : List ℕ). get_or l i 0) (places_exact kept told)

    -- what is read from behind a record's gate, as long as the record
    pub record_read : {E : Type 0} (result : Result (Vec ℕ Global) E) (i at len : ℕ) → i < length places → at ≡ get_or places i 0 + 5 → len ≡ length (get_or k.records i [])
        → ((b : List ℕ) → reading ≡ Some b → IfOk result (λ v. v.items ≡ take len (drop at b)))
        → (kept : List (List ℕ)) → option_map (records_at places) reading ≡ Some kept → IfOk result (λ v. v.items ≡ get_or kept i [])
    record_read result i at len within place long read kept told = by_reading reading refl
      where
        by_reading : (o : Option (List ℕ)) → reading ≡ o → IfOk result (λ v. v.items ≡ get_or kept i [])
        by_reading None none = let e : option_map (records_at places) None ≡ Some kept = subst (λ (o : Option (List ℕ)). option_map (records_at places) o ≡ Some kept) none told in cc
        by_reading (Some b) some = IfOk-weaker result (λ v. v.items ≡ take len (drop at b)) (λ v. v.items ≡ get_or kept i [])
            (λ v is. is ∙ ap (λ (n : ℕ). take n (drop at b)) long ∙ ap (λ (n : ℕ). take (length (get_or k.records i [])) (drop n b)) place ∙ stands i within b (reads b some)
            ∙ ap (λ (rs : List (List ℕ)). get_or rs i []) (sym (kept_are kept told)))
            (read b some)

    abbrev doubted : Option (List ℕ)
    doubted = cond doubt (option_map (record_at (used - 1)) reading) None

    -- and the told doubt is the one that stands behind them
    pub doubt_is : (is : doubt ≡ true) (kept : List (List ℕ)) → option_map (records_at places) reading ≡ Some kept → doubted ≡ Some (k.staged is).0
    doubt_is is kept told = by_reading reading refl
      where
        by_reading : (o : Option (List ℕ)) → reading ≡ o → doubted ≡ Some (k.staged is).0
        by_reading None none = let e : option_map (records_at places) None ≡ Some kept = subst (λ (o : Option (List ℕ)). option_map (records_at places) o ≡ Some kept) none told in cc
        by_reading (Some b) some =
            let s = k.staged is in
            let gated = s.3 b (reads b some) in
            let split : b ≡ base repository k.records ++ (gated.0 ∷ (body s.0 ++ (0 ∷ gated.1.0))) =
            gated.1.1 ∙ append_assoc (base repository k.records) (gated.0 ∷ (body s.0 ++ 0 ∷ [])) gated.1.0
            ∙ ap (λ (l : List ℕ). base repository k.records ++ (gated.0 ∷ l)) (append_assoc (body s.0) (0 ∷ []) gated.1.0) in
            ap (λ (d : Bool). cond d (option_map (record_at (used - 1)) reading) None) is
            ∙ ap (λ (o : Option (List ℕ)). option_map (record_at (used - 1)) o) some
            ∙ ap (λ (r : List ℕ). Some r) (record_there (base repository k.records) s.0 (0 ∷ gated.1.0) b gated.0 (used - 1) last s.1 split)

    -- with the doubt's gate open or closed
    pub staged_or : (is : doubt ≡ true) (kept : List (List ℕ)) → option_map (records_at places) reading ≡ Some kept → (c : List ℕ) → Gated (base repository k.records) (body (k.staged is).0 ++ 0 ∷ []) c → IsKeptOr repository kept doubted c
    staged_or is kept told c gated =
        let s = k.staged is in
        let either : IsEither repository kept s.0 c =
        subst (λ (rs : List (List ℕ)). IsEither repository rs s.0 c) (sym (kept_are kept told)) (either_records repository k.records s.0 c k.number k.fits (more_fits s.0 s.1 s.2) gated) in
        subst (λ (o : Option (List ℕ)). IsKeptOr repository kept o c) (sym (doubt_is is kept told)) either

    pub settled_has : (is : doubt ≡ false) (kept : List (List ℕ)) → option_map (records_at places) reading ≡ Some kept → (c : List ℕ) → images c → HasRecords repository kept c
    settled_has is kept told c now =
        let s = k.settled is in
        subst (λ (rs : List (List ℕ)). HasRecords repository rs c) (sym (kept_are kept told)) (shut_records repository k.records s.0 c k.number k.fits s.1 (s.2 c now))

    pub settled_or : (is : doubt ≡ false) (kept : List (List ℕ)) → option_map (records_at places) reading ≡ Some kept → (c : List ℕ) → images c → IsKeptOr repository kept doubted c
    settled_or is kept told c now =
        let has = settled_has is kept told c now in
        subst (λ (d : Bool). IsKeptOr repository kept (cond d (option_map (record_at (used - 1)) reading) None) c) (sym is) has

    -- the gate before the doubt is closed again
    pub closed_has : (kept : List (List ℕ)) → option_map (records_at places) reading ≡ Some kept → (r c : List ℕ) → Begins (base repository k.records ++ 0 ∷ (body r ++ 0 ∷ [])) c → HasRecords repository kept c
    closed_has kept told r c begun =
        subst (λ (rs : List (List ℕ)). HasRecords repository rs c) (sym (kept_are kept told))
        (shut_records repository k.records 0 c k.number k.fits (λ is. omega arith) (front_begins (base repository k.records) (body r ++ 0 ∷ []) 0 c begun))

    module _ (r : List ℕ) (small : length r ≤ 2 ^ 27) (below : used ≤ 2 ^ 36) (kept : List (List ℕ)) (told : option_map (records_at places) reading ≡ Some kept) where
      pub begun_either : (is : doubt ≡ false) (c : List ℕ) → Begins (base repository k.records ++ (k.settled is).0 ∷ []) c → IsEither repository kept r c
      begun_either is c begun =
          let s = k.settled is in
          inl (subst (λ (rs : List (List ℕ)). HasRecords repository rs c) (sym (kept_are kept told)) (shut_records repository k.records s.0 c k.number k.fits s.1 begun))

      pub gated_either : (c : List ℕ) → Gated (base repository k.records) (body r ++ 0 ∷ []) c → IsEither repository kept r c
      gated_either c gated =
          subst (λ (rs : List (List ℕ)). IsEither repository rs r c) (sym (kept_are kept told)) (either_records repository k.records r c k.number k.fits (more_fits r small below) gated)

      pub open_has : (c : List ℕ) → Begins (base repository k.records ++ 1 ∷ (body r ++ 0 ∷ [])) c → HasRecords repository (kept ++ r ∷ []) c
      open_has c begun =
          subst (λ (rs : List (List ℕ)). HasRecords repository (rs ++ r ∷ []) c) (sym (kept_are kept told)) (open_records repository k.records r c k.number (more_fits r small below) begun)

    module _ (new : List ℕ → Type 0) (reading' : Option (List ℕ)) (reads' : (b : List ℕ) → reading' ≡ Some b → new b) (tells : Tells reading reading') where
      before : (a : List ℕ) → reading ≡ Some a → records_at places a ≡ k.records
      before a is = ap (λ (l : List ℕ). records_at l a) k.places_are ∙ records_of_base repository k.records a k.fits (begins a (reads a is))

      pub takes_none : ((c : List ℕ) → new c → Begins (base repository k.records) c) → Grows (option_map (records_at places) reading) (option_map (records_at places) reading') []
      takes_none all = takes reading reading' places places k.records [] before
          (λ b is. ap (λ (l : List ℕ). records_at l b) k.places_are ∙ records_of_base repository k.records b k.fits (all b (reads' b is)) ∙ sym (append-nil k.records)) tells

      pub takes_one : (r : List ℕ) (more : List ℕ) → length r ≤ 2 ^ 27 → used ≤ 2 ^ 36 → more ≡ places ++ (used - 1) ∷ [] → ((c : List ℕ) → new c → Begins (base repository k.records ++ 1 ∷ (body r ++ 0 ∷ [])) c)
          → Grows (option_map (records_at places) reading) (option_map (records_at more) reading') (r ∷ [])
      takes_one r more small below grown all = takes reading reading' places more k.records (r ∷ []) before
          (λ b is. ap (λ (l : List ℕ). records_at l b) (grown ∙ ap (λ (l : List ℕ). l ++ (used - 1) ∷ []) k.places_are ∙ sym (places-push repository k.records r (used - 1) last))
          ∙ records_of_base repository (k.records ++ r ∷ []) b (more_fits r small below) (begins_less (base repository (k.records ++ r ∷ [])) (0 ∷ []) b (open_begins repository k.records r b (all b (reads' b is))))) tells

      staged_there : (r : List ℕ) → length r ≤ 2 ^ 27 → ((c : List ℕ) → new c → Gated (base repository k.records) (body r ++ 0 ∷ []) c) → (b : List ℕ) → reading' ≡ Some b → record_at (used - 1) b ≡ r
      staged_there r small all b is = whole_there r small all b (reads' b is)

      pub doubt_there : (r : List ℕ) → length r ≤ 2 ^ 27 → ((c : List ℕ) → new c → Gated (base repository k.records) (body r ++ 0 ∷ []) c) → IfSome (option_map (record_at (used - 1)) reading') (λ s. s ≡ r)
      doubt_there r small all = by_reading reading' (λ b is. staged_there r small all b is)
        where
          by_reading : (o : Option (List ℕ)) → ((b : List ℕ) → o ≡ Some b → record_at (used - 1) b ≡ r) → IfSome (option_map (record_at (used - 1)) o) (λ s. s ≡ r)
          by_reading None there = tt
          by_reading (Some b) there = there b refl

      pub doubt_stays : (is : doubt ≡ true) → ((c : List ℕ) → new c → Gated (base repository k.records) (body (k.staged is).0 ++ 0 ∷ []) c) → IfSome (cond doubt (option_map (record_at (used - 1)) reading') None) (λ r. doubted ≡ Some r)
      doubt_stays is all =
          let there = staged_there (k.staged is).0 (k.staged is).1 all in
          subst (λ (d : Bool). IfSome (cond d (option_map (record_at (used - 1)) reading') None) (λ r. doubted ≡ Some r)) (sym is)
          (by_reading reading' there (λ b now. let was = tells b now in let e = was.1 in doubt_is is (records_at places was.0) (ap (λ (o : Option (List ℕ)). option_map (records_at places) o) e)))
        where
          by_reading : (o : Option (List ℕ)) → ((b : List ℕ) → o ≡ Some b → record_at (used - 1) b ≡ (k.staged is).0) → ((b : List ℕ) → o ≡ Some b → doubted ≡ Some (k.staged is).0) → IfSome (option_map (record_at (used - 1)) o) (λ r. doubted ≡ Some r)
          by_reading None there old = tt
          by_reading (Some b) there old = old b refl ∙ ap (λ (r : List ℕ). Some r) (sym (there b refl))

    pub sound : (kept : List (List ℕ)) → option_map (records_at places) reading ≡ Some kept → (c : List ℕ) → images c → IsKeptOr repository kept doubted c
    sound kept told c now = by_doubt doubt refl
      where
        by_doubt : (b : Bool) → doubt ≡ b → IsKeptOr repository kept doubted c
        by_doubt true is = staged_or is kept told c ((k.staged is).3 c now)
        by_doubt false is = settled_or is kept told c now

  module _ (new : List ℕ → Type 0) where
    -- the gate's write failed, or its sync
    pub still_staged : (is : doubt ≡ true) → ((c : List ℕ) → new c → Gated (base repository k.records) (body (k.staged is).0 ++ 0 ∷ []) c) → IsKept new repository room used places doubt
    still_staged is all = record {
      records = k.records;
      fits = k.fits;
      places_are = k.places_are;
      used_is = k.used_is;
      number = k.number;
      most = k.most;
      bound = k.bound;
      settled = λ not_so. no_truth doubt is not_so;
      staged = λ so. let s = k.staged is in (s.0, s.1, s.2, all);
    }

    pub closed_again : (is : doubt ≡ true) → ((c : List ℕ) → new c → Begins (base repository k.records ++ 0 ∷ (body (k.staged is).0 ++ 0 ∷ [])) c) → IsKept new repository room used places false
    closed_again is all = record {
      records = k.records;
      fits = k.fits;
      places_are = k.places_are;
      used_is = k.used_is;
      number = k.number;
      most = k.most;
      bound = k.bound;
      settled = λ not_so. (0, (λ is. omega arith), λ c now. front_begins (base repository k.records) (body (k.staged is).0 ++ 0 ∷ []) 0 c (all c now));
      staged = λ so. cc;
    }

    -- the text's write failed, or its sync
    pub still_settled : (is : doubt ≡ false) → ((c : List ℕ) → new c → Begins (base repository k.records ++ (k.settled is).0 ∷ []) c) → IsKept new repository room used places doubt
    still_settled is all = record {
      records = k.records;
      fits = k.fits;
      places_are = k.places_are;
      used_is = k.used_is;
      number = k.number;
      most = k.most;
      bound = k.bound;
      settled = λ not_so. let s = k.settled is in (s.0, s.1, all);
      staged = λ so. no_truth doubt so is;
    }

    pub now_staged : (r : List ℕ) → length r ≤ 2 ^ 27 → used ≤ 2 ^ 36 → ((c : List ℕ) → new c → Gated (base repository k.records) (body r ++ 0 ∷ []) c) → IsKept new repository room used places true
    now_staged r small low all = record {
      records = k.records;
      fits = k.fits;
      places_are = k.places_are;
      used_is = k.used_is;
      number = k.number;
      most = k.most;
      bound = k.bound;
      settled = λ not_so. cc;
      staged = λ so. (r, small, low, all);
    }

    pub now_more : (r : List ℕ) (n : ℕ) (more : List ℕ) → length r ≤ 2 ^ 27 → used ≤ 2 ^ 36 → n ≡ used + (length r + 5) → more ≡ places ++ (used - 1) ∷ [] → ((c : List ℕ) → new c → Begins (base repository k.records ++ 1 ∷ (body r ++ 0 ∷ [])) c) → (d : Bool) → d ≡ false → IsKept new repository room n more d
    now_more r n more small low is grown all d none = record {
      records = k.records ++ r ∷ [];
      fits = more_fits r small low;
      places_are = grown ∙ ap (λ (l : List ℕ). l ++ (used - 1) ∷ []) k.places_are ∙ sym (places-push repository k.records r (used - 1) last);
      used_is = omega (arith, is, k.used_is, ap length (base-push repository k.records r), length-append (base repository k.records) (1 ∷ body r), length-body r);
      number = k.number;
      most = k.most;
      bound = omega arith;
      settled = λ not_so. (0, (λ is. omega arith), λ c now. open_begins repository k.records r c (all c now));
      staged = λ so. no_truth d so none;
    }

-- a journal that was made
pub made : {images : List ℕ → Type 0} (n room : ℕ) (places : List ℕ) → n < 2 ^ 48 → room ≤ 2 ^ 36 → places ≡ [] → ((c : List ℕ) → images c → Begins (header n ++ 0 ∷ []) c) → IsKept images n room 17 places false
made n room places number most none all = record {
  records = [];
  fits = tt;
  places_are = none;
  used_is = omega (arith, length-empty n);
  number = number;
  most = most;
  bound = omega arith;
  settled = λ not_so. (0, (λ is. omega arith), λ c now. empty_begins n c (all c now));
  staged = λ so. cc;
}

pub made_has : (n : ℕ) (c : List ℕ) → n < 2 ^ 48 → Begins (header n ++ 0 ∷ []) c → HasRecords n [] c
made_has n c number begins = shut_records n [] 0 c number tt (λ is. omega arith) (empty_begins n c begins)

made_long : (n : ℕ) (c : List ℕ) → Begins (header n ++ 0 ∷ []) c → 17 ≤ length c
made_long n c begins = omega (arith, ap length begins.1, length-append (header n ++ 0 ∷ []) begins.0, length-append (header n) (0 ∷ []), length-header n)

made_none : (places b : List ℕ) (reading : Option (List ℕ)) → places ≡ [] → reading ≡ Some b → option_map (records_at places) reading ≡ Some []
made_none places b reading none is = ap (λ (o : Option (List ℕ)). option_map (records_at places) o) is ∙ ap (λ (l : List ℕ). Some (records_at l b)) none

-- what is told of it
module _ {images : List ℕ → Type 0} (reading : Option (List ℕ)) (reads : (b : List ℕ) → reading ≡ Some b → images b) (n : ℕ) (places : List ℕ) (none : places ≡ []) (all : (c : List ℕ) → images c → Begins (header n ++ 0 ∷ []) c) where
  pub made_told : (b : List ℕ) → reading ≡ Some b → (option_map (records_at places) reading ≡ Some []) × (17 ≤ length b)
  made_told b is = (made_none places b reading none is, made_long n b (all b (reads b is)))

  pub made_sound : n < 2 ^ 48 → (b : List ℕ) → reading ≡ Some b → (kept : List (List ℕ)) × (option_map (records_at places) reading ≡ Some kept) × HasRecords n kept b
  made_sound number b is = ([], made_none places b reading none is, made_has n b number (all b (reads b is)))
