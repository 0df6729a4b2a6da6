-- Laws of the bytes of a journal.
use Rattle.std.proofs.Common.{◌≡◌, ◌≢◌, inl, inr, ℕ, zero, suc, ◌+◌, ◌*◌, ◌^◌, ◌<◌, ◌≤◌, List, [], ◌∷◌, ◌++◌, length, get_or, sum_by, take, drop, refl, sym, ◌∙◌, ap, subst, arith, append_assoc, length-append}
use Rattle.std.specs.Int.{to_be_bytes, from_be_bytes, w32}
use Rattle.std.proofs.lemmas.Nat.{from_be_bytes-to_be_bytes_4}
use Rattle.std.proofs.lemmas.List.{append-nil, append_cancel_left, take_at, drop_at, drop-drop}
use Rattle.std.proofs.lemmas.List.Sums.{sum_by-cons}
use Rattle.std.proofs.lemmas.Bool.{cases_eq}
use Rattle.journal_disk.specs.Format.{Begins, Gated, header, header_of, body, spelled, base, places_from, Fits, HasRecords, IsEither, record_at, records_at}

pub length-head : (version n : ℕ) → length (header_of version n) ≡ 16
unfolding header_of
length-head version n = refl

pub length-header : (n : ℕ) → length (header n) ≡ 16
unfolding header_of
length-header n = refl

pub length-body : (r : List ℕ) → length (body r) ≡ 4 + length r
unfolding body
length-body r = length-append (to_be_bytes w32 (length r)) r

spelled-push : (rs : List (List ℕ)) (r : List ℕ) → spelled (rs ++ r ∷ []) ≡ spelled rs ++ 1 ∷ body r
spelled-push [] r = ap (λ (l : List ℕ). 1 ∷ l) (append-nil (body r))
spelled-push (q ∷ rs) r = ap (λ (l : List ℕ). 1 ∷ l) (ap (λ (l : List ℕ). body q ++ l) (spelled-push rs r) ∙ sym (append_assoc (body q) (spelled rs) (1 ∷ body r)))

pub base-push : (n : ℕ) (rs : List (List ℕ)) (r : List ℕ) → base n (rs ++ r ∷ []) ≡ base n rs ++ 1 ∷ body r
unfolding base
base-push n rs r = ap (λ (l : List ℕ). header n ++ l) (spelled-push rs r) ∙ sym (append_assoc (header n) (spelled rs) (1 ∷ body r))

pub length-base : (n : ℕ) (rs : List (List ℕ)) → length (base n rs) ≡ 16 + length (spelled rs)
unfolding base
length-base n rs = omega (arith, length-append (header n) (spelled rs), length-header n)

pub length-spelled-cons : (q : List ℕ) (rs : List (List ℕ)) → length (spelled (q ∷ rs)) ≡ 5 + length q + length (spelled rs)
length-spelled-cons q rs = omega (arith, length-append (body q) (spelled rs), length-body q)

places_more : (place last : ℕ) (rs : List (List ℕ)) (r : List ℕ) → last ≡ place + length (spelled rs) → places_from place (rs ++ r ∷ []) ≡ places_from place rs ++ last ∷ []
places_more place last [] r is = ap (λ (k : ℕ). k ∷ []) (omega arith)
places_more place last (q ∷ rs) r is = ap (λ (l : List ℕ). place ∷ l) (places_more (place + 5 + length q) last rs r (omega (arith, length-spelled-cons q rs)))

fits_more : (place last : ℕ) (rs : List (List ℕ)) (r : List ℕ) → last ≡ place + length (spelled rs) → Fits place rs → last < 2 ^ 36 → length r ≤ 2 ^ 27 → Fits place (rs ++ r ∷ [])
fits_more place last [] r is fits low small = (omega arith, small, tt)
fits_more place last (q ∷ rs) r is fits low small = (fits.0, fits.1, fits_more (place + 5 + length q) last rs r (omega (arith, length-spelled-cons q rs)) fits.2 low small)

pub places-push : (n : ℕ) (rs : List (List ℕ)) (r : List ℕ) (last : ℕ) → last ≡ length (base n rs) → places_from 16 (rs ++ r ∷ []) ≡ places_from 16 rs ++ last ∷ []
places-push n rs r last is = places_more 16 last rs r (is ∙ length-base n rs)

pub Fits-push : (n : ℕ) (rs : List (List ℕ)) (r : List ℕ) (last : ℕ) → last ≡ length (base n rs) → Fits 16 rs → last < 2 ^ 36 → length r ≤ 2 ^ 27 → Fits 16 (rs ++ r ∷ [])
Fits-push n rs r last is fits low small = fits_more 16 last rs r (is ∙ length-base n rs) fits low small

-- a closed gate behind the records
pub shut_records : (n : ℕ) (rs : List (List ℕ)) (gate : ℕ) (c : List ℕ) → n < 2 ^ 48 → Fits 16 rs → gate ≢ 1 → Begins (base n rs ++ gate ∷ []) c → HasRecords n rs c
shut_records n rs gate c number fits shut begins = record { gate = gate; shut = shut; begins = begins; fits = fits; number = number }

not_open : ◌≢◌ {A = ℕ} 0 1
not_open is = omega arith

-- an open gate before one more
pub open_begins : (n : ℕ) (rs : List (List ℕ)) (r c : List ℕ) → Begins (base n rs ++ 1 ∷ (body r ++ 0 ∷ [])) c → Begins (base n (rs ++ r ∷ []) ++ 0 ∷ []) c
open_begins n rs r c begins =
    let same : base n rs ++ 1 ∷ (body r ++ 0 ∷ []) ≡ base n (rs ++ r ∷ []) ++ 0 ∷ [] =
    sym (append_assoc (base n rs) (1 ∷ body r) (0 ∷ [])) ∙ ap (λ (l : List ℕ). l ++ 0 ∷ []) (sym (base-push n rs r)) in
    subst (λ (l : List ℕ). Begins l c) same begins

pub open_records : (n : ℕ) (rs : List (List ℕ)) (r c : List ℕ) → n < 2 ^ 48 → Fits 16 (rs ++ r ∷ []) → Begins (base n rs ++ 1 ∷ (body r ++ 0 ∷ [])) c → HasRecords n (rs ++ r ∷ []) c
open_records n rs r c number fits begins = shut_records n (rs ++ r ∷ []) 0 c number fits not_open (open_begins n rs r c begins)

pub front_begins : (front behind : List ℕ) (gate : ℕ) (c : List ℕ) → Begins (front ++ gate ∷ behind) c → Begins (front ++ gate ∷ []) c
front_begins front behind gate c begins =
    (behind ++ begins.0, begins.1 ∙ append_assoc front (gate ∷ behind) begins.0 ∙ sym (append_assoc front (gate ∷ []) (behind ++ begins.0)))

-- some gate before one more
pub either_records : (n : ℕ) (rs : List (List ℕ)) (r c : List ℕ) → n < 2 ^ 48 → Fits 16 rs → Fits 16 (rs ++ r ∷ []) → Gated (base n rs) (body r ++ 0 ∷ []) c → IsEither n rs r c
either_records n rs r c number fits more gated = elim (cases_eq gated.0 1) [
  | inl is_open ↦ inr (open_records n rs r c number more (subst (λ (g : ℕ). Begins (base n rs ++ g ∷ (body r ++ 0 ∷ [])) c) is_open gated.1))
  | inr shut ↦ inl (shut_records n rs gated.0 c number fits shut (front_begins (base n rs) (body r ++ 0 ∷ []) gated.0 c gated.1))
]

-- the record that stands behind a gate
module _ (front r rest bytes : List ℕ) (gate place : ℕ) (at : place ≡ length front) (small : length r ≤ 2 ^ 27) (is : bytes ≡ front ++ (gate ∷ (body r ++ rest))) where
  behind : drop (place + 1) bytes ≡ body r ++ rest
  behind = ap (λ (l : List ℕ). drop (place + 1) l) (is ∙ sym (append_assoc front (gate ∷ []) (body r ++ rest))) ∙ drop_at (front ++ gate ∷ []) (body r ++ rest) (place + 1) (omega (arith, length-append front (gate ∷ [])))

  text : body r ++ rest ≡ to_be_bytes w32 (length r) ++ (r ++ rest)
  unfolding body
  text = append_assoc (to_be_bytes w32 (length r)) r rest

  number : from_be_bytes w32 (take 4 (drop (place + 1) bytes)) ≡ length r
  number =
      ap (λ (l : List ℕ). from_be_bytes w32 (take 4 l)) (behind ∙ text)
      ∙ ap (λ (l : List ℕ). from_be_bytes w32 l) (take_at (to_be_bytes w32 (length r)) (r ++ rest) 4 refl)
      ∙ from_be_bytes-to_be_bytes_4 (length r) (omega arith)

  there : drop (place + 5) bytes ≡ r ++ rest
  there =
      let sum : place + 1 + 4 ≡ place + 5 = omega arith in
      ap (λ (k : ℕ). drop k bytes) (sym sum) ∙ sym (drop-drop 4 (place + 1) bytes) ∙ ap (λ (l : List ℕ). drop 4 l) (behind ∙ text) ∙ drop_at (to_be_bytes w32 (length r)) (r ++ rest) 4 refl

  pub record_there : record_at place bytes ≡ r
  unfolding record_at
  record_there =
      ap (λ (k : ℕ). take k (drop (place + 5) bytes)) number ∙ ap (λ (l : List ℕ). take (length r) l) there ∙ take_at r rest (length r) refl

-- each record ends at the next gate, or at the last place
pub ends_there : (place last : ℕ) (rs : List (List ℕ)) (i : ℕ) → last ≡ place + length (spelled rs) → i < length rs → get_or (places_from place rs) (suc i) last ≡ get_or (places_from place rs) i 0 + 5 + length (get_or rs i [])
ends_there place last [] i is within = absurd (omega arith)
ends_there place last (r ∷ []) zero is within = omega (arith, is, length-spelled-cons r [])
ends_there place last (r ∷ s ∷ rs) zero is within = refl
ends_there place last (r ∷ rs) (suc i) is within = ends_there (place + 5 + length r) last rs i (omega (arith, is, length-spelled-cons r rs)) (omega arith)

pub short_record : (place : ℕ) (rs : List (List ℕ)) (i : ℕ) → Fits place rs → i < length rs → length (get_or rs i []) ≤ 2 ^ 27
short_record place [] i fits within = absurd (omega arith)
short_record place (r ∷ rs) zero fits within = fits.1
short_record place (r ∷ rs) (suc i) fits within = short_record (place + 5 + length r) rs i fits.2 (omega arith)

-- and begins five bytes behind its own
pub text_there : (front rest bytes : List ℕ) (place : ℕ) (rs : List (List ℕ)) (i : ℕ) → place ≡ length front → Fits place rs → i < length rs → bytes ≡ front ++ (spelled rs ++ rest)
    → (others : List ℕ) × (drop (get_or (places_from place rs) i 0 + 5) bytes ≡ get_or rs i [] ++ others)
text_there front rest bytes place [] i at fits within is = absurd (omega arith)
text_there front rest bytes place (r ∷ rs) zero at fits within is =
    let split : bytes ≡ front ++ (1 ∷ (body r ++ (spelled rs ++ rest))) = is ∙ ap (λ (l : List ℕ). front ++ (1 ∷ l)) (append_assoc (body r) (spelled rs) rest) in
    (spelled rs ++ rest, there front r (spelled rs ++ rest) bytes 1 place at fits.1 split)
text_there front rest bytes place (r ∷ rs) (suc i) at fits within is =
    let split : bytes ≡ front ++ (1 ∷ (body r ++ (spelled rs ++ rest))) = is ∙ ap (λ (l : List ℕ). front ++ (1 ∷ l)) (append_assoc (body r) (spelled rs) rest) in
    let later : bytes ≡ (front ++ 1 ∷ body r) ++ (spelled rs ++ rest) = split ∙ sym (append_assoc front (1 ∷ body r) (spelled rs ++ rest)) in
    text_there (front ++ 1 ∷ body r) rest bytes (place + 5 + length r) rs i (omega (arith, at, length-append front (1 ∷ body r), length-body r)) fits.2 (omega arith) later

-- each record stands behind its gate
records_there : (front rest bytes : List ℕ) (place : ℕ) (rs : List (List ℕ)) → place ≡ length front → Fits place rs → bytes ≡ front ++ (spelled rs ++ rest) → records_at (places_from place rs) bytes ≡ rs
records_there front rest bytes place [] at fits is = refl
records_there front rest bytes place (r ∷ rs) at fits is =
    let split : bytes ≡ front ++ (1 ∷ (body r ++ (spelled rs ++ rest))) = is ∙ ap (λ (l : List ℕ). front ++ (1 ∷ l)) (append_assoc (body r) (spelled rs) rest) in
    let later : bytes ≡ (front ++ 1 ∷ body r) ++ (spelled rs ++ rest) = split ∙ sym (append_assoc front (1 ∷ body r) (spelled rs ++ rest)) in
    let first = record_there front r (spelled rs ++ rest) bytes 1 place at fits.1 split in
    let others = records_there (front ++ 1 ∷ body r) rest bytes (place + 5 + length r) rs (omega (arith, length-append front (1 ∷ body r), length-body r)) fits.2 later in
    ap (λ (l : List ℕ). l ∷ records_at (places_from (place + 5 + length r) rs) bytes) first ∙ ap (λ (l : List (List ℕ)). r ∷ l) others

pub text_of_base : (n : ℕ) (rs : List (List ℕ)) (c : List ℕ) (i : ℕ) → Fits 16 rs → i < length rs → Begins (base n rs) c → (others : List ℕ) × (drop (get_or (places_from 16 rs) i 0 + 5) c ≡ get_or rs i [] ++ others)
unfolding base
text_of_base n rs c i fits within begins = text_there (header n) begins.0 c 16 rs i (sym (length-header n)) fits within (begins.1 ∙ append_assoc (header n) (spelled rs) begins.0)

pub records_of_base : (n : ℕ) (rs : List (List ℕ)) (c : List ℕ) → Fits 16 rs → Begins (base n rs) c → records_at (places_from 16 rs) c ≡ rs
unfolding base
records_of_base n rs c fits begins = records_there (header n) begins.0 c 16 rs (sym (length-header n)) fits (begins.1 ∙ append_assoc (header n) (spelled rs) begins.0)

-- an empty journal
pub base-nil : (n : ℕ) → base n [] ≡ header n
unfolding base
base-nil n = append-nil (header n)

pub empty_begins : (n : ℕ) (c : List ℕ) → Begins (header n ++ 0 ∷ []) c → Begins (base n [] ++ 0 ∷ []) c
empty_begins n c begins = subst (λ (l : List ℕ). Begins (l ++ 0 ∷ []) c) (sym (base-nil n)) begins

pub length-empty : (n : ℕ) → length (base n []) ≡ 16
length-empty n = ap length (base-nil n) ∙ length-header n

pub used-spelled : (rs : List (List ℕ)) → length (spelled rs) ≡ sum_by (λ r. 5 + length r) rs
used-spelled [] = refl
used-spelled (r ∷ rs) = omega (arith, length-spelled-cons r rs, used-spelled rs, sum_by-cons (λ (q : List ℕ). 5 + length q) r rs)

pub spelled_most : (place : ℕ) (rs : List (List ℕ)) → Fits place rs → length (spelled rs) ≤ (2 ^ 27 + 5) * length rs
spelled_most place [] fits = omega arith
spelled_most place (r ∷ rs) fits = let short = fits.1 in omega (arith, short, length-spelled-cons r rs, spelled_most (place + 5 + length r) rs fits.2)

length-spelled : (rs : List (List ℕ)) → 5 * length rs ≤ length (spelled rs)
length-spelled [] = omega arith
length-spelled (r ∷ rs) = omega (arith, length-spelled-cons r rs, length-spelled rs)

pub length-places : (place : ℕ) (rs : List (List ℕ)) → length (places_from place rs) ≡ length rs
length-places place [] = refl
length-places place (r ∷ rs) = ap suc (length-places (place + 5 + length r) rs)

pub few_places : (n : ℕ) (rs : List (List ℕ)) (places : List ℕ) → places ≡ places_from 16 rs → 5 * length places + 16 ≤ length (base n rs)
few_places n rs places is = omega (arith, ap length is, length-places 16 rs, length-spelled rs, length-base n rs)

-- Bytes have one reading.
pub body_read : (r rest : List ℕ) → length r ≤ 2 ^ 27 → take (from_be_bytes w32 (take 4 (body r ++ rest))) (drop 4 (body r ++ rest)) ≡ r
unfolding body
body_read r rest small =
    let whole = append_assoc (to_be_bytes w32 (length r)) r rest in
    let front : take 4 (body r ++ rest) ≡ to_be_bytes w32 (length r) = ap (λ (l : List ℕ). take 4 l) whole ∙ take_at (to_be_bytes w32 (length r)) (r ++ rest) 4 refl in
    let back : drop 4 (body r ++ rest) ≡ r ++ rest = ap (λ (l : List ℕ). drop 4 l) whole ∙ drop_at (to_be_bytes w32 (length r)) (r ++ rest) 4 refl in
    ap (λ (l : List ℕ). take (from_be_bytes w32 l) (drop 4 (body r ++ rest))) front
    ∙ ap (λ (k : ℕ). take k (drop 4 (body r ++ rest))) (from_be_bytes-to_be_bytes_4 (length r) (omega arith))
    ∙ ap (λ (l : List ℕ). take (length r) l) back ∙ take_at r rest (length r) refl

pub one_spelled : (place : ℕ) (a b : List (List ℕ)) (g h : ℕ) (rest others : List ℕ) → Fits place a → Fits place b → g ≢ 1 → h ≢ 1 → spelled a ++ (g ∷ rest) ≡ spelled b ++ (h ∷ others) → a ≡ b
one_spelled place [] [] g h rest others fa fb ng nh is = refl
one_spelled place [] (s ∷ b) g h rest others fa fb ng nh is = let e : g ≡ 1 = cc in absurd (ng e)
one_spelled place (r ∷ a) [] g h rest others fa fb ng nh is = let e : h ≡ 1 = cc in absurd (nh e)
one_spelled place (r ∷ a) (s ∷ b) g h rest others fa fb ng nh is =
    let tails : (body r ++ spelled a) ++ (g ∷ rest) ≡ (body s ++ spelled b) ++ (h ∷ others) = cc in
    let X = spelled a ++ (g ∷ rest) in
    let Y = spelled b ++ (h ∷ others) in
    let split : body r ++ X ≡ body s ++ Y = sym (append_assoc (body r) (spelled a) (g ∷ rest)) ∙ tails ∙ append_assoc (body s) (spelled b) (h ∷ others) in
    let same : r ≡ s = sym (body_read r X fa.1) ∙ ap (λ (l : List ℕ). take (from_be_bytes w32 (take 4 l)) (drop 4 l)) split ∙ body_read s Y fb.1 in
    let left : X ≡ Y = append_cancel_left (body r) X Y (split ∙ ap (λ (l : List ℕ). body l ++ Y) (sym same)) in
    let next : Fits (place + 5 + length r) b = subst (λ (l : List ℕ). Fits (place + 5 + length l) b) (sym same) fb.2 in
    let later = one_spelled (place + 5 + length r) a b g h rest others fa.2 next ng nh left in
    ap (λ (l : List ℕ). l ∷ a) same ∙ ap (λ (l : List (List ℕ)). s ∷ l) later

pub behind_head : (n : ℕ) (rs : List (List ℕ)) (c : List ℕ) (has : HasRecords n rs c) → drop 16 c ≡ spelled rs ++ (has.gate ∷ has.begins.0)
unfolding base
behind_head n rs c has =
    ap (λ (l : List ℕ). drop 16 l) (has.begins.1 ∙ append_assoc (header n ++ spelled rs) (has.gate ∷ []) has.begins.0 ∙ append_assoc (header n) (spelled rs) (has.gate ∷ has.begins.0))
    ∙ drop_at (header n) (spelled rs ++ (has.gate ∷ has.begins.0)) 16 (length-header n)

pub one_reading : (n m : ℕ) (a b : List (List ℕ)) (c : List ℕ) → HasRecords n a c → HasRecords m b c → a ≡ b
one_reading n m a b c ha hb =
    one_spelled 16 a b ha.gate hb.gate ha.begins.0 hb.begins.0 ha.fits hb.fits ha.shut hb.shut (sym (behind_head n a c ha) ∙ behind_head m b c hb)
