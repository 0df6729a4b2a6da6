-- Bytes are sound, damaged or another version's in one way.
use Rattle.std.proofs.Common.{◌≡◌, ◌≢◌, ◌⊎◌, inl, inr, ℕ, ◌+◌, ◌^◌, ◌<◌, ◌≤◌, List, [], ◌∷◌, ◌++◌, length, get_or, take, drop, refl, sym, ◌∙◌, ap, subst, arith, append_assoc, length-append}
use Rattle.std.specs.Int.{to_be_bytes, from_be_bytes, w32, w64}
use Rattle.std.proofs.lemmas.Nat.{from_be_bytes-to_be_bytes_4, from_be_bytes-to_be_bytes_8}
use Rattle.std.proofs.lemmas.List.{append_cancel_left, take_at, drop_at}
use Rattle.journal_disk.specs.Format.{Begins, header, header_of, body, spelled, base, Fits, HasRecords}
use Rattle.journal_disk.specs.Opening.{IsDamagedGate, IsDamagedAt, IsHead, HasHead, IsOtherVersion, length_at}
use Rattle.journal_disk.specs.Finding.{number_in}
use Rattle.journal_disk.proofs.Formats.{length-body, length-base, length-head, body_read, behind_head, length-spelled-cons}

body_len : (r rest : List ℕ) → length r ≤ 2 ^ 27 → from_be_bytes w32 (take 4 (body r ++ rest)) ≡ length r
unfolding body
body_len r rest small =
    ap (λ (l : List ℕ). from_be_bytes w32 (take 4 l)) (append_assoc (to_be_bytes w32 (length r)) r rest)
    ∙ ap (λ (l : List ℕ). from_be_bytes w32 l) (take_at (to_be_bytes w32 (length r)) (r ++ rest) 4 refl)
    ∙ from_be_bytes-to_be_bytes_4 (length r) (omega arith)

-- what is bad of a place, and of what stands behind its gate
abbrev Bad : ℕ → List ℕ → Type 0
Bad place others = (2 ^ 36 ≤ place) ⊎ ((2 ^ 27 < from_be_bytes w32 (take 4 others)) ⊎ (length others < 5 + from_be_bytes w32 (take 4 others)))

good : (place : ℕ) (r rest others : List ℕ) (g : ℕ) → place < 2 ^ 36 → length r ≤ 2 ^ 27 → others ≡ body r ++ (g ∷ rest) → Bad place others → ⊥
good place r rest others g low small is (inl far) = omega arith
good place r rest others g low small is (inr (inl long)) = omega (arith, long, small, ap (λ (l : List ℕ). from_be_bytes w32 (take 4 l)) is ∙ body_len r (g ∷ rest) small)
good place r rest others g low small is (inr (inr short)) =
    omega (arith, short, ap (λ (l : List ℕ). from_be_bytes w32 (take 4 l)) is ∙ body_len r (g ∷ rest) small, ap length is, length-append (body r) (g ∷ rest), length-body r)

head_of : (rs : List (List ℕ)) (g : ℕ) (rest : List ℕ) → (h : ℕ) × (tail : List ℕ) × (spelled rs ++ (g ∷ rest) ≡ h ∷ tail)
head_of [] g rest = (g, rest, refl)
head_of (r ∷ rs) g rest = (1, (body r ++ spelled rs) ++ (g ∷ rest), refl)

never : (place q : ℕ) (a d : List (List ℕ)) (g : ℕ) (rest others : List ℕ) → Fits place a → g ≢ 1 → q ≡ place + length (spelled d) → spelled a ++ (g ∷ rest) ≡ spelled d ++ (1 ∷ others) → Fits place d → Bad q others → ⊥
never place q [] [] g rest others fits shut at is fd bad = let e : g ≡ 1 = cc in shut e
never place q [] (s ∷ d) g rest others fits shut at is fd bad = let e : g ≡ 1 = cc in shut e
never place q (r ∷ a) [] g rest others fits shut at is fd bad =
    let top = head_of a g rest in
    let tails : (body r ++ spelled a) ++ (g ∷ rest) ≡ others = cc in
    let split : others ≡ body r ++ (top.0 ∷ top.1) = sym tails ∙ append_assoc (body r) (spelled a) (g ∷ rest) ∙ ap (λ (l : List ℕ). body r ++ l) top.2 in
    good q r top.1 others top.0 (let low = fits.0 in omega arith) fits.1 split bad
never place q (r ∷ a) (s ∷ d) g rest others fits shut at is fd bad =
    let tails : (body r ++ spelled a) ++ (g ∷ rest) ≡ (body s ++ spelled d) ++ (1 ∷ others) = cc in
    let X = spelled a ++ (g ∷ rest) in
    let Y = spelled d ++ (1 ∷ others) in
    let split : body r ++ X ≡ body s ++ Y = sym (append_assoc (body r) (spelled a) (g ∷ rest)) ∙ tails ∙ append_assoc (body s) (spelled d) (1 ∷ others) in
    let same : r ≡ s = sym (body_read r X fits.1) ∙ ap (λ (l : List ℕ). take (from_be_bytes w32 (take 4 l)) (drop 4 l)) split ∙ body_read s Y fd.1 in
    let left : X ≡ Y = append_cancel_left (body r) X Y (split ∙ ap (λ (l : List ℕ). body l ++ Y) (sym same)) in
    let next : Fits (place + 5 + length r) d = subst (λ (l : List ℕ). Fits (place + 5 + length l) d) (sym same) fd.2 in
    never (place + 5 + length r) q a d g rest others fits.2 shut (omega (arith, at, length-spelled-cons s d, ap length same)) left next bad

damaged_tail : (place : ℕ) (b : List ℕ) (bad : IsDamagedGate place b) → (drop 16 b ≡ spelled bad.records ++ (1 ∷ bad.begins.0)) × (drop (place + 1) b ≡ bad.begins.0) × (length b ≡ place + 1 + length bad.begins.0)
unfolding base
damaged_tail place b bad =
    let rest = bad.begins.0 in
    let n = bad.repository in
    let rs = bad.records in (
      ap (λ (l : List ℕ). drop 16 l) (bad.begins.1 ∙ append_assoc (header_of 1 n ++ spelled rs) (1 ∷ []) rest ∙ append_assoc (header_of 1 n) (spelled rs) (1 ∷ rest)) ∙ drop_at (header_of 1 n) (spelled rs ++ (1 ∷ rest)) 16 (length-head 1 n),
      ap (λ (l : List ℕ). drop (place + 1) l) bad.begins.1 ∙ drop_at (base n rs ++ 1 ∷ []) rest (place + 1) (omega (arith, bad.place_is, length-append (base n rs) (1 ∷ []))),
      ap length bad.begins.1 ∙ length-append (base n rs ++ 1 ∷ []) rest ∙ ap (λ (k : ℕ). k + length rest) (omega (arith, bad.place_is, length-append (base n rs) (1 ∷ []))),
    )

bad_of : (place : ℕ) (b rest : List ℕ) → drop (place + 1) b ≡ rest → length b ≡ place + 1 + length rest → (2 ^ 36 ≤ place) ⊎ ((2 ^ 27 < length_at place b) ⊎ (length b < place + 6 + length_at place b)) → Bad place rest
bad_of place b rest is long (inl far) = inl far
bad_of place b rest is long (inr (inl big)) = inr (inl (subst (λ (l : List ℕ). 2 ^ 27 < from_be_bytes w32 (take 4 l)) is big))
bad_of place b rest is long (inr (inr short)) =
    let same : length_at place b ≡ from_be_bytes w32 (take 4 rest) = ap (λ (l : List ℕ). from_be_bytes w32 (take 4 l)) is in
    inr (inr (omega (arith, short, long, same)))

no_gate : (n place : ℕ) (rs : List (List ℕ)) (b : List ℕ) → HasRecords n rs b → IsDamagedGate place b → ⊥
no_gate n place rs b has bad =
    let tail = damaged_tail place b bad in
    never 16 place rs bad.records has.gate has.begins.0 bad.begins.0 has.fits has.shut (omega (arith, bad.place_is, length-base bad.repository bad.records)) (sym (behind_head n rs b has) ∙ tail.0) bad.fits (bad_of place b bad.begins.0 tail.1 tail.2 bad.bad)

-- the header before a journal's gates
module _ (n : ℕ) (rest bytes : List ℕ) (is : bytes ≡ header n ++ rest) where
  version_is : get_or bytes 7 0 ≡ 1
  unfolding header_of
  version_is = ap (λ (l : List ℕ). get_or l 7 0) is

  head_is : IsHead bytes
  unfolding header_of
  head_is = (ap (λ (l : List ℕ). take 7 l) is, ap (λ (l : List ℕ). get_or l 14 0) is, ap (λ (l : List ℕ). get_or l 15 0) is)

  number_is : n < 2 ^ 48 → number_in bytes ≡ n
  unfolding number_in header_of
  number_is low = ap (λ (l : List ℕ). from_be_bytes w64 (0 ∷ 0 ∷ take 6 (drop 8 l))) is ∙ omega (arith, from_be_bytes-to_be_bytes_8 n (omega arith))

-- a journal's gates begin behind its header
behind_header : (n : ℕ) (rs : List (List ℕ)) (gate : ℕ) (bytes : List ℕ) (begins : Begins (base n rs ++ gate ∷ []) bytes) → bytes ≡ header n ++ (spelled rs ++ (gate ∷ begins.0))
unfolding base
behind_header n rs gate bytes begins = begins.1 ∙ append_assoc (header n ++ spelled rs) (gate ∷ []) begins.0 ∙ append_assoc (header n) (spelled rs) (gate ∷ begins.0)

head_of_base : (n : ℕ) (rs : List (List ℕ)) (gate : ℕ) (bytes : List ℕ) → Begins (base n rs ++ gate ∷ []) bytes → HasHead bytes
head_of_base n rs gate bytes begins = (
  omega (arith, ap length begins.1, length-append (base n rs ++ gate ∷ []) begins.0, length-append (base n rs) (gate ∷ []), length-base n rs),
  head_is n (spelled rs ++ (gate ∷ begins.0)) bytes (behind_header n rs gate bytes begins),
)

version_of_base : (n version : ℕ) (rs : List (List ℕ)) (gate : ℕ) (bytes : List ℕ) → Begins (base n rs ++ gate ∷ []) bytes → IsOtherVersion version bytes → ⊥
version_of_base n version rs gate bytes begins other = other.2 (sym other.1 ∙ version_is n (spelled rs ++ (gate ∷ begins.0)) bytes (behind_header n rs gate bytes begins))

pub one_number : (n m : ℕ) (a b : List (List ℕ)) (c : List ℕ) → HasRecords n a c → HasRecords m b c → n ≡ m
one_number n m a b c one two =
    sym (number_is n (spelled a ++ (one.gate ∷ one.begins.0)) c (behind_header n a one.gate c one.begins) one.number)
    ∙ number_is m (spelled b ++ (two.gate ∷ two.begins.0)) c (behind_header m b two.gate c two.begins) two.number

-- two bad gates are one
one_bad : (place p q : ℕ) (a d : List (List ℕ)) (x y : List ℕ) → Fits place a → Fits place d → p ≡ place + length (spelled a) → q ≡ place + length (spelled d) → spelled a ++ (1 ∷ x) ≡ spelled d ++ (1 ∷ y) → Bad p x → Bad q y → p ≡ q
one_bad place p q [] [] x y fa fd at to is bp bq = omega arith
one_bad place p q [] (s ∷ d) x y fa fd at to is bp bq =
    let top = head_of d 1 y in
    let tails : x ≡ (body s ++ spelled d) ++ (1 ∷ y) = cc in
    let split : x ≡ body s ++ (top.0 ∷ top.1) = tails ∙ append_assoc (body s) (spelled d) (1 ∷ y) ∙ ap (λ (l : List ℕ). body s ++ l) top.2 in
    absurd (good p s top.1 x top.0 (let low = fd.0 in omega arith) fd.1 split bp)
one_bad place p q (r ∷ a) [] x y fa fd at to is bp bq =
    let top = head_of a 1 x in
    let tails : (body r ++ spelled a) ++ (1 ∷ x) ≡ y = cc in
    let split : y ≡ body r ++ (top.0 ∷ top.1) = sym tails ∙ append_assoc (body r) (spelled a) (1 ∷ x) ∙ ap (λ (l : List ℕ). body r ++ l) top.2 in
    absurd (good q r top.1 y top.0 (let low = fa.0 in omega arith) fa.1 split bq)
one_bad place p q (r ∷ a) (s ∷ d) x y fa fd at to is bp bq =
    let tails : (body r ++ spelled a) ++ (1 ∷ x) ≡ (body s ++ spelled d) ++ (1 ∷ y) = cc in
    let X = spelled a ++ (1 ∷ x) in
    let Y = spelled d ++ (1 ∷ y) in
    let split : body r ++ X ≡ body s ++ Y = sym (append_assoc (body r) (spelled a) (1 ∷ x)) ∙ tails ∙ append_assoc (body s) (spelled d) (1 ∷ y) in
    let same : r ≡ s = sym (body_read r X fa.1) ∙ ap (λ (l : List ℕ). take (from_be_bytes w32 (take 4 l)) (drop 4 l)) split ∙ body_read s Y fd.1 in
    let left : X ≡ Y = append_cancel_left (body r) X Y (split ∙ ap (λ (l : List ℕ). body l ++ Y) (sym same)) in
    let next : Fits (place + 5 + length r) d = subst (λ (l : List ℕ). Fits (place + 5 + length l) d) (sym same) fd.2 in
    one_bad (place + 5 + length r) p q a d x y fa.2 next (omega (arith, at, length-spelled-cons r a)) (omega (arith, to, length-spelled-cons s d, ap length same)) left bp bq

one_gate : (p q : ℕ) (b : List ℕ) → IsDamagedGate p b → IsDamagedGate q b → p ≡ q
one_gate p q b one two =
    let t = damaged_tail p b one in
    let u = damaged_tail q b two in
    one_bad 16 p q one.records two.records one.begins.0 two.begins.0 one.fits two.fits (omega (arith, one.place_is, length-base one.repository one.records)) (omega (arith, two.place_is, length-base two.repository two.records))
    (sym t.0 ∙ u.0) (bad_of p b one.begins.0 t.1 t.2 one.bad) (bad_of q b two.begins.0 u.1 u.2 two.bad)

damaged_head : (place : ℕ) (b : List ℕ) → IsDamagedGate place b → HasHead b
damaged_head place b bad = head_of_base bad.repository bad.records 1 b bad.begins

-- what bytes are, they are in one way
pub sound_or_damaged : (n place : ℕ) (rs : List (List ℕ)) (b : List ℕ) → HasRecords n rs b → IsDamagedAt place b → ⊥
sound_or_damaged n place rs b has (inl none) = none.1 (head_of_base n rs has.gate b has.begins)
sound_or_damaged n place rs b has (inr bad) = no_gate n place rs b has bad

pub sound_or_other : (n version : ℕ) (rs : List (List ℕ)) (b : List ℕ) → HasRecords n rs b → IsOtherVersion version b → ⊥
sound_or_other n version rs b has other = version_of_base n version rs has.gate b has.begins other

pub damaged_or_other : (place version : ℕ) (b : List ℕ) → IsDamagedAt place b → IsOtherVersion version b → ⊥
damaged_or_other place version b (inl none) other = none.1 other.0
damaged_or_other place version b (inr bad) other = version_of_base bad.repository version bad.records 1 b bad.begins other

pub one_place : (p q : ℕ) (b : List ℕ) → IsDamagedAt p b → IsDamagedAt q b → p ≡ q
one_place p q b (inl one) (inl two) = one.0 ∙ sym two.0
one_place p q b (inl one) (inr two) = absurd (one.1 (damaged_head q b two))
one_place p q b (inr one) (inl two) = absurd (two.1 (damaged_head p b one))
one_place p q b (inr one) (inr two) = one_gate p q b one two

pub one_version : (v w : ℕ) (b : List ℕ) → IsOtherVersion v b → IsOtherVersion w b → v ≡ w
one_version v w b one two = sym one.1 ∙ two.1
