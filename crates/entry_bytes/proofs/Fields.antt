-- Ids, texts and lists that are read and spelled.
use Rattle.std.proofs.Common.{◌≡◌, ℕ, ◌+◌, ◌*◌, ◌/◌, ◌%◌, ◌^◌, ◌<◌, ◌≤◌, Bool, true, false, cond, ltb, List, [], ◌∷◌, ◌++◌, length, take, drop, Option, Some, None, option_and_then, refl, sym, ap, ap₂, subst, ◌∙◌, append_assoc, arith, IsUtf8}
use Rattle.std.specs.Prelude.{⊤}
use Rattle.std.specs.List.{flat_map, All}
use Rattle.std.specs.Int.{w32, w64}
use Rattle.std.specs.Str.{is_utf8}
use Rattle.std.proofs.lemmas.Str.{IsUtf8-from_is_utf8, is_utf8-from_IsUtf8}
use Rattle.std.proofs.lemmas.Bool.{ltb-false, le-ltb}
use Rattle.std.proofs.lemmas.List.{take_at, drop_at, take-append-drop, length-append, length-take}
use Rattle.std.proofs.lemmas.List.Concat.{flat_map-cons}
use Rattle.std.proofs.lemmas.List.Elements.{All-from_recursion, recursion_from_All}
use Rattle.std.proofs.Math.Nat.{div-div-eq-div-mul}
use Rattle.api_records.specs.Spelling.{number_bytes, list_bytes, text_bytes, id_bytes}
use Rattle.api_records.proofs.Lengths.{length_id}
use Rattle.entry_bytes.specs.Sound.{IsId}
use Rattle.entry_bytes.specs.Reading.{Reader, both, number_at, id_at, repeated_at, list_at, bytes_at, slice_at, if_utf8, text_at}
use Rattle.entry_bytes.proofs.Parts.{rest_bytes, shorter, chained, some_is, unless, provided, Reads, both_reads, made_takes, made_again, judged_reads, repeated_takes, repeated_again, IsBelow, number_reads, wide32, wide64}

abbrev pub IsAny : {A : Type 0} → A → Type 0
IsAny a = ⊤

pub both_of : {A B : Type 0} {f : Reader A} {g : Reader B} {s : A → List ℕ} {t : B → List ℕ} {T F : A → Type 0} {U G : B → Type 0}
    → Reads f s T F → Reads g t U G → Reads (both f g) (λ x. s x.0 ++ t x.1) (λ x. T x.0 × U x.1) (λ x. F x.0 × G x.1)
both_of {f} {g} {s} {t} {T} {F} {U} {G} p q = both_reads f g s t T F U G p q

-- ---- ids

next : {x y : ℕ} {a b : List ℕ} → x ≡ y → a ≡ b → x ∷ a ≡ y ∷ b
next e f = ap₂ (λ (n : ℕ) (l : List ℕ). n ∷ l) e f

above : (h l : ℕ) → l < 2 ^ 64 → (h * 2 ^ 64 + l) / 2 ^ 64 ≡ h
above h l lt = omega arith

-- a byte of the first eight
upper : (h l p : ℕ) → l < 2 ^ 64 → (h * 2 ^ 64 + l) / (2 ^ 64 * p) % 256 ≡ h / p % 256
upper h l p lt = ap (λ (n : ℕ). n % 256) (sym (div-div-eq-div-mul (h * 2 ^ 64 + l) (2 ^ 64) p) ∙ ap (λ (n : ℕ). n / p) (above h l lt))

pub halves : (h l : ℕ) → h < 2 ^ 64 → l < 2 ^ 64 → id_bytes (h * 2 ^ 64 + l) ≡ number_bytes w64 h ++ number_bytes w64 l
unfolding number_bytes
halves h l hh ll =
    next (upper h l (256 ^ 7) ll) (
    next (upper h l (256 ^ 6) ll) (
    next (upper h l (256 ^ 5) ll) (
    next (upper h l (256 ^ 4) ll) (
    next (upper h l (256 ^ 3) ll) (
    next (upper h l (256 ^ 2) ll) (
    next (upper h l (256 ^ 1) ll) (
    next (ap (λ (n : ℕ). n % 256) (above h l ll)) (
    next (omega arith) (
    next (omega arith) (
    next (omega arith) (
    next (omega arith) (
    next (omega arith) (
    next (omega arith) (
    next (omega arith) (
    next (omega arith) (
    refl))))))))))))))))

number_32 : Reads (number_at w32) (number_bytes w32) (IsBelow (2 ^ 32)) (IsBelow (2 ^ 32))
number_32 = number_reads w32 (2 ^ 32) wide32

pub number_64 : Reads (number_at w64) (number_bytes w64) (IsBelow (2 ^ 64)) (IsBelow (2 ^ 64))
number_64 = number_reads w64 (2 ^ 64) wide64

abbrev two_at : Reader (ℕ × ℕ)
two_at = both (number_at w64) (number_at w64)

abbrev two_bytes : ℕ × ℕ → List ℕ
two_bytes x = number_bytes w64 x.0 ++ number_bytes w64 x.1

abbrev AreBelow : ℕ × ℕ → Type 0
AreBelow x = (x.0 < 2 ^ 64) × (x.1 < 2 ^ 64)

abbrev joined : ℕ × ℕ → ℕ
joined x = x.0 * 2 ^ 64 + x.1

two : Reads two_at two_bytes AreBelow AreBelow
two = both_of number_64 number_64

pub id_reads : Reads id_at id_bytes IsId IsId
id_reads = record {
  takes = λ bytes x fits e.
      let a = made_takes joined two_at two_bytes AreBelow AreBelow two bytes x fits e in
      let small : IsId (joined a.0) = omega (arith, a.3.0, a.3.1) in
      let parts : bytes ≡ id_bytes (joined a.0) ++ x.1 = a.2 ∙ ap (λ (l : List ℕ). l ++ x.1) (sym (halves a.0.0 a.0.1 a.3.0 a.3.1)) in
      subst (λ (n : ℕ). (bytes ≡ id_bytes n ++ x.1) × IsId n) a.1 (parts, small);
  again = λ n rest fits lt.
      let h : n / 2 ^ 64 < 2 ^ 64 = omega (arith, fits) in
      let l : n % 2 ^ 64 < 2 ^ 64 = omega arith in
      let is : n / 2 ^ 64 * 2 ^ 64 + n % 2 ^ 64 ≡ n = omega arith in
      let same : id_bytes n ≡ two_bytes (n / 2 ^ 64, n % 2 ^ 64) = ap id_bytes (sym is) ∙ halves (n / 2 ^ 64) (n % 2 ^ 64) h l in
      let read = made_again joined two_at two_bytes AreBelow AreBelow two (n / 2 ^ 64, n % 2 ^ 64) rest (h, l) (subst (λ (b : List ℕ). length (b ++ rest) < 2 ^ 32) same lt) in
      ap (λ (b : List ℕ). id_at (b ++ rest)) same ∙ read ∙ ap (λ (m : ℕ). Some (m, rest)) is;
}

-- ---- texts

pub slice_reads : Reads slice_at text_bytes IsAny IsAny
slice_reads = record {
  takes = λ bytes x fits e.
      let n = chained (λ (n : ℕ × List ℕ). bytes_at n.0 n.1) (number_at w32 bytes) x e in
      let first = number_32.takes bytes n.0 fits n.1 in
      let g = unless (ltb (length n.0.1) n.0.0) (Some (take n.0.0 n.0.1, drop n.0.0 n.0.1)) x n.2 in
      let long : n.0.0 ≤ length n.0.1 = ltb-false _ _ g.0 in
      let len : n.0.0 ≡ length (take n.0.0 n.0.1) = omega (arith, length-take n.0.0 n.0.1) in
      let parts : bytes ≡ text_bytes (take n.0.0 n.0.1) ++ drop n.0.0 n.0.1 =
      first.0
      ∙ ap (λ (l : List ℕ). number_bytes w32 n.0.0 ++ l) (sym (take-append-drop n.0.0 n.0.1))
      ∙ ap (λ (k : ℕ). number_bytes w32 k ++ (take n.0.0 n.0.1 ++ drop n.0.0 n.0.1)) len
      ∙ sym (append_assoc (number_bytes w32 (length (take n.0.0 n.0.1))) (take n.0.0 n.0.1) (drop n.0.0 n.0.1)) in
      subst (λ (y : List ℕ × List ℕ). (bytes ≡ text_bytes y.0 ++ y.1) × ⊤) (some_is (take n.0.0 n.0.1, drop n.0.0 n.0.1) x g.1) (parts, tt);
  again = λ s rest fits lt.
      let order : text_bytes s ++ rest ≡ number_bytes w32 (length s) ++ (s ++ rest) = append_assoc (number_bytes w32 (length s)) s rest in
      let all : length (number_bytes w32 (length s) ++ (s ++ rest)) < 2 ^ 32 = subst (λ (l : List ℕ). length l < 2 ^ 32) order lt in
      let short : length s < 2 ^ 32 = omega (arith, all, length-append (number_bytes w32 (length s)) (s ++ rest), length-append s rest) in
      let number = number_32.again (length s) (s ++ rest) short all in
      let long : ltb (length (s ++ rest)) (length s) ≡ false = le-ltb _ _ (omega (arith, length-append s rest)) in
      let behind : bytes_at (length s) (s ++ rest) ≡ Some (s, rest) = rw (long, take_at s rest (length s) refl, drop_at s rest (length s) refl) refl in
      ap slice_at order ∙ ap (λ (o : Option (ℕ × List ℕ)). option_and_then (λ (n : ℕ × List ℕ). bytes_at n.0 n.1) o) number ∙ behind;
}

utf8_right : (a b : List ℕ) → ⊤ → if_utf8 a ≡ Some b → (a ≡ b) × IsUtf8 b
utf8_right a b any e =
    let g = provided (is_utf8 a) a b e in
    (g.1, subst IsUtf8 g.1 (IsUtf8-from_is_utf8 a g.0))

pub utf8_again : (b : List ℕ) → IsUtf8 b → if_utf8 b ≡ Some b
utf8_again b h = ap (λ (t : Bool). cond t (Some b) None) (is_utf8-from_IsUtf8 b h)

refused : (b : List ℕ) (t : Bool) → is_utf8 b ≡ t → (IsUtf8 b → ⊥) → cond t (Some b) None ≡ None
refused b true e h = absurd (h (IsUtf8-from_is_utf8 b e))
refused b false e h = refl

pub utf8_none : (b : List ℕ) → (IsUtf8 b → ⊥) → if_utf8 b ≡ None
utf8_none b h = refused b (is_utf8 b) refl h

pub text_reads : Reads text_at text_bytes IsUtf8 IsUtf8
text_reads = judged_reads if_utf8 slice_at text_bytes IsAny IsAny slice_reads (λ b. b) IsUtf8 IsUtf8 utf8_right utf8_again (λ b fits lt. tt)

-- ---- lists

pub count_le : {A : Type 0} (s : A → List ℕ) → ((a : A) → 0 < length (s a)) → (xs : List A) → length xs ≤ length (flat_map s xs)
count_le s some [] = omega arith
count_le s some (a ∷ xs) = omega (arith, some a, count_le s some xs, length-append (s a) (flat_map s xs), ap length (flat_map-cons s a xs))

module _ {A : Type 0} (f : Reader A) (s : A → List ℕ) (T F : A → Type 0) (p : Reads f s T F) (some : (a : A) → 0 < length (s a)) where
  pub list_reads : Reads (list_at f) (list_bytes s) (λ xs. All T xs × (length xs < 2 ^ 32)) (λ xs. All F xs)
  list_reads = record {
    takes = λ bytes x fits e.
        let n = chained (λ (n : ℕ × List ℕ). repeated_at f n.0 n.1) (number_at w32 bytes) x e in
        let first = number_32.takes bytes n.0 fits n.1 in
        let others = repeated_takes f s T F p n.0.0 n.0.1 x (rest_bytes bytes (number_bytes w32 n.0.0) n.0.1 fits first.0) n.2 in
        let parts : bytes ≡ list_bytes s x.0 ++ x.1 =
        first.0
        ∙ ap (λ (l : List ℕ). number_bytes w32 n.0.0 ++ l) others.0
        ∙ ap (λ (k : ℕ). number_bytes w32 k ++ (flat_map s x.0 ++ x.1)) (sym others.1)
        ∙ sym (append_assoc (number_bytes w32 (length x.0)) (flat_map s x.0) x.1) in
        (parts, (All-from_recursion T x.0 others.2, omega (arith, others.1, first.1)));
    again = λ xs rest fits lt.
        let order : list_bytes s xs ++ rest ≡ number_bytes w32 (length xs) ++ (flat_map s xs ++ rest) = append_assoc (number_bytes w32 (length xs)) (flat_map s xs) rest in
        let all : length (number_bytes w32 (length xs) ++ (flat_map s xs ++ rest)) < 2 ^ 32 = subst (λ (l : List ℕ). length l < 2 ^ 32) order lt in
        let behind : length (flat_map s xs ++ rest) < 2 ^ 32 = shorter (number_bytes w32 (length xs)) (flat_map s xs ++ rest) (2 ^ 32) all in
        let few : length xs < 2 ^ 32 = omega (arith, behind, length-append (flat_map s xs) rest, count_le s some xs) in
        ap (list_at f) order
        ∙ ap (λ (o : Option (ℕ × List ℕ)). option_and_then (λ (n : ℕ × List ℕ). repeated_at f n.0 n.1) o) (number_32.again (length xs) (flat_map s xs ++ rest) few all)
        ∙ repeated_again f s T F p xs rest (recursion_from_All F xs fits) behind;
  }

pub id_some : (n : ℕ) → 0 < length (id_bytes n)
id_some n = omega (arith, length_id n)

-- a list whose bytes are few has few members
pub ids_few : (ns : List ℕ) → length (list_bytes id_bytes ns) < 2 ^ 32 → length ns < 2 ^ 32
ids_few ns lt = omega (arith, lt, count_le id_bytes id_some ns, length-append (number_bytes w32 (length ns)) (flat_map id_bytes ns))
