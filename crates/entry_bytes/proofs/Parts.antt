-- A part that is read is the part that was spelled, and what was spelled is read again.
use Rattle.std.proofs.Common.{◌≡◌, inl, inr, ℕ, zero, suc, ◌+◌, ◌^◌, ◌<◌, ◌≤◌, Bool, true, false, cond, ltb, List, [], ◌∷◌, ◌++◌, length, get_or, take, drop, Option, Some, None, option_map, option_and_then, IfSome, refl, sym, ap, subst, ◌∙◌, append_assoc, arith}
use Rattle.std.specs.List.{flat_map, AllByRecursion}
use Rattle.std.specs.Int.{Width, w32, w64, byte_len, from_be_bytes, to_be_bytes}
use Rattle.std.proofs.lemmas.Bool.{cases_lt, ltb-false, le-ltb}
use Rattle.std.proofs.lemmas.List.{take_at, drop_at, take-append-drop, length-append, length-take, get_or-take, get_or_past, get_or-append-add}
use Rattle.std.proofs.lemmas.List.Concat.{flat_map-cons}
use Rattle.std.proofs.lemmas.Nat.{be_bytes_4, be_bytes_8, from_be_bytes-to_be_bytes_4, from_be_bytes-to_be_bytes_8}
use Rattle.api_records.specs.Spelling.{number_bytes, optional}
use Rattle.entry_bytes.specs.Reading.{Reader, both, made, judged, number_at, optional_at, repeated_at}

-- ---- bytes

abbrev pub IsBytes : List ℕ → Type 0
IsBytes bytes = (i : ℕ) → get_or bytes i 0 < 256

bytes_behind : (x y : List ℕ) → IsBytes (x ++ y) → IsBytes y
bytes_behind x y h i = subst (λ (b : ℕ). b < 256) (get_or-append-add x y i 0) (h (length x + i))

pub rest_bytes : (bytes x y : List ℕ) → IsBytes bytes → bytes ≡ x ++ y → IsBytes y
rest_bytes bytes x y h e = bytes_behind x y (subst IsBytes e h)

take_bytes : (n : ℕ) (bytes : List ℕ) → IsBytes bytes → IsBytes (take n bytes)
take_bytes n bytes h i =
    elim (cases_lt i n) [
      | inl lt ↦ rw (get_or-take n bytes i 0 lt) (h i)
      | inr le ↦ rw (get_or_past (take n bytes) i 0 (omega (arith, length-take n bytes))) (omega arith)
    ]

pub shorter : (x y : List ℕ) (n : ℕ) → length (x ++ y) < n → length y < n
shorter x y n lt = omega (arith, length-append x y)

-- ---- what a step that gave something gave

pub chained : {A B : Type 0} (f : A → Option B) (o : Option A) (y : B) → option_and_then f o ≡ Some y → (x : A) × (o ≡ Some x) × (f x ≡ Some y)
chained f None y e = absurd cc
chained f (Some x) y e = (x, refl, e)

pub some_is : {A : Type 0} (x y : A) → (let s : Option A = Some x in s) ≡ Some y → x ≡ y
some_is x y e = cc

pub mapped : {A B : Type 0} (f : A → B) (o : Option A) (y : B) → option_map f o ≡ Some y → (x : A) × (o ≡ Some x) × (f x ≡ y)
mapped f None y e = absurd cc
mapped f (Some x) y e = (x, refl, some_is (f x) y e)

pub unless : {A : Type 0} (b : Bool) (x : Option A) (y : A) → cond b None x ≡ Some y → (b ≡ false) × (x ≡ Some y)
unless true x y e = absurd cc
unless false x y e = (refl, e)

pub provided : {A : Type 0} (b : Bool) (x y : A) → cond b (Some x) None ≡ Some y → (b ≡ true) × (x ≡ y)
provided true x y e = (refl, some_is x y e)
provided false x y e = absurd cc

-- ---- readers

-- What is read is spelled so, and is `Taken`. What is spelled so and fits is read again, whatever follows.
pub record Reads {A : Type 0} (at : Reader A) (spell : A → List ℕ) (Taken Fits : A → Type 0) : Type 0 where
  pub takes : (bytes : List ℕ) (x : A × List ℕ) → IsBytes bytes → at bytes ≡ Some x → (bytes ≡ spell x.0 ++ x.1) × Taken x.0
  pub again : (a : A) (rest : List ℕ) → Fits a → length (spell a ++ rest) < 2 ^ 32 → at (spell a ++ rest) ≡ Some (a, rest)

module _ {A B : Type 0} (f : Reader A) (g : Reader B) (s : A → List ℕ) (t : B → List ℕ) (T F : A → Type 0) (U G : B → Type 0) where
  pub both_reads : Reads f s T F → Reads g t U G → Reads (both f g) (λ x. s x.0 ++ t x.1) (λ x. T x.0 × U x.1) (λ x. F x.0 × G x.1)
  both_reads p q = record {
    takes = λ bytes x fits e.
        let a = chained (λ (x : A × List ℕ). option_map (λ (y : B × List ℕ). ((x.0, y.0), y.1)) (g x.1)) (f bytes) x e in
        let b = mapped (λ (y : B × List ℕ). ((a.0.0, y.0), y.1)) (g a.0.1) x a.2 in
        let first = p.takes bytes a.0 fits a.1 in
        let second = q.takes a.0.1 b.0 (rest_bytes bytes (s a.0.0) a.0.1 fits first.0) b.1 in
        let parts : bytes ≡ (s a.0.0 ++ t b.0.0) ++ b.0.1 = first.0 ∙ ap (λ (l : List ℕ). s a.0.0 ++ l) second.0 ∙ sym (append_assoc (s a.0.0) (t b.0.0) b.0.1) in
        subst (λ (y : (A × B) × List ℕ). (bytes ≡ (s y.0.0 ++ t y.0.1) ++ y.1) × (T y.0.0 × U y.0.1)) b.2 (parts, (first.1, second.1));
    again = λ x rest fits lt.
        let order : (s x.0 ++ t x.1) ++ rest ≡ s x.0 ++ (t x.1 ++ rest) = append_assoc (s x.0) (t x.1) rest in
        let all : length (s x.0 ++ (t x.1 ++ rest)) < 2 ^ 32 = subst (λ (l : List ℕ). length l < 2 ^ 32) order lt in
        let first : f (s x.0 ++ (t x.1 ++ rest)) ≡ Some (x.0, t x.1 ++ rest) = p.again x.0 (t x.1 ++ rest) fits.0 all in
        let second : g (t x.1 ++ rest) ≡ Some (x.1, rest) = q.again x.1 rest fits.1 (shorter (s x.0) (t x.1 ++ rest) (2 ^ 32) all) in
        ap (both f g) order
        ∙ ap (λ (o : Option (A × List ℕ)). option_and_then (λ (x : A × List ℕ). option_map (λ (y : B × List ℕ). ((x.0, y.0), y.1)) (g x.1)) o) first
        ∙ ap (λ (o : Option (B × List ℕ)). option_map (λ (y : B × List ℕ). ((x.0, y.0), y.1)) o) second;
  }

-- what is made of a part
module _ {A B : Type 0} (make : A → B) (f : Reader A) (s : A → List ℕ) (T F : A → Type 0) (p : Reads f s T F) where
  pub made_takes : (bytes : List ℕ) (x : B × List ℕ) → IsBytes bytes → made make f bytes ≡ Some x → (a : A) × (make a ≡ x.0) × (bytes ≡ s a ++ x.1) × T a
  made_takes bytes x fits e =
      let a = mapped (λ (x : A × List ℕ). (make x.0, x.1)) (f bytes) x e in
      let whole = p.takes bytes a.0 fits a.1 in
      (a.0.0, ap (λ (y : B × List ℕ). y.0) a.2, subst (λ (y : B × List ℕ). bytes ≡ s a.0.0 ++ y.1) a.2 whole.0, whole.1)

  pub made_again : (a : A) (rest : List ℕ) → F a → length (s a ++ rest) < 2 ^ 32 → made make f (s a ++ rest) ≡ Some (make a, rest)
  made_again a rest fits lt = ap (λ (o : Option (A × List ℕ)). option_map (λ (x : A × List ℕ). (make x.0, x.1)) o) (p.again a rest fits lt)

-- what is judged
module _ {A B : Type 0} (judge : A → Option B) (f : Reader A) (s : A → List ℕ) (T F : A → Type 0) (p : Reads f s T F) (back : B → A) (U G : B → Type 0) where
  pub judged_reads : ((a : A) (b : B) → T a → judge a ≡ Some b → (a ≡ back b) × U b) → ((b : B) → G b → judge (back b) ≡ Some b) → ((b : B) → G b → length (s (back b)) < 2 ^ 32 → F (back b))
      → Reads (judged judge f) (λ b. s (back b)) U G
  judged_reads right again fit = record {
    takes = λ bytes x fits e.
        let a = chained (λ (x : A × List ℕ). option_map (λ (b : B). (b, x.1)) (judge x.0)) (f bytes) x e in
        let b = mapped (λ (b : B). (b, a.0.1)) (judge a.0.0) x a.2 in
        let whole = p.takes bytes a.0 fits a.1 in
        let is = right a.0.0 b.0 whole.1 b.1 in
        subst (λ (y : B × List ℕ). (bytes ≡ s (back y.0) ++ y.1) × U y.0) b.2 (whole.0 ∙ ap (λ (x : A). s x ++ a.0.1) is.0, is.1);
    again = λ b rest fits lt.
        ap (λ (o : Option (A × List ℕ)). option_and_then (λ (x : A × List ℕ). option_map (λ (b : B). (b, x.1)) (judge x.0)) o) (p.again (back b) rest (fit b fits (omega (arith, length-append (s (back b)) rest))) lt)
        ∙ ap (λ (o : Option B). option_map (λ (b : B). (b, rest)) o) (again b fits);
  }

-- ---- optional parts and lists

one_rest : (b : ℕ) (bytes : List ℕ) → IsBytes (b ∷ bytes) → IsBytes bytes
one_rest b bytes h i = h (suc i)

module _ {A : Type 0} (f : Reader A) (s : A → List ℕ) (T F : A → Type 0) (p : Reads f s T F) where
  optional_takes : (bytes : List ℕ) (x : Option A × List ℕ) → IsBytes bytes → optional_at f bytes ≡ Some x → (bytes ≡ optional s x.0 ++ x.1) × IfSome x.0 T
  optional_takes [] x fits e = absurd cc
  optional_takes (zero ∷ bytes) x fits e =
      subst (λ (y : Option A × List ℕ). (0 ∷ bytes ≡ optional s y.0 ++ y.1) × IfSome y.0 T) (some_is (None, bytes) x e) (refl, tt)
  optional_takes (suc zero ∷ bytes) x fits e =
      let a = made_takes Some f s T F p bytes x (one_rest 1 bytes fits) e in
      subst (λ (o : Option A). (1 ∷ bytes ≡ optional s o ++ x.1) × IfSome o T) a.1 (ap (λ (l : List ℕ). 1 ∷ l) a.2, a.3)
  optional_takes (suc (suc b) ∷ bytes) x fits e = absurd cc

  optional_again : (o : Option A) (rest : List ℕ) → IfSome o F → length (optional s o ++ rest) < 2 ^ 32 → optional_at f (optional s o ++ rest) ≡ Some (o, rest)
  optional_again None rest fits lt = refl
  optional_again (Some a) rest fits lt = made_again Some f s T F p a rest fits (shorter (1 ∷ []) (s a ++ rest) (2 ^ 32) lt)

  pub optional_reads : Reads (optional_at f) (optional s) (λ o. IfSome o T) (λ o. IfSome o F)
  optional_reads = record { takes = optional_takes; again = optional_again }

  pub repeated_takes : (n : ℕ) (bytes : List ℕ) (x : List A × List ℕ) → IsBytes bytes → repeated_at f n bytes ≡ Some x → (bytes ≡ flat_map s x.0 ++ x.1) × (length x.0 ≡ n) × AllByRecursion T x.0
  repeated_takes zero bytes x fits e =
      subst (λ (y : List A × List ℕ). (bytes ≡ flat_map s y.0 ++ y.1) × (length y.0 ≡ 0) × AllByRecursion T y.0) (some_is ([], bytes) x e) (refl, refl, tt)
  repeated_takes (suc n) bytes x fits e =
      let z = mapped (λ (y : (A × List A) × List ℕ). (y.0.0 ∷ y.0.1, y.1)) (both f (repeated_at f n) bytes) x e in
      let a = chained (λ (x : A × List ℕ). option_map (λ (y : List A × List ℕ). ((x.0, y.0), y.1)) (repeated_at f n x.1)) (f bytes) z.0 z.1 in
      let b = mapped (λ (y : List A × List ℕ). ((a.0.0, y.0), y.1)) (repeated_at f n a.0.1) z.0 a.2 in
      let first = p.takes bytes a.0 fits a.1 in
      let others = repeated_takes n a.0.1 b.0 (rest_bytes bytes (s a.0.0) a.0.1 fits first.0) b.1 in
      let parts : bytes ≡ flat_map s (a.0.0 ∷ b.0.0) ++ b.0.1 =
      first.0 ∙ ap (λ (l : List ℕ). s a.0.0 ++ l) others.0 ∙ sym (append_assoc (s a.0.0) (flat_map s b.0.0) b.0.1) ∙ ap (λ (l : List ℕ). l ++ b.0.1) (sym (flat_map-cons s a.0.0 b.0.0)) in
      let made : (a.0.0 ∷ b.0.0, b.0.1) ≡ x = ap (λ (y : (A × List A) × List ℕ). (y.0.0 ∷ y.0.1, y.1)) b.2 ∙ z.2 in
      subst (λ (y : List A × List ℕ). (bytes ≡ flat_map s y.0 ++ y.1) × (length y.0 ≡ suc n) × AllByRecursion T y.0) made (parts, ap suc others.1, (first.1, others.2))

  pub repeated_again : (xs : List A) (rest : List ℕ) → AllByRecursion F xs → length (flat_map s xs ++ rest) < 2 ^ 32 → repeated_at f (length xs) (flat_map s xs ++ rest) ≡ Some (xs, rest)
  repeated_again [] rest fits lt = refl
  repeated_again (a ∷ xs) rest fits lt =
      let order : flat_map s (a ∷ xs) ++ rest ≡ s a ++ (flat_map s xs ++ rest) = ap (λ (l : List ℕ). l ++ rest) (flat_map-cons s a xs) ∙ append_assoc (s a) (flat_map s xs) rest in
      let all : length (s a ++ (flat_map s xs ++ rest)) < 2 ^ 32 = subst (λ (l : List ℕ). length l < 2 ^ 32) order lt in
      let first : f (s a ++ (flat_map s xs ++ rest)) ≡ Some (a, flat_map s xs ++ rest) = p.again a (flat_map s xs ++ rest) fits.0 all in
      let others : repeated_at f (length xs) (flat_map s xs ++ rest) ≡ Some (xs, rest) = repeated_again xs rest fits.1 (shorter (s a) (flat_map s xs ++ rest) (2 ^ 32) all) in
      ap (repeated_at f (suc (length xs))) order
      ∙ ap (λ (o : Option (A × List ℕ)). option_map (λ (x : (A × List A) × List ℕ). (x.0.0 ∷ x.0.1, x.1)) (option_and_then (λ (x : A × List ℕ). option_map (λ (y : List A × List ℕ). ((x.0, y.0), y.1)) (repeated_at f (length xs) x.1)) o)) first
      ∙ ap (λ (o : Option (List A × List ℕ)). option_map (λ (x : (A × List A) × List ℕ). (x.0.0 ∷ x.0.1, x.1)) (option_map (λ (y : List A × List ℕ). ((a, y.0), y.1)) o)) others

-- ---- numbers

pub record IsWide (w : Width) (limit : ℕ) : Type 0 where
  pub len : (n : ℕ) → length (to_be_bytes w n) ≡ byte_len w
  pub back : (bytes : List ℕ) → length bytes ≡ byte_len w → IsBytes bytes → to_be_bytes w (from_be_bytes w bytes) ≡ bytes
  pub again : (n : ℕ) → n < limit → from_be_bytes w (to_be_bytes w n) ≡ n
  pub below : (bytes : List ℕ) → IsBytes bytes → from_be_bytes w bytes < limit

pub wide32 : IsWide w32 (2 ^ 32)
wide32 = record {
  len = λ n. refl;
  back = λ bytes len fits. be_bytes_4 bytes _ len fits refl;
  again = λ n lt. from_be_bytes-to_be_bytes_4 n lt;
  below = λ bytes fits. omega (arith, fits 0, fits 1, fits 2, fits 3);
}

pub wide64 : IsWide w64 (2 ^ 64)
wide64 = record {
  len = λ n. refl;
  back = λ bytes len fits. be_bytes_8 bytes _ len fits refl;
  again = λ n lt. from_be_bytes-to_be_bytes_8 n lt;
  below = λ bytes fits. omega (arith, fits 0, fits 1, fits 2, fits 3, fits 4, fits 5, fits 6, fits 7);
}

abbrev pub IsBelow : ℕ → ℕ → Type 0
IsBelow limit n = n < limit

pub number_reads : (w : Width) (limit : ℕ) → IsWide w limit → Reads (number_at w) (number_bytes w) (IsBelow limit) (IsBelow limit)
unfolding number_at number_bytes
number_reads w limit wide = record {
  takes = λ bytes x fits e.
      let g = unless (ltb (length bytes) (byte_len w)) (Some (from_be_bytes w (take (byte_len w) bytes), drop (byte_len w) bytes)) x e in
      let long : byte_len w ≤ length bytes = ltb-false _ _ g.0 in
      let front : to_be_bytes w (from_be_bytes w (take (byte_len w) bytes)) ≡ take (byte_len w) bytes = wide.back (take (byte_len w) bytes) (omega (arith, length-take (byte_len w) bytes)) (take_bytes (byte_len w) bytes fits) in
      let parts : bytes ≡ to_be_bytes w (from_be_bytes w (take (byte_len w) bytes)) ++ drop (byte_len w) bytes = sym (ap (λ (l : List ℕ). l ++ drop (byte_len w) bytes) front ∙ take-append-drop (byte_len w) bytes) in
      subst (λ (y : ℕ × List ℕ). (bytes ≡ to_be_bytes w y.0 ++ y.1) × (y.0 < limit)) (some_is (from_be_bytes w (take (byte_len w) bytes), drop (byte_len w) bytes) x g.1) (parts, wide.below (take (byte_len w) bytes) (take_bytes (byte_len w) bytes fits));
  again = λ n rest lt all.
      let len = wide.len n in
      let long : ltb (length (to_be_bytes w n ++ rest)) (byte_len w) ≡ false = le-ltb _ _ (omega (arith, length-append (to_be_bytes w n) rest)) in
      rw (long, take_at (to_be_bytes w n) rest (byte_len w) len, drop_at (to_be_bytes w n) rest (byte_len w) len, wide.again n lt) refl;
}
