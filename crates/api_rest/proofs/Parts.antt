-- What the parameters of a route take of a path that fits it is text.
use Rattle.std.proofs.Common.{◌≡◌, ℕ, zero, suc, ◌+◌, ◌-◌, ◌<◌, ◌≤◌, List, [], ◌∷◌, length, drop, take, get_or, Bool, true, false, cond, refl, sym, ap, ◌∙◌, subst, arith, ◌==◌, ltb, leb, ◌&&◌, ◌||◌, inl, inr, Some, IsUtf8, IsAscii, drop-drop, length-drop, get_or-drop}
use Rattle.std.proofs.lemmas.Bool.Decides.{nat_tests}
use Rattle.std.proofs.lemmas.Bool.{and_parts}
use Rattle.std.proofs.lemmas.List.{drop_all, take_rest}
use Rattle.std.proofs.lemmas.Str.{IsUtf8-nil, IsUtf8-take, IsUtf8-drop, IsUtf8-from_ascii, IsAscii-take, IsAscii-drop, IsCharBoundary-before_ascii, IsCharBoundary-after_ascii}
use Rattle.matchit.specs.Rows.{param_token}
use Rattle.matchit.specs.Seek.{has_slash, segment, slash}
use Rattle.matchit.specs.Params.{walk, wild_from, wild_stop, part_of, after_token, AllText}
use Rattle.std.specs.Cmp.Lexicographic.{bytes_decides}
use Rattle.matchit.specs.Rows.{RowsOf}
use Rattle.matchit.specs.Seek.{first, same_text}
use Rattle.matchit.specs.Router.{RouteOf}
use Rattle.api_rest.proofs.Found.{Fits, AllRows, found-all}

-- ---- tidy patterns: bytes of ASCII, and parameters that take the rest of their segment

abbrev pub ends_part : List ℕ → Bool
ends_part [] = true
ends_part (y ∷ t) = y == slash

abbrev pub is_tidy_token : ℕ → List ℕ → Bool
is_tidy_token x t = ltb x 128 || (x == param_token && ends_part t)

abbrev pub is_tidy : List ℕ → Bool
is_tidy [] = true
is_tidy (x ∷ t) = is_tidy_token x t && is_tidy t

abbrev pub is_ascii_text : List ℕ → Bool
is_ascii_text [] = true
is_ascii_text (b ∷ bs) = ltb b 128 && is_ascii_text bs

IsAscii-text : (bs : List ℕ) → is_ascii_text bs ≡ true → IsAscii bs
IsAscii-text [] h = λ i. omega arith
IsAscii-text (b ∷ bs) h =
    let r = and_parts (ltb b 128) (is_ascii_text bs) h in
    let small : b < 128 = grind (arith, nat_tests) in
    by small (IsAscii-text bs r.1)
  where
    by : b < 128 → IsAscii bs → (i : ℕ) → get_or (b ∷ bs) i 0 < 128
    by s r zero = s
    by s r (suc i) = r i

part_of-ascii : (text : List ℕ) (start end : ℕ) → IsAscii text → IsUtf8 (part_of text start end)
part_of-ascii text start end h =
    elim (leb start end && leb end (length text)) as (λ v. IsUtf8 (cond v (take (end - start) (drop start text)) [])) [
      | true ↦ IsUtf8-from_ascii _ (IsAscii-take (drop start text) (end - start) (IsAscii-drop text start h))
      | false ↦ IsUtf8-nil
    ]

-- ---- up to the next parameter

abbrev AtPart : List ℕ → Type 0
AtPart [] = Unit {0}
AtPart (x ∷ t) = x ≡ param_token

abbrev Arrives : List ℕ → List ℕ → ℕ → ℕ → ℕ → Type 0
Arrives q s len token at =
    (k : ℕ) × (wild_from q len token at ≡ (token + k, at + k)) × (k ≤ length s) × Fits (drop k q) (drop k s) × IsUtf8 (drop k s) × (is_tidy (drop k q) ≡ true) × AtPart (drop k q)

IsUtf8-behind : (b : ℕ) (bs : List ℕ) → b < 128 → IsUtf8 (b ∷ bs) → IsUtf8 bs
IsUtf8-behind b bs l u = IsUtf8-drop (b ∷ bs) 1 u (IsCharBoundary-after_ascii (b ∷ bs) 0 u (omega arith) l)

here : (q s : List ℕ) (len token at : ℕ) → wild_from q len token at ≡ (token, at) → Fits q s → IsUtf8 s → is_tidy q ≡ true → AtPart q → Arrives q s len token at
here q s len token at e f u d a =
    let t : token + 0 ≡ token = omega arith in
    let n : at + 0 ≡ at = omega arith in
    (0, rw (t, n) e, omega arith, f, u, d, a)

step-on : (x : ℕ) (q s rest : List ℕ) (len token at : ℕ) → x < 128 → s ≡ x ∷ rest → at + length s ≡ len
    → Arrives q rest len (token + 1) (at + 1) → Arrives (x ∷ q) s len token at
step-on x q s rest len token at l e n r =
    let small : ltb x param_token ≡ true = grind (arith, nat_tests) in
    let size : length s ≡ suc (length rest) = ap length e in
    let inside : ltb at len ≡ true = grind (arith, nat_tests) in
    let t : (token + 1) + r.0 ≡ token + suc r.0 = omega arith in
    let a : (at + 1) + r.0 ≡ at + suc r.0 = omega arith in
    let w : wild_from (x ∷ q) len token at ≡ (token + suc r.0, at + suc r.0) = rw (small, inside, ← t, ← a) r.1 in
    let k = r.2 in
    let d : drop (suc r.0) s ≡ drop r.0 rest = ap (drop (suc r.0)) e in
    (suc r.0, w, omega arith, subst (Fits (drop r.0 q)) (sym d) r.3, subst IsUtf8 (sym d) r.4, r.5, r.6)

arrives : (q s : List ℕ) (len token at : ℕ) → Fits q s → IsUtf8 s → at + length s ≡ len → is_tidy q ≡ true → Arrives q s len token at
arrives [] s len token at f u n d = here [] s len token at refl f u d tt
arrives (x ∷ q) s len token at f u n d = by (ltb x param_token) refl (and_parts (is_tidy_token x q) (is_tidy q) d) f (λ rest. arrives q rest len (token + 1) (at + 1))
  where
    by : (v : Bool) → ltb x param_token ≡ v → (is_tidy_token x q ≡ true) × (is_tidy q ≡ true) → Fits (x ∷ q) s
        → ((rest : List ℕ) → Fits q rest → IsUtf8 rest → (at + 1) + length rest ≡ len → is_tidy q ≡ true → Arrives q rest len (token + 1) (at + 1))
        → Arrives (x ∷ q) s len token at
    by true v t (inl (rest, e, g)) ih =
        let l : x < 128 = grind (arith, nat_tests) in
        let size : length s ≡ suc (length rest) = ap length e in
        step-on x q s rest len token at l e n (ih rest g (IsUtf8-behind x rest l (subst IsUtf8 e u)) (omega arith) t.1)
    by true v t (inr (inl g)) ih = let e = g.1 in absurd (grind (arith, nat_tests))
    by true v t (inr (inr e)) ih = absurd (grind (arith, nat_tests))
    by false v t g ih =
        let e : x ≡ param_token = grind (arith, nat_tests) in
        here (x ∷ q) s len token at (rw v refl) f u d e

-- ---- what a parameter takes

length-part : (n : ℕ) (s w : List ℕ) → has_slash (take n s) ≡ false → drop n s ≡ slash ∷ w → length (segment s) ≡ suc n
length-part zero [] w h e = cc
length-part zero (b ∷ s) w h e =
    let q : b ≡ slash = cc in
    let t : (b == slash) ≡ true = grind (arith, nat_tests) in
    rw t refl
length-part (suc n) [] w h e = cc
length-part (suc n) (b ∷ s) w h e = by (b == slash) refl h (length-part n s w)
  where
    by : (v : Bool) → (b == slash) ≡ v → cond v true (has_slash (take n s)) ≡ false
        → (has_slash (take n s) ≡ false → drop n s ≡ slash ∷ w → length (segment s) ≡ suc n) → length (cond v (b ∷ []) (b ∷ segment s)) ≡ suc (suc n)
    by true q h2 ih = cc
    by false q h2 ih = ap suc (ih h2 e)

abbrev Stops : List ℕ → List ℕ → ℕ → ℕ → ℕ → Type 0
Stops p path token at stop =
    IsUtf8 (part_of path at stop) × (stop ≤ length path) × Fits (drop (after_token token) p) (drop stop path) × IsUtf8 (drop stop path)
    × (is_tidy (drop (after_token token) p) ≡ true)

abbrev most : ℕ
most = 18446744073709551615

at-end : (p path : List ℕ) (token at : ℕ) → IsUtf8 (drop at path) → at ≤ length path → length p ≤ token + 1 → length p < most → Stops p path token at (wild_stop p token path at)
at-end p path token at u l e m =
    let last : ltb (token + 1) (length p) ≡ false = grind (arith, nat_tests) in
    let stop : wild_stop p token path at ≡ length path = grind (arith, nat_tests) in
    let a : leb at (length path) ≡ true = grind (arith, nat_tests) in
    let b : leb (length path) (length path) ≡ true = grind (arith, nat_tests) in
    let part : part_of path at (length path) ≡ drop at path = rw (a, b) (take_rest path at) in
    let none : drop (after_token token) p ≡ [] = drop_all (after_token token) p (omega arith) in
    let over : drop (length path) path ≡ [] = drop_all (length path) path (omega arith) in
    rw stop (subst IsUtf8 (sym part) u, omega arith, subst (λ q. Fits q (drop (length path) path)) (sym none) over, subst IsUtf8 (sym over) IsUtf8-nil, ap is_tidy none)

at-slash : (p path : List ℕ) (token at : ℕ) (y : ℕ) (t w : List ℕ) (n : ℕ) → IsUtf8 (drop at path) → at ≤ length path → token + 1 < length p → length p < most
    → get_or p token 0 ≡ param_token → drop (token + 1) p ≡ y ∷ t → y ≡ slash → is_tidy (y ∷ t) ≡ true → n ≤ length (drop at path) → has_slash (take n (drop at path)) ≡ false
    → drop n (drop at path) ≡ slash ∷ w → Fits (y ∷ t) (drop n (drop at path)) → Stops p path token at (wild_stop p token path at)
at-slash p path token at y t w n u l inside m param rest same tidy le free e f =
    let s = drop at path in
    let size : length s ≡ length path - at = length-drop at path in
    let seg : length (segment s) ≡ suc n = length-part n s w free e in
    let own : length (segment (drop (token + 1) p)) ≡ 1 = rw (rest, same) refl in
    let one : ltb token (length p) ≡ true = grind (arith, nat_tests) in
    let two : (get_or p token 0 == param_token) ≡ true = grind (arith, nat_tests) in
    let three : ltb (token + 1) (length p) ≡ true = grind (arith, nat_tests) in
    let count : (at + suc n) - 1 ≡ at + n = omega arith in
    let stop : wild_stop p token path at ≡ at + n = rw (one, two, three, seg, own) count in
    let more : length (drop n s) ≡ suc (length w) = ap length e in
    let left : length (drop n s) ≡ length s - n = length-drop n s in
    let a : leb at (at + n) ≡ true = grind (arith, nat_tests) in
    let b : leb (at + n) (length path) ≡ true = grind (arith, nat_tests) in
    let taken : (at + n) - at ≡ n = omega arith in
    let part : part_of path at (at + n) ≡ take n s = rw (a, b, taken) refl in
    let next : after_token token ≡ token + 1 = omega arith in
    let first : get_or s n 0 ≡ slash = (let plus : n + 0 ≡ n = omega arith in let g = get_or-drop n s 0 0 in sym (rw (plus, e) at g)) in
    let cut = IsCharBoundary-before_ascii s n (omega arith) (omega arith) in
    let on : drop (at + n) path ≡ drop n s = sym (drop-drop n at path) in
    rw (stop, next, rest, on) (subst IsUtf8 (sym part) (IsUtf8-take s n u cut), omega arith, f, IsUtf8-drop s n u cut, tidy)

-- a byte of the path is no parameter
byte-at : (path s : List ℕ) (at x : ℕ) (rest : List ℕ) → ((i : ℕ) → get_or path i 0 < 256) → drop at path ≡ s → s ≡ x ∷ rest → x < 256
byte-at path s at x rest small d e =
    let plus : at + 0 ≡ at = omega arith in
    let g = get_or-drop at path 0 0 in
    let h : x ≡ get_or path at 0 = rw (d, e, plus) at g in
    let l = small at in
    omega arith

stops : (p path q : List ℕ) (token at : ℕ) → ((i : ℕ) → get_or path i 0 < 256) → drop token p ≡ q → Fits q (drop at path) → IsUtf8 (drop at path) → at ≤ length path
    → is_tidy q ≡ true → AtPart q → length p < most → Stops p path token at (wild_stop p token path at)
stops p path [] token at small e f u l d a m =
    let size = length-drop token p in
    let none = ap length e in
    at-end p path token at u l (omega arith) m
stops p path (x ∷ []) token at small e f u l d a m =
    let size = length-drop token p in
    let one = ap length e in
    at-end p path token at u l (omega arith) m
stops p path (x ∷ (y ∷ t)) token at small e f u l d a m = by f (and_parts (is_tidy_token x (y ∷ t)) (is_tidy (y ∷ t)) d)
  where
    by : Fits (x ∷ (y ∷ t)) (drop at path) → (is_tidy_token x (y ∷ t) ≡ true) × (is_tidy (y ∷ t) ≡ true) → Stops p path token at (wild_stop p token path at)
    by (inl g) k = let h = byte-at path (drop at path) at x g.0 small refl g.1 in absurd (omega arith)
    by (inr (inr g)) k = absurd (omega arith)
    by (inr (inl g)) k = slashed g.4
      where
        same : y ≡ slash
        same = grind (arith, nat_tests)

        slashed : Fits (y ∷ t) (drop g.0 (drop at path)) → Stops p path token at (wild_stop p token path at)
        slashed (inl r) =
            let size = length-drop token p in
            let two = ap length e in
            let plus : token + 0 ≡ token = omega arith in
            let first = get_or-drop token p 0 0 in
            let param : get_or p token 0 ≡ param_token = cc in
            let rest : drop (token + 1) p ≡ y ∷ t = sym (drop-drop 1 token p) ∙ ap (drop 1) e in
            at-slash p path token at y t r.0 g.0 u l (omega arith) m param rest same k.1 g.2 g.3 (r.1 ∙ ap (λ b. b ∷ r.0) same) g.4
        slashed (inr (inl r)) = let h = r.1 in absurd (omega (arith, h, same))
        slashed (inr (inr r)) = absurd (omega (arith, r, same))

-- The parts of a path that fits a tidy pattern are text.
pub parts-text : (p text path : List ℕ) (names : List (ℕ × ℕ)) (token at : ℕ) → ((i : ℕ) → get_or path i 0 < 256) → IsAscii text → length p < most
    → Fits (drop token p) (drop at path) → IsUtf8 (drop at path) → at ≤ length path → is_tidy (drop token p) ≡ true → AllText (walk p text path names token at)
parts-text p text path [] token at small ascii m f u l d = tt
parts-text p text path (name ∷ names) token at small ascii m f u l d =
    let size = length-drop at path in
    let r = arrives (drop token p) (drop at path) (length path) token at f u (omega arith) d in
    let dp : drop r.0 (drop token p) ≡ drop (token + r.0) p = drop-drop r.0 token p in
    let da : drop r.0 (drop at path) ≡ drop (at + r.0) path = drop-drop r.0 at path in
    let le = r.2 in
    let s = stops p path (drop r.0 (drop token p)) (token + r.0) (at + r.0) small (sym dp) (subst (Fits (drop r.0 (drop token p))) da r.3) (subst IsUtf8 da r.4) (omega arith) r.5 r.6 m in
    let later = parts-text p text path names (after_token (token + r.0)) (wild_stop p (token + r.0) path (at + r.0)) small ascii m s.2 s.3 s.1 s.4 in
    rw r.1 (part_of-ascii text name.0 name.1 ascii, s.0, later)

-- ---- tables of tidy patterns

module _ {T : Type 0} where
  abbrev pub is_tidy_row : List ℕ → RouteOf T → Bool
  is_tidy_row t row = same_text t row.pattern && (is_tidy row.pattern && (is_ascii_text row.text && ltb (length row.pattern) most))

  abbrev pub are_tidy : RowsOf (RouteOf T) → Bool
  are_tidy [] = true
  are_tidy ((t, row) ∷ rows) = is_tidy_row t row && are_tidy rows

  -- the row's pattern is tidy, and the path fits it
  abbrev HasTidy : List ℕ → RouteOf T → Type 0
  HasTidy path row = Fits row.pattern path × (is_tidy row.pattern ≡ true) × IsAscii row.text × (length row.pattern < most)

  tidy-row : (path t : List ℕ) (row : RouteOf T) → is_tidy_row t row ≡ true → Fits t path → HasTidy path row
  tidy-row path t row h f =
      let a = and_parts (same_text t row.pattern) (is_tidy row.pattern && (is_ascii_text row.text && ltb (length row.pattern) most)) h in
      let b = and_parts (is_tidy row.pattern) (is_ascii_text row.text && ltb (length row.pattern) most) a.1 in
      let c = and_parts (is_ascii_text row.text) (ltb (length row.pattern) most) b.1 in
      let same : t ≡ row.pattern = (bytes_decides t row.pattern).0 a.0 in
      (subst (λ q. Fits q path) same f, b.0, IsAscii-text row.text c.0, grind (arith, nat_tests))

  tidy-rows : (path : List ℕ) (rows : RowsOf (RouteOf T)) → are_tidy rows ≡ true → AllRows (λ t row. Fits t path → HasTidy path row) rows
  tidy-rows path [] h = tt
  tidy-rows path ((t, row) ∷ rows) h =
      let r = and_parts (is_tidy_row t row) (are_tidy rows) h in
      (tidy-row path t row r.0, tidy-rows path rows r.1)

  -- The parts of a path that the route found for it takes are text.
  pub found-text : (rows : RowsOf (RouteOf T)) (path : List ℕ) (row : RouteOf T) → are_tidy rows ≡ true → ((i : ℕ) → get_or path i 0 < 256) → IsUtf8 path
      → first rows path ≡ Some row → AllText (walk row.pattern row.text path row.names 0 0)
  found-text rows path row h small u e =
      let found = found-all (HasTidy path) 0 rows path row (tidy-rows path rows h) e in
      parts-text row.pattern row.text path row.names 0 0 small found.2 found.3 found.0 u (omega arith) found.1
