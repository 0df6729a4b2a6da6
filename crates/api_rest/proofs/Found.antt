-- A path that has a route is the route's pattern with a part of the path in the place of each parameter.
use Rattle.std.proofs.Common.{◌≡◌, ℕ, zero, suc, ◌-◌, ◌<◌, ◌≤◌, List, [], ◌∷◌, length, drop, take, Option, Some, None, Bool, true, false, cond, refl, ap, ◌∙◌, subst, arith, ◌==◌, ltb, ◌&&◌, ◌⊎◌, inl, inr}
use Rattle.std.proofs.lemmas.Bool.Decides.{nat_tests}
use Rattle.std.proofs.lemmas.List.{take_all}
use Rattle.matchit.specs.Rows.{RowsOf, param_token, catch_all_token}
use Rattle.matchit.specs.Seek.{seek, own, step, or_else, param_step, has_slash, segment, slash, cuts, better, longest_from, longest_suffix, with_suffix, same_text}
use Rattle.matchit.proofs.ParamLemmas.{length-segment}

-- the path begins with this token, and the rest is as P says
abbrev pub Literal : ℕ → (List ℕ → Type 0) → List ℕ → Type 0
Literal x P path = (rest : List ℕ) × (path ≡ x ∷ rest) × P rest

-- the token is a parameter, which takes some bytes with no slash, and the rest is as P says
abbrev pub Part : ℕ → (List ℕ → Type 0) → List ℕ → Type 0
Part x P path = (n : ℕ) × (x ≡ param_token) × (n ≤ length path) × (has_slash (take n path) ≡ false) × P (drop n path)

abbrev pub Fits : List ℕ → List ℕ → Type 0
Fits [] path = path ≡ []
Fits (x ∷ t) path = Literal x (Fits t) path ⊎ (Part x (Fits t) path ⊎ (x ≡ catch_all_token))

-- ---- what a parameter takes

no_slash : (p : List ℕ) (n : ℕ) → n < length (segment p) → has_slash (take n p) ≡ false
no_slash p zero l = refl
no_slash [] (suc n) l = refl
no_slash (x ∷ p) (suc n) l = by (x == slash) refl l (no_slash p n)
  where
    by : (v : Bool) → (x == slash) ≡ v → suc n < length (cond v (x ∷ []) (x ∷ segment p))
        → (n < length (segment p) → has_slash (take n p) ≡ false) → has_slash (x ∷ take n p) ≡ false
    by true q l2 r = absurd (omega arith)
    by false q l2 r = rw q (r (omega arith))

segment-some : (b : ℕ) (p : List ℕ) → 0 < length (segment (b ∷ p))
segment-some b p =
    elim (b == slash) as (λ v. 0 < length (cond v (b ∷ []) (b ∷ segment p))) [
      | true ↦ omega arith
      | false ↦ omega arith
    ]

better-shorter : (seg best s : List ℕ) → length best < length seg → length (better seg best s) < length seg
better-shorter seg best s h = by (ltb (length best) (length s) && cuts seg s) refl
  where
    by : (v : Bool) → (ltb (length best) (length s) && cuts seg s) ≡ v → length (cond v s best) < length seg
    by true q = grind (arith, nat_tests)
    by false q = h

or_else-some : {K : Type 0} (x y : Option K) (k : K) → or_else x y ≡ Some k → (x ≡ Some k) ⊎ (y ≡ Some k)
or_else-some None y k e = inr e
or_else-some (Some j) y k e = inl e

module _ {K : Type 0} where
  abbrev pub AllRows : (List ℕ → K → Type 0) → RowsOf K → Type 0
  AllRows P [] = Unit {0}
  AllRows P ((t, k) ∷ rest) = P t k × AllRows P rest

  longest-shorter : (seg best : List ℕ) (rows : RowsOf K) → length best < length seg → length (longest_from seg best rows) < length seg
  longest-shorter seg best [] h = h
  longest-shorter seg best ((t, k) ∷ rows) h = longest-shorter seg (better seg best (segment t)) rows (better-shorter seg best (segment t) h)

  own-all : (Q : K → Type 0) (rows : RowsOf K) (k : K) → AllRows (λ t j. Fits t [] → Q j) rows → own rows ≡ Some k → Q k
  own-all Q [] k h e = cc
  own-all Q (([], j) ∷ rows) k h e = let q : j ≡ k = cc in subst Q q (h.0 refl)
  own-all Q ((x ∷ t, j) ∷ rows) k h e = own-all Q rows k h.1 e

  module _ (P R : List ℕ → K → Type 0) where
    step-all : (b : ℕ) (rows : RowsOf K) → ((t : List ℕ) (k : K) → P (b ∷ t) k → R t k) → AllRows P rows → AllRows R (step b rows)
    step-all b [] f h = tt
    step-all b (([], k) ∷ rows) f h = step-all b rows f h.1
    step-all b ((x ∷ t, k) ∷ rows) f h = by (x == b) refl (step-all b rows f h.1)
      where
        by : (v : Bool) → (x == b) ≡ v → AllRows R (step b rows) → AllRows R (cond v ((t, k) ∷ step b rows) (step b rows))
        by true q r =
            let e : x ≡ b = grind (arith, nat_tests) in
            (f t k (subst (λ y. P (y ∷ t) k) e h.0), r)
        by false q r = r

  suffix-all : (P : List ℕ → K → Type 0) (s : List ℕ) (rows : RowsOf K) → AllRows P rows → AllRows P (with_suffix s rows)
  suffix-all P s [] h = tt
  suffix-all P s ((t, k) ∷ rows) h =
      let r = suffix-all P s rows h.1 in
      elim (same_text (segment t) s) as (λ v. AllRows P (cond v ((t, k) ∷ with_suffix s rows) (with_suffix s rows))) [
        | true ↦ (h.0, r)
        | false ↦ r
      ]

  module _ (Q : K → Type 0) where
    -- the rows behind a parameter that takes this many bytes and one more
    part-all : (rows : RowsOf K) (b : ℕ) (path : List ℕ) (m : ℕ) → suc m ≤ length (b ∷ path) → has_slash (take (suc m) (b ∷ path)) ≡ false
        → AllRows (λ t j. Fits t (b ∷ path) → Q j) rows → AllRows (λ t j. Fits t (drop m path) → Q j) (step param_token rows)
    part-all rows b path m l s h =
        step-all (λ t j. Fits t (b ∷ path) → Q j) (λ t j. Fits t (drop m path) → Q j) param_token rows (λ t j p f. p (inr (inl (suc m, refl, l, s, f)))) h

    -- these rows, behind a parameter that takes so many bytes
    abbrev After : List ℕ → ℕ × RowsOf K → Type 0
    After path next = AllRows (λ t j. Fits t (drop (next.0 - 1) path) → Q j) next.1

    after-all : (rows : RowsOf K) (b : ℕ) (path : List ℕ) → AllRows (λ t j. Fits t (b ∷ path) → Q j) rows → After path (param_step (step param_token rows) (b ∷ path))
    unfolding param_step
    after-all rows b path h = by (ltb 0 (length longest)) refl
      where
        seg : List ℕ
        seg = segment (b ∷ path)

        later : RowsOf K
        later = step param_token rows

        longest : List ℕ
        longest = longest_suffix seg later

        whole : (v : Bool) → has_slash (b ∷ path) ≡ v → After path (cond v (0, []) (length (b ∷ path), later))
        whole true q = tt
        whole false q =
            let m = length (b ∷ path) - 1 in
            let n : suc m ≡ length (b ∷ path) = omega arith in
            let s : has_slash (take (suc m) (b ∷ path)) ≡ false = ap has_slash (take_all (suc m) (b ∷ path) (omega arith)) ∙ q in
            part-all rows b path m (omega arith) s h

        by : (v : Bool) → ltb 0 (length longest) ≡ v
            → After path (cond v (length seg - length longest, with_suffix longest later) (cond (has_slash (b ∷ path)) (0, []) (length (b ∷ path), later)))
        by true q =
            let m = (length seg - length longest) - 1 in
            let some : 0 < length longest = grind (arith, nat_tests) in
            let short = longest-shorter seg [] later (segment-some b path) in
            let fits = length-segment (b ∷ path) in
            suffix-all (λ t j. Fits t (drop m path) → Q j) longest later (part-all rows b path m (omega arith) (no_slash (b ∷ path) (suc m) (omega arith)) h)
        by false q = whole (has_slash (b ∷ path)) refl

    -- what holds of each route whose pattern a path fits holds of the route that is found for it
    pub found-all : (skip : ℕ) (rows : RowsOf K) (path : List ℕ) (k : K) → AllRows (λ t j. Fits t (drop skip path) → Q j) rows → seek skip rows path ≡ Some k → Q k
    unfolding seek
    found-all zero rows [] k h e = own-all Q rows k h e
    found-all (suc n) rows [] k h e = own-all Q rows k h e
    found-all (suc n) rows (b ∷ path) k h e = found-all n rows path k h e
    found-all zero rows (b ∷ path) k h e =
        elim (or_else-some _ _ k e) [
          | inl literal ↦ found-all 0 (step b rows) path k (step-all P (λ t j. Fits t path → Q j) b rows (λ t j p f. p (inl (path, refl, f))) h) literal
          | inr other ↦ elim (or_else-some _ _ k other) [
            | inl part ↦ found-all _ _ path k (after-all rows b path h) part
            | inr all ↦ own-all Q (step catch_all_token rows) k (step-all P (λ t j. Fits t [] → Q j) catch_all_token rows (λ t j p f. p (inr (inr refl))) h) all
          ]
        ]
      where
        P : List ℕ → K → Type 0
        P t j = Fits t (b ∷ path) → Q j
