-- Entries in the order of their keys, around one of them.
use Rattle.pmap.specs.Shape.{without}
use Rattle.std.proofs.Common.{◌≡◌, not, false, append_assoc, List, [], ◌∷◌, ◌++◌, Bool, true, ◌&&◌, Some, None, cond, refl, sym, ap, ◌∙◌, subst, Ordering, Less, Equal, Greater}
use Rattle.std.specs.Ordering.{is_lt, eq_by_cmp, ordering_reverse}
use Rattle.std.specs.Cmp.{IsTotalOrder}
use Rattle.std.specs.FinMap.{find, put, is_sorted}
use Rattle.std.specs.FinMap.Entries.{below_all, by_order}
use Rattle.std.proofs.lemmas.Bool.{and_parts}

both : (a b : Bool) → a ≡ true → b ≡ true → a && b ≡ true
both a b p q = rw (p, q) refl

was_less : (r : Ordering) → is_lt r ≡ true → r ≡ Less
was_less Less p = refl
was_less Equal p = cc
was_less Greater p = cc

module _ {K : Type 0} (R : K → K → Ordering) (o : IsTotalOrder R) where
  above : (q k x : K) → R x k ≡ Less → R q k ≡ Greater → R q x ≡ Greater
  above q k x a b =
      let c : R k q ≡ Less = o.antisymm k q ∙ ap ordering_reverse b in
      o.antisymm q x ∙ ap ordering_reverse (o.trans x k q a c)

  level : (q k x : K) → R x k ≡ Less → R q k ≡ Equal → R q x ≡ Greater
  level q k x a b = o.congr q k x b ∙ o.antisymm k x ∙ ap ordering_reverse a

module _ {K X : Type 0} (R : K → K → Ordering) where
  below_front : (x : K) (l m : List (K × X)) → below_all R x (l ++ m) ≡ true → below_all R x l ≡ true
  below_front x [] m h = refl
  below_front x (e ∷ l) m h = let p = and_parts _ _ h in both _ _ p.0 (below_front x l m p.1)

  below_back : (x : K) (l m : List (K × X)) → below_all R x (l ++ m) ≡ true → below_all R x m ≡ true
  below_back x [] m h = h
  below_back x (e ∷ l) m h = below_back x l m (and_parts _ _ h).1

  pub sorted_front : (l m : List (K × X)) → is_sorted R (l ++ m) ≡ true → is_sorted R l ≡ true
  sorted_front [] m h = refl
  sorted_front (e ∷ l) m h = let p = and_parts _ _ h in both _ _ (below_front e.0 l m p.0) (sorted_front l m p.1)

  pub sorted_back : (l m : List (K × X)) → is_sorted R (l ++ m) ≡ true → is_sorted R m ≡ true
  sorted_back [] m h = h
  sorted_back (e ∷ l) m h = sorted_back l m (and_parts _ _ h).1

  -- an entry before one with the key k is below it
  pub below_middle : (x k : K) (v : X) (l r : List (K × X)) → below_all R x (l ++ (k, v) ∷ r) ≡ true → R x k ≡ Less
  below_middle x k v l r h = was_less _ (and_parts _ _ (below_back x l ((k, v) ∷ r) h)).0

  module _ (o : IsTotalOrder R) where
    find_none : (q : K) (es : List (K × X)) → below_all R q es ≡ true → find R q es ≡ None
    find_none q [] h = refl
    find_none q (e ∷ es) h = let p = and_parts _ _ h in let less : R q e.0 ≡ Less = was_less _ p.0 in rw less (find_none q es p.1)

    below_down : (q k : K) (es : List (K × X)) → R q k ≡ Less → below_all R k es ≡ true → below_all R q es ≡ true
    below_down q k [] less h = refl
    below_down q k (e ∷ es) less h =
        let p = and_parts _ _ h in
        let down : R q e.0 ≡ Less = o.trans q k e.0 less (was_less _ p.0) in
        rw down (below_down q k es less p.1)

    pub find_left : (q k : K) (v : X) (l r : List (K × X)) → R q k ≡ Less → is_sorted R (l ++ (k, v) ∷ r) ≡ true → find R q (l ++ (k, v) ∷ r) ≡ find R q l
    find_left q k v [] r less h = rw less (find_none q r (below_down q k r less (and_parts _ _ h).0))
    find_left q k v (e ∷ l) r less h = ap (λ t. cond (eq_by_cmp R q e.0) (Some e.1) t) (find_left q k v l r less (and_parts _ _ h).1)

    pub find_right : (q k : K) (v : X) (l r : List (K × X)) → R q k ≡ Greater → is_sorted R (l ++ (k, v) ∷ r) ≡ true → find R q (l ++ (k, v) ∷ r) ≡ find R q r
    find_right q k v [] r more h = rw more refl
    find_right q k v (e ∷ l) r more h =
        let p = and_parts _ _ h in
        let later : R q e.0 ≡ Greater = above R o q k e.0 (below_middle e.0 k v l r p.0) more in
        rw later (find_right q k v l r more p.1)

    pub find_middle : (q k : K) (v : X) (l r : List (K × X)) → R q k ≡ Equal → is_sorted R (l ++ (k, v) ∷ r) ≡ true → find R q (l ++ (k, v) ∷ r) ≡ Some v
    find_middle q k v [] r same h = rw same refl
    find_middle q k v (e ∷ l) r same h =
        let p = and_parts _ _ h in
        let later : R q e.0 ≡ Greater = level R o q k e.0 (below_middle e.0 k v l r p.0) same in
        rw later (find_middle q k v l r same p.1)

    put_before : (q : K) (w : X) (es : List (K × X)) (e : K × X) (b : Ordering) (m : List (K × X)) → by_order b ((q, w) ∷ e ∷ (es ++ m)) ((e.0, w) ∷ (es ++ m)) (e ∷ (put R q w es ++ m)) ≡ by_order b ((q, w) ∷ e ∷ es) ((e.0, w) ∷ es) (e ∷ put R q w es) ++ m
    put_before q w es e Less m = refl
    put_before q w es e Equal m = refl
    put_before q w es e Greater m = refl

    pub put_left : (q k : K) (w v : X) (l r : List (K × X)) → R q k ≡ Less → put R q w (l ++ (k, v) ∷ r) ≡ put R q w l ++ (k, v) ∷ r
    put_left q k w v [] r less = rw less refl
    put_left q k w v (e ∷ l) r less =
        ap (λ t. by_order (R q e.0) ((q, w) ∷ e ∷ (l ++ (k, v) ∷ r)) ((e.0, w) ∷ (l ++ (k, v) ∷ r)) (e ∷ t)) (put_left q k w v l r less) ∙ put_before q w l e (R q e.0) ((k, v) ∷ r)

    pub put_right : (q k : K) (w v : X) (l r : List (K × X)) → R q k ≡ Greater → is_sorted R (l ++ (k, v) ∷ r) ≡ true → put R q w (l ++ (k, v) ∷ r) ≡ l ++ (k, v) ∷ put R q w r
    put_right q k w v [] r more h = rw more refl
    put_right q k w v (e ∷ l) r more h =
        let p = and_parts _ _ h in
        let later : R q e.0 ≡ Greater = above R o q k e.0 (below_middle e.0 k v l r p.0) more in
        rw later (ap (λ t. e ∷ t) (put_right q k w v l r more p.1))

    pub put_middle : (q k : K) (w v : X) (l r : List (K × X)) → R q k ≡ Equal → is_sorted R (l ++ (k, v) ∷ r) ≡ true → put R q w (l ++ (k, v) ∷ r) ≡ l ++ (k, w) ∷ r
    put_middle q k w v [] r same h = rw same refl
    put_middle q k w v (e ∷ l) r same h =
        let p = and_parts _ _ h in
        let later : R q e.0 ≡ Greater = level R o q k e.0 (below_middle e.0 k v l r p.0) same in
        rw later (ap (λ t. e ∷ t) (put_middle q k w v l r same p.1))

-- ---- around a rotation

module _ {K X : Type 0} (R : K → K → Ordering) where
  -- the second of two sides, and what follows
  pub rest_sorted : (d l r m : List (K × X)) (e f : K × X) → d ≡ l ++ e ∷ r → is_sorted R (d ++ f ∷ m) ≡ true → is_sorted R (r ++ f ∷ m) ≡ true
  rest_sorted d l r m e f is h =
      let regrouped : d ++ f ∷ m ≡ (l ++ e ∷ []) ++ (r ++ f ∷ m) = rw is (simp append_assoc) in
      sorted_back R (l ++ e ∷ []) (r ++ f ∷ m) (subst (λ es. is_sorted R es ≡ true) regrouped h)

  -- the first of two sides, and what stands before
  pub front_sorted : (d l r m : List (K × X)) (e f : K × X) → d ≡ l ++ e ∷ r → is_sorted R (m ++ f ∷ d) ≡ true → is_sorted R (m ++ f ∷ l) ≡ true
  front_sorted d l r m e f is h =
      let regrouped : m ++ f ∷ d ≡ (m ++ f ∷ l) ++ e ∷ r = rw is (simp append_assoc) in
      sorted_front R (m ++ f ∷ l) (e ∷ r) (subst (λ es. is_sorted R es ≡ true) regrouped h)

  -- a whole side
  pub left_sorted : (d m : List (K × X)) (f : K × X) → is_sorted R (d ++ f ∷ m) ≡ true → is_sorted R d ≡ true
  left_sorted d m f h = sorted_front R d (f ∷ m) h

  pub right_sorted : (d m : List (K × X)) (f : K × X) → is_sorted R (m ++ f ∷ d) ≡ true → is_sorted R d ≡ true
  right_sorted d m f h = sorted_back R (m ++ f ∷ []) d (subst (λ es. is_sorted R es ≡ true) (sym (append_assoc m (f ∷ []) d)) h)

module _ {A : Type 0} where
  pub rotated_left : (left x y u v right : List A) (a b f : A) → left ≡ x ++ a ∷ y → y ≡ u ++ b ∷ v → (x ++ a ∷ u) ++ b ∷ (v ++ f ∷ right) ≡ left ++ f ∷ right
  rotated_left left x y u v right a b f p q = rw p (rw q (simp append_assoc))

  pub rotated_right : (left x y u v right : List A) (a b f : A) → right ≡ y ++ a ∷ x → y ≡ u ++ b ∷ v → (left ++ f ∷ u) ++ b ∷ (v ++ a ∷ x) ≡ left ++ f ∷ right
  rotated_right left x y u v right a b f p q = rw p (rw q (simp append_assoc))

-- ---- without an entry

module _ {K X : Type 0} (R : K → K → Ordering) (o : IsTotalOrder R) where
  keep_above : (q : K) (es : List (K × X)) → below_all R q es ≡ true → without R q es ≡ es
  keep_above q [] h = refl
  keep_above q (e ∷ es) h = let p = and_parts _ _ h in let less : R q e.0 ≡ Less = was_less _ p.0 in rw less (ap (λ t. e ∷ t) (keep_above q es p.1))

  below_same : (q k : K) (es : List (K × X)) → R q k ≡ Equal → below_all R k es ≡ true → below_all R q es ≡ true
  below_same q k [] same h = refl
  below_same q k (e ∷ es) same h =
      let p = and_parts _ _ h in
      let down : R q e.0 ≡ Less = o.congr q k e.0 same ∙ was_less _ p.0 in
      rw down (below_same q k es same p.1)

  kept_or : (b : Bool) (e : K × X) (x m : List (K × X)) → cond b (e ∷ (x ++ m)) (x ++ m) ≡ cond b (e ∷ x) x ++ m
  kept_or true e x m = refl
  kept_or false e x m = refl

  pub without_left : (q k : K) (v : X) (l r : List (K × X)) → R q k ≡ Less → is_sorted R (l ++ (k, v) ∷ r) ≡ true → without R q (l ++ (k, v) ∷ r) ≡ without R q l ++ (k, v) ∷ r
  without_left q k v [] r less h = rw less (ap (λ t. (k, v) ∷ t) (keep_above q r (below_down R o q k r less (and_parts _ _ h).0)))
  without_left q k v (e ∷ l) r less h =
      ap (λ t. cond (not (eq_by_cmp R q e.0)) (e ∷ t) t) (without_left q k v l r less (and_parts _ _ h).1) ∙ kept_or (not (eq_by_cmp R q e.0)) e (without R q l) ((k, v) ∷ r)

  pub without_right : (q k : K) (v : X) (l r : List (K × X)) → R q k ≡ Greater → is_sorted R (l ++ (k, v) ∷ r) ≡ true → without R q (l ++ (k, v) ∷ r) ≡ l ++ (k, v) ∷ without R q r
  without_right q k v [] r more h = rw more refl
  without_right q k v (e ∷ l) r more h =
      let p = and_parts _ _ h in
      let later : R q e.0 ≡ Greater = above R o q k e.0 (below_middle R e.0 k v l r p.0) more in
      rw later (ap (λ t. e ∷ t) (without_right q k v l r more p.1))

  pub without_middle : (q k : K) (v : X) (l r : List (K × X)) → R q k ≡ Equal → is_sorted R (l ++ (k, v) ∷ r) ≡ true → without R q (l ++ (k, v) ∷ r) ≡ l ++ r
  without_middle q k v [] r same h = rw same (keep_above q r (below_same q k r same (and_parts _ _ h).0))
  without_middle q k v (e ∷ l) r same h =
      let p = and_parts _ _ h in
      let later : R q e.0 ≡ Greater = level R o q k e.0 (below_middle R e.0 k v l r p.0) same in
      rw later (ap (λ t. e ∷ t) (without_middle q k v l r same p.1))
