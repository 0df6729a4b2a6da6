-- The keys after a bound, where an entry is not after it.
use Rattle.std.proofs.Common.{◌≡◌, Option, Some, None, Bool, true, false, cond, List, [], ◌∷◌, ◌++◌, map, filter, true≢false, refl, sym, ap, ◌∙◌, Ordering, Less, Equal, Greater}
use Rattle.std.proofs.lemmas.List.{map-append}
use Rattle.std.proofs.lemmas.List.Elements.{filter-append}
use Rattle.std.proofs.lemmas.Bool.{and_parts}
use Rattle.std.specs.Ordering.{is_lt}
use Rattle.std.specs.Cmp.{IsTotalOrder}
use Rattle.std.specs.FinMap.{is_sorted}
use Rattle.pmap.specs.Range.{comes_after, keys_after}
use Rattle.pmap.proofs.Order.{below_middle}

not_less : (r : Ordering) → (r ≡ Less → ⊥) → is_lt r ≡ false
not_less Less h = absurd (h refl)
not_less Equal h = refl
not_less Greater h = refl

cond_false : {A : Type 0} (b : Bool) (x y : A) → b ≡ false → cond b x y ≡ y
cond_false b x y h = ap (λ t. cond t x y) h

-- a key below one that is not after the bound is not after it either
not_yet : {K : Type 0} (R : K → K → Ordering) → IsTotalOrder R → (after : Option K) (x k : K) → R x k ≡ Less → comes_after R after k ≡ false → comes_after R after x ≡ false
not_yet R o None x k less h = h
not_yet R o (Some b) x k less h = not_less (R b x) (λ e. true≢false (sym (ap is_lt (o.trans b x k e less)) ∙ h))

module _ {K X : Type 0} (R : K → K → Ordering) where
  keys_after-append : (after : Option K) (l m : List (K × X)) → keys_after R after (l ++ m) ≡ keys_after R after l ++ keys_after R after m
  keys_after-append after l m = ap (filter (comes_after R after)) (map-append (λ e. e.0) l m) ∙ filter-append (comes_after R after) (map (λ e. e.0) l) (map (λ e. e.0) m)

  module _ (o : IsTotalOrder R) where
    none_before : (after : Option K) (k : K) (v : X) (l r : List (K × X)) → comes_after R after k ≡ false → is_sorted R (l ++ (k, v) ∷ r) ≡ true → keys_after R after l ≡ []
    none_before after k v [] r h sorted = refl
    none_before after k v (e ∷ l) r h sorted =
        let p = and_parts _ _ sorted in
        let later = keys_after R after l in
        cond_false (comes_after R after e.0) (e.0 ∷ later) later (not_yet R o after e.0 k (below_middle R e.0 k v l r p.0) h) ∙ none_before after k v l r h p.1

    pub passed : (after : Option K) (d l r : List (K × X)) (k : K) (v : X) → l ++ (k, v) ∷ r ≡ d → comes_after R after k ≡ false → is_sorted R (l ++ (k, v) ∷ r) ≡ true → keys_after R after d ≡ keys_after R after r
    passed after d l r k v is h sorted =
        let right = keys_after R after r in
        ap (keys_after R after) (sym is) ∙ keys_after-append after l ((k, v) ∷ r) ∙ ap (λ t. t ++ keys_after R after ((k, v) ∷ r)) (none_before after k v l r h sorted) ∙ cond_false (comes_after R after k) (k ∷ right) right h
