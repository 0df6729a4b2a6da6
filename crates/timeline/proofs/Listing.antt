-- The ids that have a value at a point.
use Rattle.std.proofs.Common.{◌≡◌, ℕ, ◌&&◌, List, [], ◌∷◌, map, filter, take, length, Bool, true, false, Option, Some, None, is_some, unwrap_or, refl, sym, ap, ◌∙◌, Ordering}
use Rattle.std.specs.declared.cmp.Ordering.TheVariants.{Less, Equal, Greater}
use Rattle.std.specs.Ordering.{nat_cmp, is_lt}
use Rattle.std.specs.FinMap.{find, is_sorted}
use Rattle.std.specs.FinMap.Entries.{below_all, is_some-find}
use Rattle.std.specs.List.{AllByRecursion, list_any}
use Rattle.std.specs.List.Sorted.{IsStrictlySortedBy}
use Rattle.std.proofs.lemmas.Bool.{and_parts}
use Rattle.std.proofs.lemmas.List.Kept.{IsStrictlySortedBy-filter}
use Rattle.std.proofs.lemmas.List.{length-map}
use Rattle.std.proofs.Math.Seq.{take-length}
use Rattle.pmap.specs.Range.{comes_after, keys_after}
use Rattle.timeline.specs.Values.{last_said, value_in, has, IsListAt}
use Rattle.timeline.proofs.Entries.{same_id}
use Rattle.timeline.proofs.Lists.{has_filter}

abbrev pub keys_of : {X : Type 0} → List (ℕ × X) → List ℕ
keys_of es = map (λ e. e.0) es

less : (o : Ordering) → is_lt o ≡ true → o ≡ Less
less Less e = refl
less Equal e = cc
less Greater e = cc

module _ {X : Type 0} where
  keys_above : (k : ℕ) (es : List (ℕ × X)) → below_all nat_cmp k es ≡ true → AllByRecursion (λ y. nat_cmp k y ≡ Less) (keys_of es)
  keys_above k [] h = tt
  keys_above k (e ∷ es) h = let p = and_parts _ _ h in (less (nat_cmp k e.0) p.0, keys_above k es p.1)

  pub keys_rise : (es : List (ℕ × X)) → is_sorted nat_cmp es ≡ true → IsStrictlySortedBy nat_cmp (keys_of es)
  unfolding IsStrictlySortedBy
  keys_rise [] h = tt
  keys_rise (e ∷ es) h = let p = and_parts _ _ h in (keys_above e.0 es p.0, keys_rise es p.1)

  -- an id is among the keys exactly where a look-up finds it
  pub found_has : (es : List (ℕ × X)) (q : ℕ) → has (keys_of es) q ≡ is_some (find nat_cmp q es)
  found_has es q = sym (is_some-find nat_cmp q es ∙ (λ i. list_any (λ x. same_id q x i) (keys_of es)))

-- where there is no bound, each key comes after it
all_pass : (ks : List ℕ) → filter (comes_after nat_cmp None) ks ≡ ks
all_pass [] = refl
all_pass (k ∷ ks) = ap (λ l. k ∷ l) (all_pass ks)

-- a range with no bound, as long as the map, has each key
pub each_key : {X : Type 0} (n : ℕ) (es : List (ℕ × X)) → n ≡ length es → take n (keys_after nat_cmp None es) ≡ keys_of es
each_key n es is =
    ap (take n) (all_pass (keys_of es)) ∙ ap (λ m. take m (keys_of es)) (is ∙ sym (length-map es (λ e. e.0))) ∙ take-length (keys_of es)

and_true : (b : Bool) → (b && true) ≡ b
and_true true = refl
and_true false = refl

module _ {T : Type 0} (n : ℕ) where
  abbrev says : List (ℕ × Option T) → Bool
  says cs = is_some (last_said cs n None)

  -- only an id that is there says a value
  says_where_found : (o : Option (List (ℕ × Option T))) → (says (unwrap_or o []) && is_some o) ≡ says (unwrap_or o [])
  says_where_found None = refl
  says_where_found (Some cs) = and_true (says cs)

  pub lists : (hs : List (ℕ × List (ℕ × Option T))) → IsStrictlySortedBy nat_cmp (keys_of hs) → IsListAt (value_in hs) n (filter (λ q. is_some (value_in hs q n)) (keys_of hs))
  lists hs up = record {
    ordered = IsStrictlySortedBy-filter nat_cmp said (keys_of hs) up;
    all = λ q.
        has_filter said (keys_of hs) q
        ∙ ap (λ b. said q && b) (found_has hs q)
        ∙ says_where_found (find nat_cmp q hs);
  }
    where
      said : ℕ → Bool
      said q = is_some (value_in hs q n)
