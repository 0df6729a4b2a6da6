-- Rising lists of ids: known by what they have, and filtered.
use Rattle.std.proofs.Common.{◌≡◌, ℕ, ◌==◌, ◌&&◌, ◌||◌, List, [], ◌∷◌, filter, Bool, eqb-true, Option, refl, sym, ap, ap₂, ◌∙◌}
use Rattle.std.specs.Ordering.{nat_cmp}
use Rattle.std.specs.List.{list_any}
use Rattle.std.specs.List.Sorted.{IsStrictlySortedBy}
use Rattle.std.specs.BTreeMap.{is_at}
use Rattle.std.proofs.lemmas.Cmp.{nat_cmp_total}
use Rattle.std.proofs.lemmas.Map.Lookups.{btree_set_from_contains, exact_unsigned}
use Rattle.std.proofs.lemmas.Map.Views.{any-filter_same}
use Rattle.timeline.specs.Values.{has, IsListAt}
use Rattle.timeline.proofs.Entries.{same_id}

list_has : (q : ℕ) (ids : List ℕ) → list_any (is_at (nat_cmp q)) ids ≡ has ids q
list_has q [] = refl
list_has q (x ∷ xs) = ap₂ (λ a b. a || b) (same_id q x) (list_has q xs)

-- a rising list is known by what it has
pub one_rising : (xs ys : List ℕ) → IsStrictlySortedBy nat_cmp xs → IsStrictlySortedBy nat_cmp ys → ((q : ℕ) → has xs q ≡ has ys q) → xs ≡ ys
one_rising xs ys s t h = btree_set_from_contains nat_cmp_total (record { keys = xs }) (record { keys = ys }) s t (λ q. list_has q xs ∙ h q ∙ sym (list_has q ys)) exact_unsigned

-- there is one list of the ids that have a value at a point
pub one_list : {T : Type 0} (values : ℕ → ℕ → Option T) (m : ℕ) (a b : List ℕ) → IsListAt values m a → IsListAt values m b → a ≡ b
one_list values m a b is also = one_rising a b is.ordered also.ordered (λ q. is.all q ∙ sym (also.all q))

-- a filter has what passes the test and was there (it rises where the list does: `IsStrictlySortedBy-filter` of std)
pub has_filter : (p : ℕ → Bool) (ids : List ℕ) (q : ℕ) → has (filter p ids) q ≡ (p q && has ids q)
has_filter p ids q = any-filter_same (λ x. q == x) p (p q) (λ k e. ap p (sym (eqb-true q k e))) ids
