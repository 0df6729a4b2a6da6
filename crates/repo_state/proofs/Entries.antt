-- Look-ups in the entries of a map.
use Rattle.std.proofs.Common.{rules, arith, Bor, option_map, ◌==◌, ◌||◌, ◌≡◌, ℕ, List, [], ◌∷◌, Option, Some, None, Bool, true, false, cond, not, refl, ap, ap₂, ◌∙◌, sym}
use Rattle.std.specs.declared.cmp.Ordering.TheVariants.{Equal}
use Rattle.std.specs.Ordering.{nat_cmp, is_eq, eq_by_cmp}
use Rattle.std.specs.FinMap.{find, put}
use Rattle.std.specs.FinMap.Entries.{find-put, find-where_key}
use Rattle.std.specs.Cmp.{unsigned_tied}
use Rattle.std.proofs.lemmas.Bool.{eqb-true}
use Rattle.std.proofs.lemmas.Cmp.{nat_cmp_total}
use Rattle.std.specs.Prelude.{map, is_some, ⊤}
use Rattle.std.proofs.lemmas.Grind.{common_steps}
use Rattle.pmap.specs.Shape.{without}
use Rattle.api_records.specs.Sets.{has, added}

-- tests that answer alike are one
same_test : (p q : ℕ → Bool) → ((x : ℕ) → p x ≡ q x) → p ≡ q
same_test p q h = λ i x. h x i

pub same_id : (x y : ℕ) → is_eq (nat_cmp x y) ≡ (x == y)
same_id x y = first_of (search rules, grind arith, grind (arith, common_steps))

same_id_turned : (x y : ℕ) → is_eq (nat_cmp x y) ≡ (y == x)
same_id_turned x y = first_of (search rules, grind arith, grind (arith, common_steps))

-- behind an entry that was put
pub find_put : {X : Type 0} (k : ℕ) (v : X) (es : List (ℕ × X)) (q : ℕ) → find nat_cmp q (put nat_cmp k v es) ≡ cond (k == q) (Some v) (find nat_cmp q es)
find_put k v es q = find-put nat_cmp nat_cmp_total q k v es ∙ ap (λ b. cond b (Some v) (find nat_cmp q es)) (same_id_turned q k)

tied : (q x : ℕ) → nat_cmp q x ≡ Equal → q ≡ x
tied q x e = eqb-true q x (sym (same_id q x) ∙ ap is_eq e)

turned : {X : Type 0} (b : Bool) (o : Option X) → cond (not b) o None ≡ cond b None o
turned true o = refl
turned false o = refl

-- behind an entry that was taken out
pub find_without : {X : Type 0} (k : ℕ) (es : List (ℕ × X)) (q : ℕ) → find nat_cmp q (without nat_cmp k es) ≡ cond (k == q) None (find nat_cmp q es)
find_without k es q =
    find-where_key nat_cmp (λ x. not (eq_by_cmp nat_cmp k x)) q (λ x e. ap (λ y. not (eq_by_cmp nat_cmp k y)) (sym (tied q x e))) es
    ∙ turned (eq_by_cmp nat_cmp k q) (find nat_cmp q es) ∙ ap (λ b. cond b None (find nat_cmp q es)) (unsigned_tied k q)

cond_some : {X : Type 0} (b : Bool) (v : X) (o : Option X) → is_some (cond b (Some v) o) ≡ (b || is_some o)
cond_some true v o = refl
cond_some false v o = refl

put_some : {X : Type 0} (b : Bool) (v : X) (o : Option X) → is_some (cond b (Some v) o) ≡ cond b true (is_some o)
put_some true v o = refl
put_some false v o = refl

-- what a look-up lends is there where it finds something
pub looked_up : {X : Type 0} (r : Option (Bor X)) (o : Option X) → option_map (λ v. v.now) r ≡ o → is_some r ≡ is_some o
looked_up None o e = ap is_some e
looked_up (Some v) o e = ap is_some e

-- ---- sets of ids: maps whose values say nothing

-- an id is among the keys exactly where a look-up finds it
pub found_has : (es : List (ℕ × ⊤)) (q : ℕ) → is_some (find nat_cmp q es) ≡ has (map (λ e. e.0) es) q
found_has [] q = refl
found_has (e ∷ es) q = cond_some (is_eq (nat_cmp q e.0)) e.1 (find nat_cmp q es) ∙ ap₂ (λ a b. a || b) (same_id q e.0) (found_has es q)

pub has_put : (x : ℕ) (v : ⊤) (es : List (ℕ × ⊤)) → has (map (λ e. e.0) (put nat_cmp x v es)) ≡ added x (has (map (λ e. e.0) es))
has_put x v es = same_test _ _ (λ q. sym (found_has (put nat_cmp x v es) q) ∙ ap is_some (find_put x v es q) ∙ put_some (x == q) v (find nat_cmp q es) ∙ ap (cond (x == q) true) (found_has es q))
