-- Entries by id.
use Rattle.std.proofs.Common.{rules, arith, ◌==◌, ◌≡◌, ℕ, List, Some, cond, ap, ◌∙◌}
use Rattle.std.specs.Ordering.{nat_cmp, is_eq}
use Rattle.std.specs.FinMap.{find, put}
use Rattle.std.specs.FinMap.Entries.{find-put}
use Rattle.std.proofs.lemmas.Cmp.{nat_cmp_total}
use Rattle.std.proofs.lemmas.Grind.{common_steps}

pub same_id : (x y : ℕ) → is_eq (nat_cmp x y) ≡ (x == y)
same_id x y = first_of (search rules, grind arith, grind (arith, common_steps))

pub same_id_turned : (x y : ℕ) → is_eq (nat_cmp x y) ≡ (y == x)
same_id_turned x y = first_of (search rules, grind arith, grind (arith, common_steps))

pub find_put : {X : Type 0} (k : ℕ) (v : X) (es : List (ℕ × X)) (q : ℕ) → find nat_cmp q (put nat_cmp k v es) ≡ cond (k == q) (Some v) (find nat_cmp q es)
find_put k v es q = find-put nat_cmp nat_cmp_total q k v es ∙ ap (λ b. cond b (Some v) (find nat_cmp q es)) (same_id_turned q k)
