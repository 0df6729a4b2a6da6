-- Entries whose keys are numbers, one after another.
use Rattle.std.proofs.Common.{◌≡◌, ℕ, zero, suc, ◌+◌, ◌<◌, List, [], ◌∷◌, ◌++◌, length, cond, Some, option_map, refl, sym, ap, ◌∙◌, arith, Equal, Greater}
use Rattle.std.specs.List.{slice_get}
use Rattle.std.specs.Ordering.{nat_cmp, is_eq}
use Rattle.std.specs.Cmp.{nat_cmp_is}
use Rattle.std.specs.FinMap.{find, put}
use Rattle.std.specs.FinMap.Entries.{by_order}
use Rattle.pmap.specs.Numbered.{AreNumberedFrom}

equal : (x y : ℕ) → x ≡ y → nat_cmp x y ≡ Equal
equal x y is = sym (nat_cmp_is x y Equal is)

above : (x y : ℕ) → y < x → nat_cmp x y ≡ Greater
above x y lt = sym (nat_cmp_is x y Greater lt)

module _ {X : Type 0} where
  -- a look-up finds what stands at the number
  pub found : (es : List (ℕ × X)) (n k q : ℕ) → q ≡ n + k → AreNumberedFrom n es → find nat_cmp q es ≡ option_map (λ e. e.1) (slice_get es k)
  found [] n k q is h = refl
  found (e ∷ es) n zero q is h = ap (λ o. cond (is_eq o) (Some e.1) (find nat_cmp q es)) (equal q e.0 (omega (arith, h.0)))
  found (e ∷ es) n (suc k) q is h =
      ap (λ o. cond (is_eq o) (Some e.1) (find nat_cmp q es)) (above q e.0 (omega (arith, h.0)))
      ∙ found es (n + 1) k q (omega arith) h.1

  -- an entry at the next number comes last
  pub put_last : (es : List (ℕ × X)) (n q : ℕ) (v : X) → q ≡ n + length es → AreNumberedFrom n es → put nat_cmp q v es ≡ es ++ (q, v) ∷ []
  put_last [] n q v is h = refl
  put_last (e ∷ es) n q v is h =
      ap (λ o. by_order o ((q, v) ∷ e ∷ es) ((e.0, v) ∷ es) (e ∷ put nat_cmp q v es)) (above q e.0 (omega (arith, h.0)))
      ∙ ap (λ t. e ∷ t) (put_last es (n + 1) q v (omega arith) h.1)

  pub one_numbered_more : (es : List (ℕ × X)) (n q : ℕ) (v : X) → q ≡ n + length es → AreNumberedFrom n es → AreNumberedFrom n (es ++ (q, v) ∷ [])
  one_numbered_more [] n q v is h = (omega arith, tt)
  one_numbered_more (e ∷ es) n q v is h = (h.0, one_numbered_more es (n + 1) q v (omega arith) h.1)
