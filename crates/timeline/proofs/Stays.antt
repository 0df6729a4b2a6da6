-- Changes from later points on.
use Rattle.std.proofs.Common.{◌≡◌, ℕ, ◌<◌, ◌≤◌, ◌==◌, ◌&&◌, List, [], ◌∷◌, Bool, true, false, cond, Option, is_some, refl, sym, ap, ◌∙◌, arith}
use Rattle.std.specs.Prelude.{nat_le}
use Rattle.std.proofs.lemmas.Bool.Decides.{nat_tests}
use Rattle.std.proofs.lemmas.List.Elements.{All-head, All-tail}
use Rattle.timeline.specs.Values.{changed, IsListAt}
use Rattle.timeline.specs.Later.{Change, after, AreAfter}
use Rattle.timeline.proofs.Lists.{one_rising}

not_yet : (n m : ℕ) → m < n → nat_le n m ≡ false
not_yet n m lt = grind (arith, nat_tests)

kept : {T : Type 0} (b : Bool) (x y : Option T) → cond (b && false) x y ≡ y
kept true x y = refl
kept false x y = refl

module _ {T : Type 0} where
  changed_before : (values : ℕ → ℕ → Option T) (id n : ℕ) (v : Option T) (q m : ℕ) → m < n → changed values id n v q m ≡ values q m
  changed_before values id n v q m lt = ap (λ b. cond ((id == q) && b) v (values q m)) (not_yet n m lt) ∙ kept (id == q) v (values q m)

  pub values_stay : (values : ℕ → ℕ → Option T) (later : List (Change T)) (n : ℕ) → AreAfter n later → (q m : ℕ) → m ≤ n → after values later q m ≡ values q m
  values_stay values [] n above q m le = refl
  values_stay values (c ∷ cs) n above q m le =
      let from : n < c.from = All-head (λ (c : Change T). n < c.from) c cs above in
      values_stay (changed values c.id c.from c.value) cs n (All-tail (λ (c : Change T). n < c.from) c cs above) q m le
      ∙ changed_before values c.id c.from c.value q m (omega arith)

pub lists_stay : {T : Type 0} (values : ℕ → ℕ → Option T) (later : List (Change T)) (n : ℕ) → AreAfter n later → (m : ℕ) → m ≤ n
    → (ids now : List ℕ) → IsListAt values m ids → IsListAt (after values later) m now → now ≡ ids
lists_stay values later n above m le ids now is new =
    one_rising now ids new.ordered is.ordered (λ q. new.all q ∙ ap is_some (values_stay values later n above q m le) ∙ sym (is.all q))
