-- Lists of ids: those that are listed are those of serials that were drawn.
use Rattle.std.proofs.Common.{arith, ◌≡◌, ℕ, zero, suc, ◌<◌, ◌≤◌, ◌==◌, ◌&&◌, ◌||◌, Bool, true, false, cond, List, [], ◌∷◌, ◌++◌, Option, Some, None, inl, inr, is_some, IsSome, eq-eqb, refl, ap, ap₂, sym, ◌∙◌}
use Rattle.std.specs.List.{filter, list_any, AllByRecursion}
use Rattle.std.specs.List.Sorted.{IsStrictlySortedBy}
use Rattle.std.specs.Ordering.{nat_cmp}
use Rattle.std.specs.declared.cmp.Ordering.TheVariants.{Less}
use Rattle.std.specs.BTreeMap.{is_at}
use Rattle.std.proofs.lemmas.Bool.{eqb-true, false≢true}
use Rattle.std.proofs.Math.Nat.{eq-or-lt_of_le}
use Rattle.std.proofs.lemmas.Cmp.{nat_cmp_total}
use Rattle.std.proofs.lemmas.Map.Lookups.{btree_set_from_contains, exact_unsigned}
use Rattle.std.proofs.lemmas.Grind.{common_steps}
use Rattle.sysapi_base.specs.Id.{made_id}
use Rattle.api_records.specs.Sets.{has}
use Rattle.entry_codec.specs.declared.entry.Entry.{Entry}
use Rattle.entry_codec.specs.Histories.{Tables, tables, tables_at, owned, first_entries}
use Rattle.entry_codec.specs.Replies.{drawn}
use Rattle.entry_codec.proofs.Drawn.{IsOld, old_project, old_branch, old_tag, old_commit}
use Rattle.repo_state.specs.Stands.{StandsFor}
use Rattle.repo_state.specs.Lists.{is_listed, ids_listed, records_at}
use Rattle.repo_state.specs.declared.state.State.{State}
use Rattle.repo_state.specs.declared.list.Kind.{Kind}
use Rattle.repo_state.specs.declared.list.Kind.TheVariants.{Projects, Branches, Tags, Commits}
use Rattle.repo_state.proofs.Entries.{same_id}

-- ---- rising lists

list_has : (q : ℕ) (ids : List ℕ) → list_any (is_at (nat_cmp q)) ids ≡ has ids q
list_has q [] = refl
list_has q (x ∷ xs) = ap₂ (λ a b. a || b) (same_id q x) (list_has q xs)

-- a rising list is known by what it has
one_rising : (xs ys : List ℕ) → IsStrictlySortedBy nat_cmp xs → IsStrictlySortedBy nat_cmp ys → ((q : ℕ) → has xs q ≡ has ys q) → xs ≡ ys
one_rising xs ys s t h = btree_set_from_contains nat_cmp_total (record { keys = xs }) (record { keys = ys }) s t (λ q. list_has q xs ∙ h q ∙ sym (list_has q ys)) exact_unsigned

below : (x y : ℕ) → x < y → nat_cmp x y ≡ Less
below x y h = first_of (grind arith, grind (arith, common_steps))

all_pushed : (P : ℕ → Type 0) (xs : List ℕ) (y : ℕ) → AllByRecursion P xs → P y → AllByRecursion P (xs ++ y ∷ [])
all_pushed P [] y all one = (one, tt)
all_pushed P (x ∷ xs) y all one = (all.0, all_pushed P xs y all.1 one)

rising_pushed : (xs : List ℕ) (y : ℕ) → IsStrictlySortedBy nat_cmp xs → AllByRecursion (λ x. x < y) xs → IsStrictlySortedBy nat_cmp (xs ++ y ∷ [])
unfolding IsStrictlySortedBy
rising_pushed [] y up under = (tt, tt)
rising_pushed (x ∷ xs) y up under = (all_pushed (λ z. nat_cmp x z ≡ Less) xs y up.0 (below x y under.0), rising_pushed xs y up.1 under.1)

-- ---- filters

module _ (p : ℕ → Bool) where
  all_kept : (P : ℕ → Type 0) (xs : List ℕ) → AllByRecursion P xs → AllByRecursion P (filter p xs)
  all_kept P [] all = tt
  all_kept P (x ∷ xs) all = elim (p x) as (λ b. AllByRecursion P (cond b (x ∷ filter p xs) (filter p xs))) [ true ↦ (all.0, all_kept P xs all.1) | false ↦ all_kept P xs all.1 ]

  pub rising_kept : (xs : List ℕ) → IsStrictlySortedBy nat_cmp xs → IsStrictlySortedBy nat_cmp (filter p xs)
  unfolding IsStrictlySortedBy
  rising_kept [] up = tt
  rising_kept (x ∷ xs) up = elim (p x) as (λ b. IsStrictlySortedBy nat_cmp (cond b (x ∷ filter p xs) (filter p xs))) [
    | true ↦ (all_kept (λ z. nat_cmp x z ≡ Less) xs up.0, rising_kept xs up.1)
    | false ↦ rising_kept xs up.1
  ]

  -- a filter has what passes
  kept_first : (x q : ℕ) (ids : List ℕ) (h : Bool) (b : Bool) → p x ≡ b → has ids q ≡ (p q && h) → has (cond b (x ∷ ids) ids) q ≡ (p q && ((q == x) || h))
  kept_first x q ids h true e is = elim (q == x) as (λ d. (q == x) ≡ d → (d || has ids q) ≡ (p q && (d || h))) [
    | true ↦ λ t. sym (ap (λ b. b && true) (ap p (eqb-true q x t) ∙ e))
    | false ↦ λ t. is
  ] refl
  kept_first x q ids h false e is = elim (q == x) as (λ d. (q == x) ≡ d → has ids q ≡ (p q && (d || h))) [
    | true ↦ λ t. is ∙ ap (λ b. b && h) (ap p (eqb-true q x t) ∙ e) ∙ sym (ap (λ b. b && true) (ap p (eqb-true q x t) ∙ e))
    | false ↦ λ t. is
  ] refl

  neither : (b : Bool) → false ≡ (b && false)
  neither true = refl
  neither false = refl

  pub has_kept : (q : ℕ) (xs : List ℕ) → has (filter p xs) q ≡ (p q && has xs q)
  has_kept q [] = neither (p q)
  has_kept q (x ∷ xs) = kept_first x q (filter p xs) (has xs q) (p x) refl (has_kept q xs)

-- ---- the ids of serials

has_pushed : (xs : List ℕ) (y q : ℕ) → has (xs ++ y ∷ []) q ≡ (has xs q || (q == y))
has_pushed [] y q = elim (q == y) as (λ b. (b || false) ≡ b) [ true ↦ refl | false ↦ refl ]
has_pushed (x ∷ xs) y q = elim (q == x) as (λ b. (b || has (xs ++ y ∷ []) q) ≡ ((b || has xs q) || (q == y))) [ true ↦ refl | false ↦ has_pushed xs y q ]

drawn_below : (r m n : ℕ) → m ≤ n → AllByRecursion (λ x. x < made_id r n) (drawn r m)
drawn_below r zero n le = tt
drawn_below r (suc m) n le = all_pushed (λ x. x < made_id r n) (drawn r m) (made_id r m) (drawn_below r m n (omega arith)) (omega arith)

drawn_rises : (r n : ℕ) → IsStrictlySortedBy nat_cmp (drawn r n)
unfolding IsStrictlySortedBy
drawn_rises r zero = tt
drawn_rises r (suc n) = rising_pushed (drawn r n) (made_id r n) (drawn_rises r n) (drawn_below r n n (omega arith))

or_true : (b : Bool) → (b || true) ≡ true
or_true true = refl
or_true false = refl

drawn_has : (r n m : ℕ) → m < n → has (drawn r n) (made_id r m) ≡ true
drawn_has r zero m lt = absurd (omega (arith, lt))
drawn_has r (suc n) m lt =
    let le : m ≤ n = omega arith in
    has_pushed (drawn r n) (made_id r n) (made_id r m)
    ∙ elim (eq-or-lt_of_le le) as (λ w. (has (drawn r n) (made_id r m) || (made_id r m == made_id r n)) ≡ true) [
      | inl e ↦ ap (λ b. has (drawn r n) (made_id r m) || b) (eq-eqb (made_id r m) (made_id r n) (ap (made_id r) e)) ∙ or_true (has (drawn r n) (made_id r m))
      | inr l ↦ ap (λ b. b || (made_id r m == made_id r n)) (drawn_has r n m l)
    ]

old_drawn : (r n q : ℕ) → IsOld r n q → has (drawn r n) q ≡ true
old_drawn r n q o = ap (has (drawn r n)) o.is ∙ drawn_has r n o.serial o.below

-- a rising list of ids that were drawn is what passes among all that were drawn
pub listed_drawn : (r n : ℕ) (p : ℕ → Bool) (ids : List ℕ) → IsStrictlySortedBy nat_cmp ids → ((q : ℕ) → has ids q ≡ p q) → ((q : ℕ) → p q ≡ true → IsOld r n q) → ids ≡ filter p (drawn r n)
listed_drawn r n p ids up all old =
    one_rising ids (filter p (drawn r n)) up (rising_kept p (drawn r n) (drawn_rises r n)) (λ q. all q ∙ passes q ∙ sym (has_kept p q (drawn r n)))
  where
    passes : (q : ℕ) → p q ≡ (p q && has (drawn r n) q)
    passes q = elim (p q) as (λ b. p q ≡ b → b ≡ (b && has (drawn r n) q)) [ true ↦ λ e. sym (old_drawn r n q (old q e)) | false ↦ λ e. refl ] refl

-- ---- records

there : {A : Type 0} (o : Option A) → is_some o ≡ true → IsSome o
there None e = absurd (false≢true e)
there (Some a) e = refl

owned_there : {A : Type 0} (project_of : A → ℕ) (p : ℕ) (o : Option A) → is_some (owned project_of p o) ≡ true → IsSome o
owned_there project_of p None e = absurd (false≢true e)
owned_there project_of p (Some a) e = refl

owned_among : {A : Type 0} (project_of : A → ℕ) (p : ℕ) (o : Option A) → (is_some (owned project_of p o) && is_some o) ≡ is_some (owned project_of p o)
owned_among project_of p None = refl
owned_among project_of p (Some a) = elim (is_some (owned project_of p (Some a))) as (λ b. (b && true) ≡ b) [ true ↦ refl | false ↦ refl ]

-- each record that is listed has an id that was drawn
listed_old : (r : ℕ) (past : List Entry) (kind : Kind) (of : Option ℕ) (q : ℕ) → is_listed kind of (tables r past) q ≡ true → IsOld r (tables r past).next q
listed_old r past Projects of q e = old_project r past q (there ((tables r past).project q) e)
listed_old r past Branches None q e = old_branch r past q (there ((tables r past).branch q) e)
listed_old r past Branches (Some p) q e = old_branch r past q (owned_there (λ b. b.project) p ((tables r past).branch q) e)
listed_old r past Tags None q e = old_tag r past q (there ((tables r past).tag q) e)
listed_old r past Tags (Some p) q e = old_tag r past q (owned_there (λ x. x.project) p ((tables r past).tag q) e)
listed_old r past Commits None q e = old_commit r past q (there ((tables r past).commit q) e)
listed_old r past Commits (Some p) q e = old_commit r past q (owned_there (λ c. c.project) p ((tables r past).commit q) e)

-- the records of a project are among all of the kind
among_all : (kind : Kind) (p : ℕ) (t : Tables) (q : ℕ) → (is_listed kind (Some p) t q && is_listed kind None t q) ≡ is_listed kind (Some p) t q
among_all Projects p t q = elim (is_some (t.project q)) as (λ b. (b && b) ≡ b) [ true ↦ refl | false ↦ refl ]
among_all Branches p t q = owned_among (λ b. b.project) p (t.branch q)
among_all Tags p t q = owned_among (λ x. x.project) p (t.tag q)
among_all Commits p t q = owned_among (λ c. c.project) p (t.commit q)

-- a state tells the records of the history that it stands for
told : (s : State) (past : List Entry) → StandsFor s past → (n : ℕ) (kind : Kind) (of : Option ℕ) (q : ℕ) → is_listed kind of (records_at s n) q ≡ is_listed kind of (tables_at s.repository n past) q
told s past st n Projects of q = ap is_some (st.projects q n)
told s past st n Branches None q = ap is_some (st.branches q n)
told s past st n Branches (Some p) q = ap (λ o. is_some (owned (λ b. b.project) p o)) (st.branches q n)
told s past st n Tags None q = ap is_some (st.tags q n)
told s past st n Tags (Some p) q = ap (λ o. is_some (owned (λ x. x.project) p o)) (st.tags q n)
told s past st n Commits None q = ap is_some (st.commits q n)
told s past st n Commits (Some p) q = ap (λ o. is_some (owned (λ c. c.project) p o)) (st.commits q n)

-- ---- what the code lists

pub all_listed : (s : State) (past : List Entry) (kind : Kind) (of : Option ℕ) (n : ℕ) (ids : List ℕ) → StandsFor s past → IsStrictlySortedBy nat_cmp ids
    → ((q : ℕ) → has ids q ≡ is_listed kind of (records_at s n) q) → ids ≡ ids_listed s.repository kind of (tables_at s.repository n past)
all_listed s past kind of n ids st up all =
    listed_drawn s.repository (tables_at s.repository n past).next (is_listed kind of (tables_at s.repository n past)) ids up
    (λ q. all q ∙ told s past st n kind of q) (listed_old s.repository (first_entries n past) kind of)

pub those_listed : (s : State) (past : List Entry) (kind : Kind) (p n : ℕ) (ids those : List ℕ) → StandsFor s past → IsStrictlySortedBy nat_cmp ids
    → ((q : ℕ) → has ids q ≡ is_listed kind None (records_at s n) q) → those ≡ filter (is_listed kind (Some p) (records_at s n)) ids
    → those ≡ ids_listed s.repository kind (Some p) (tables_at s.repository n past)
those_listed s past kind p n ids those st up all is =
    let test = is_listed kind (Some p) (records_at s n) in
    is ∙ all_listed s past kind (Some p) n (filter test ids) st (rising_kept test ids up)
    (λ q. has_kept test q ids ∙ ap (λ b. test q && b) (all q) ∙ among_all kind p (records_at s n) q)
