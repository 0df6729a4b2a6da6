-- How a run of device calls goes on.
use Rattle.std.proofs.Common.{◌≡◌, inl, inr, ⊎_elim, ℕ, ◌≤◌, Option, arith}
use Rattle.journal_disk.specs.Disk.{GoesOn, LeavesOnly}

module _ {D X : Type 0} (moment : D → ℕ) (since : D → ℕ → X → Type 0) where
  -- before the first call
  pub started : (old : D) (P : X → Type 0) → ((c : X) → since old (moment old) c → P c) → LeavesOnly moment since old old P
  started old P here = record { later = omega arith; each = here; before = λ t c le left. inl left }

  -- calls that add nothing
  pub stayed : (images : D → X → Type 0) → ((disk : D) (c : X) → since disk (moment disk) c → images disk c) → (old new : D) → moment new ≡ moment old → ((t : ℕ) (c : X) → since new t c → since old t c) → LeavesOnly moment since old new (images old)
  stayed images only old new same_moment nothing_since = record {
    later = omega (arith, same_moment);
    each = λ c left. only old c (nothing_since (moment old) c left);
    before = λ t c le left. inl (nothing_since t c left);
  }

  -- one call more, after which each image has P
  pub goes_on : {reading : D → Option X} → (images : D → X → Type 0) (old mid new : D) (P : X → Type 0) → LeavesOnly moment since old mid P → GoesOn reading moment since images mid new
      → ((c : X) → images new c → P c) → LeavesOnly moment since old new P
  goes_on images old mid new P so_far step here = record {
    later = omega (arith, so_far.later, step.later);
    each = λ c left. ⊎_elim (so_far.each c) (here c) (step.nothing_else (moment old) c so_far.later left);
    before = λ t c le left. ⊎_elim (so_far.before t c le) (λ now. inr (here c now)) (step.nothing_else t c (omega (arith, le, so_far.later)) left);
  }

  -- what is left at the end
  pub at_end : (images : D → X → Type 0) → ((disk : D) (t : ℕ) (c : X) → t ≤ moment disk → images disk c → since disk t c) → (old new : D) (P : X → Type 0) → LeavesOnly moment since old new P → (c : X) → images new c → P c
  at_end images counts old new P leaves c now = leaves.each c (counts new (moment old) c leaves.later now)

  pub weaker : (old new : D) (P Q : X → Type 0) → ((c : X) → P c → Q c) → LeavesOnly moment since old new P → LeavesOnly moment since old new Q
  weaker old new P Q to leaves = record {
    later = leaves.later;
    each = λ c left. to c (leaves.each c left);
    before = λ t c le left. ⊎_elim (λ was. inl was) (λ now. inr (to c now)) (leaves.before t c le left);
  }

  -- one run after another
  pub run_on : (old mid new : D) (P : X → Type 0) → LeavesOnly moment since old mid P → LeavesOnly moment since mid new P → LeavesOnly moment since old new P
  run_on old mid new P first second = record {
    later = omega (arith, first.later, second.later);
    each = λ c left. ⊎_elim (first.each c) (λ now. now) (second.before (moment old) c first.later left);
    before = λ t c le left. ⊎_elim (first.before t c le) (λ now. inr now) (second.before t c (omega (arith, le, first.later)) left);
  }
