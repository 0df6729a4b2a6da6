use Rattle.std.proofs.Common.{◌≡◌, ℕ, List, ◌==◌, ◌<◌, not, length, filter, true, false, sym, ap, ◌∙◌, refl, arith, ◌+◌, min}
use Rattle.std.specs.List.{list_any}
use Rattle.sysapi_base.specs.Failing.{Calls, after_call}
use Rattle.sysapi_base.proofs.FailingLemmas.{fewer, all_stay}
use Rattle.sysapi_base.proofs.failing.FailingCalls.meets.Goals as goal

shorter : (n : ℕ) (old new : List ℕ) → list_any (λ m. m == n) old ≡ true → new ≡ filter (λ m. not (m == n)) old → length new < length old
shorter n old new any is = rw is (fewer (λ m. m == n) old any)

after_pass : (next failed now : ℕ) (left : List ℕ) → list_any (λ m. m == next) left ≡ false → now ≡ min (next + 1) 18446744073709551615
    → (let calls : Calls = record { next = now; failed = failed; left = left } in calls) ≡ after_call (record { next = next; failed = failed; left = left })
after_pass next failed now left any is = rw (any, all_stay (λ m. m == next) left any, is) refl

pub invariant_of-self : goal.invariant_of-self
invariant_of-self c =
    let any : list_any (λ m. m == c.self.inside.next) c.self.inside.left.items ≡ true = ap (list_any (λ m. m == c.self.inside.next)) (sym c.deref.ensures.value) ∙ sym c.contains-fails.ensures.value ∙ c.if-fails.true in
    omega (arith, shorter c.self.inside.next c.self.inside.left.items c.remove_all.new.numbers.items any c.remove_all.ensures)

pub returns-then-fails-clause-fewer : goal.returns-then-fails-clause-fewer
returns-then-fails-clause-fewer c = λ _.
    let any : list_any (λ m. m == c.self.inside.next) c.self.inside.left.items ≡ true = ap (list_any (λ m. m == c.self.inside.next)) (sym c.deref.ensures.value) ∙ sym c.contains-fails.ensures.value ∙ c.if-fails.true in
    rw (← c.self.view_is) (shorter c.self.inside.next c.self.inside.left.items c.remove_all.new.numbers.items any c.remove_all.ensures)

pub returns-else-fails-clause-after : goal.returns-else-fails-clause-after
returns-else-fails-clause-after c =
    let none : list_any (λ m. m == c.self.inside.next) c.self.inside.left.items ≡ false = ap (list_any (λ m. m == c.self.inside.next)) (sym c.deref.ensures.value) ∙ sym c.contains-fails.ensures.value ∙ c.if-fails.false in
    after_pass c.self.inside.next c.self.inside.failed c.saturating_add-self-inside.result c.self.inside.left.items none c.saturating_add-self-inside.ensures ∙ ap after_call c.self.view_is
