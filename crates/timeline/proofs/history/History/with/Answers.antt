use Rattle.std.proofs.Common.{ap, ◌-◌, List, ℕ, Option, length, sym, subst, arith}
use Rattle.std.specs.List.Sorted.{IsNonDecreasingBy}
use Rattle.std.proofs.lemmas.List.Sorted.{IsNonDecreasingBy-push}
use Rattle.timeline.specs.Seen.{seen}
use Rattle.timeline.proofs.Seeing.{said_pushed}
use Rattle.timeline.proofs.history.History.with.Goals as goal

pub returns : goal.returns
returns g c = said_pushed c.self.inside.entries c.args.self.now c.self.view_is c.in_ok-push.field-0 c.in_ok-entry.entry.value _ c.in_ok-push.ensures (ap seen c.in_ok-entry.ensures.ok)

pub invariant_of-result : goal.invariant_of-result
invariant_of-result g c =
    let is = said_pushed c.self.inside.entries c.args.self.now c.self.view_is c.in_ok-push.field-0 c.in_ok-entry.entry.value _ c.in_ok-push.ensures (ap seen c.in_ok-entry.ensures.ok) in
    let IsRising : List (ℕ × Option g.row.T.Denot) → Type 0 = λ cs. IsNonDecreasingBy (λ c. c.0) cs in
    subst IsRising (sym is) (IsNonDecreasingBy-push (λ c. c.0) c.args.self.now _ (subst IsRising c.self.view_is c.self.invariant) (λ d some. c.requires (length c.args.self.now - 1) d (omega arith)))
