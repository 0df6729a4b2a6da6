use Rattle.std.proofs.Common.{inl, refl, get_or, rules, ℕ, subst, sym, ◌∷◌, [], ◌++◌}
use Rattle.journal_disk.specs.Format.{Begins, header}
use Rattle.journal_disk.specs.Opening.{IsHead}
use Rattle.journal_disk.proofs.Heads.{head_begins, too_short}
use Rattle.journal_disk.proofs.opening.read_head.Goals as goal

pub returns-then-not-whole-clause-why : goal.returns-then-not-whole-clause-why
returns-then-not-whole-clause-why g c = λ b is. inl (refl, too_short b c.read_all.new.into c.in-Ok.whole (c.in-Ok.ensures.bytes b is) c.read_all.auto.into c.if-not-whole.true)

pub returns-clause-head : goal.returns-clause-head
returns-clause-head g c = λ b is.
    let head : IsHead c.read_all.new.into = search rules in
    let begins = head_begins b c.read_all.new.into c.in-Ok.whole c.if-not-whole.false (c.in-Ok.ensures.bytes b is) c.read_all.auto.into c.read_all.ensures.fits head c.if-version-ne-VERSION.false in
    subst (λ (n : ℕ). Begins (header n ++ get_or c.read_all.new.into 16 0 ∷ []) b) (sym c.number_of.ensures.value) begins
