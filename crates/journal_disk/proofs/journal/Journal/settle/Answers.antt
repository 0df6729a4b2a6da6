use Rattle.std.proofs.Common.{◌≡◌, true, [], ◌∷◌, ◌++◌}
use Rattle.journal_disk.specs.Format.{Gated, base, body}
use Rattle.journal_disk.proofs.Moments.{started, at_end, weaker}
use Rattle.journal_disk.proofs.Kept as lem
use Rattle.journal_disk.proofs.journal.Journal.settle.Goals as goal

pub invariant_of-self : goal.invariant_of-self
invariant_of-self g c =
    let is : c.self.inside.has_doubt ≡ true = c.if-self.true in
    let r = (c.self.invariant.staged is).0 in
    let front = base c.self.inside.repository c.self.invariant.records in
    let leaves = c.set_gate.ensures.any_moment front (body r ++ 0 ∷ []) (lem.last c.self.invariant) (c.self.invariant.staged is).3 in
    lem.still_staged c.self.invariant (g.D.Disk.images c.set_gate.new.disk) is
    (at_end g.D.Disk.moment g.D.Disk.images_since g.D.Disk.images g.met.D.Disk.counts_now c.self.inside.disk c.set_gate.new.disk (Gated front (body r ++ 0 ∷ [])) leaves)

pub returns-in_err-set_gate-clause-any_moment : goal.returns-in_err-set_gate-clause-any_moment
returns-in_err-set_gate-clause-any_moment g c =
    let is : c.self.inside.has_doubt ≡ true = c.if-self.true in
    let r = (c.self.invariant.staged is).0 in
    let front = base c.self.inside.repository c.self.invariant.records in
    let leaves = c.set_gate.ensures.any_moment front (body r ++ 0 ∷ []) (lem.last c.self.invariant) (c.self.invariant.staged is).3 in
    rw (← c.self.view_is) (λ kept told. weaker g.D.Disk.moment g.D.Disk.images_since c.self.inside.disk c.set_gate.new.disk (Gated front (body r ++ 0 ∷ [])) _ (lem.staged_or c.self.invariant (g.D.Disk.reading c.self.inside.disk) (g.met.D.Disk.reads_as_image c.self.inside.disk) is kept told) leaves)

pub invariant_of-self-then-self : goal.invariant_of-self-then-self
invariant_of-self-then-self g c =
    let is : c.self.inside.has_doubt ≡ true = c.if-self.true in
    let r = (c.self.invariant.staged is).0 in
    let front = base c.self.inside.repository c.self.invariant.records in
    let leaves = c.set_gate.ensures.any_moment front (body r ++ 0 ∷ []) (lem.last c.self.invariant) (c.self.invariant.staged is).3 in
    lem.closed_again c.self.invariant (g.D.Disk.images c.set_gate.new.disk) is (c.in_ok-set_gate.ensures.ok front (body r ++ 0 ∷ []) (lem.last c.self.invariant) (c.self.invariant.staged is).3)

pub returns-in_ok-set_gate-clause-ok : goal.returns-in_ok-set_gate-clause-ok
returns-in_ok-set_gate-clause-ok g c =
    let is : c.self.inside.has_doubt ≡ true = c.if-self.true in
    let r = (c.self.invariant.staged is).0 in
    let front = base c.self.inside.repository c.self.invariant.records in
    let leaves = c.set_gate.ensures.any_moment front (body r ++ 0 ∷ []) (lem.last c.self.invariant) (c.self.invariant.staged is).3 in
    rw (← c.self.view_is) (λ kept told f now. lem.closed_has c.self.invariant (g.D.Disk.reading c.self.inside.disk) (g.met.D.Disk.reads_as_image c.self.inside.disk) kept told r f
    (c.in_ok-set_gate.ensures.ok front (body r ++ 0 ∷ []) (lem.last c.self.invariant) (c.self.invariant.staged is).3 f now))

pub returns-in_ok-set_gate-clause-any_moment : goal.returns-in_ok-set_gate-clause-any_moment
returns-in_ok-set_gate-clause-any_moment g c =
    let is : c.self.inside.has_doubt ≡ true = c.if-self.true in
    let r = (c.self.invariant.staged is).0 in
    let front = base c.self.inside.repository c.self.invariant.records in
    let leaves = c.set_gate.ensures.any_moment front (body r ++ 0 ∷ []) (lem.last c.self.invariant) (c.self.invariant.staged is).3 in
    rw (← c.self.view_is) (λ kept told. weaker g.D.Disk.moment g.D.Disk.images_since c.self.inside.disk c.set_gate.new.disk (Gated front (body r ++ 0 ∷ [])) _ (lem.staged_or c.self.invariant (g.D.Disk.reading c.self.inside.disk) (g.met.D.Disk.reads_as_image c.self.inside.disk) is kept told) leaves)

pub returns-else-self-clause-ok : goal.returns-else-self-clause-ok
returns-else-self-clause-ok g c = rw (← c.self.view_is) (lem.settled_has c.self.invariant (g.D.Disk.reading c.self.inside.disk) (g.met.D.Disk.reads_as_image c.self.inside.disk) c.if-self.false)

pub returns-else-self-clause-any_moment : goal.returns-else-self-clause-any_moment
returns-else-self-clause-any_moment g c =
    rw (← c.self.view_is) (λ kept told. started g.D.Disk.moment g.D.Disk.images_since c.self.inside.disk _
    (λ f left. lem.sound c.self.invariant (g.D.Disk.reading c.self.inside.disk) (g.met.D.Disk.reads_as_image c.self.inside.disk) kept told f (g.met.D.Disk.only_now c.self.inside.disk f left)))

pub returns-in_err-set_gate-clause-records : goal.returns-in_err-set_gate-clause-records
returns-in_err-set_gate-clause-records g c =
    let is : c.self.inside.has_doubt ≡ true = c.if-self.true in
    let r = (c.self.invariant.staged is).0 in
    let front = base c.self.inside.repository c.self.invariant.records in
    let leaves = c.set_gate.ensures.any_moment front (body r ++ 0 ∷ []) (lem.last c.self.invariant) (c.self.invariant.staged is).3 in
    let gated = at_end g.D.Disk.moment g.D.Disk.images_since g.D.Disk.images g.met.D.Disk.counts_now c.self.inside.disk c.set_gate.new.disk (Gated front (body r ++ 0 ∷ [])) leaves in
    rw (← c.self.view_is) (lem.takes_none c.self.invariant (g.D.Disk.reading c.self.inside.disk) (g.met.D.Disk.reads_as_image c.self.inside.disk) (g.D.Disk.images c.set_gate.new.disk) (g.D.Disk.reading c.set_gate.new.disk) (g.met.D.Disk.reads_as_image c.set_gate.new.disk) c.set_gate.ensures.tells (λ f now. lem.gated_base front (body r ++ 0 ∷ []) f (gated f now)))

pub returns-in_err-set_gate-clause-doubted : goal.returns-in_err-set_gate-clause-doubted
returns-in_err-set_gate-clause-doubted g c =
    let is : c.self.inside.has_doubt ≡ true = c.if-self.true in
    let r = (c.self.invariant.staged is).0 in
    let front = base c.self.inside.repository c.self.invariant.records in
    let leaves = c.set_gate.ensures.any_moment front (body r ++ 0 ∷ []) (lem.last c.self.invariant) (c.self.invariant.staged is).3 in
    let gated = at_end g.D.Disk.moment g.D.Disk.images_since g.D.Disk.images g.met.D.Disk.counts_now c.self.inside.disk c.set_gate.new.disk (Gated front (body r ++ 0 ∷ [])) leaves in
    rw (← c.self.view_is) (lem.doubt_stays c.self.invariant (g.D.Disk.reading c.self.inside.disk) (g.met.D.Disk.reads_as_image c.self.inside.disk) (g.D.Disk.images c.set_gate.new.disk) (g.D.Disk.reading c.set_gate.new.disk) (g.met.D.Disk.reads_as_image c.set_gate.new.disk) c.set_gate.ensures.tells is gated)

pub returns-in_ok-set_gate-clause-records : goal.returns-in_ok-set_gate-clause-records
returns-in_ok-set_gate-clause-records g c =
    let is : c.self.inside.has_doubt ≡ true = c.if-self.true in
    let r = (c.self.invariant.staged is).0 in
    let front = base c.self.inside.repository c.self.invariant.records in
    let leaves = c.set_gate.ensures.any_moment front (body r ++ 0 ∷ []) (lem.last c.self.invariant) (c.self.invariant.staged is).3 in
    let gated = at_end g.D.Disk.moment g.D.Disk.images_since g.D.Disk.images g.met.D.Disk.counts_now c.self.inside.disk c.set_gate.new.disk (Gated front (body r ++ 0 ∷ [])) leaves in
    rw (← c.self.view_is) (lem.takes_none c.self.invariant (g.D.Disk.reading c.self.inside.disk) (g.met.D.Disk.reads_as_image c.self.inside.disk) (g.D.Disk.images c.set_gate.new.disk) (g.D.Disk.reading c.set_gate.new.disk) (g.met.D.Disk.reads_as_image c.set_gate.new.disk) c.set_gate.ensures.tells (λ f now. lem.gated_base front (body r ++ 0 ∷ []) f (gated f now)))
