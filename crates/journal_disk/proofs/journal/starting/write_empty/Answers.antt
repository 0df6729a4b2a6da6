use Rattle.std.proofs.Common.{subst, refl, List, ℕ, []}
use Rattle.std.proofs.lemmas.Result.{on_ok_weaker}
use Rattle.journal_disk.specs.Format.{Begins}
use Rattle.journal_disk.proofs.journal.starting.write_empty.Goals as goal

pub returns-clause-ok : goal.returns-clause-ok
returns-clause-ok g c = on_ok_weaker c.put_text.result (λ all f now.
    subst (λ (t : List ℕ). Begins t f) c.empty_text.ensures (all [] refl (λ d was. (d, refl)) f now)) c.put_text.ensures.ok
