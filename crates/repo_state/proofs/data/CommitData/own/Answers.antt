use Rattle.std.specs.Ordering.{nat_cmp}
use Rattle.std.specs.FinMap.{find}
use Rattle.std.proofs.Common.{ap, sym, ◌∙◌, option_map}
use Rattle.repo_state.proofs.PayloadLemmas.{own_sound}
use Rattle.repo_state.proofs.data.CommitData.own.Goals as goal

pub returns-in-Some-clause-sound : goal.returns-in-Some-clause-sound
returns-in-Some-clause-sound c = own_sound c.as_ref.result c.in-Some.version.now (find nat_cmp c.args.id c.args.self.now.own) c.as_ref.ensures.value
    (ap (option_map (λ v. v.now)) (sym c.in-Some.is) ∙ c.find.ensures) (c.args.self.now.payloads c.args.id)
