use Rattle.sysapi_serve.proofs.LawLemmas.{all_are_judged}
use Rattle.sysapi_serve.proofs.laws.all_are_judged.Goals as goal

pub returns : goal.returns
returns c = all_are_judged
