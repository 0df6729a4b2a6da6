use Rattle.sysapi_serve.proofs.LawLemmas.{points_never_go_back}
use Rattle.sysapi_serve.proofs.laws.points_never_go_back.Goals as goal

pub returns : goal.returns
returns c = points_never_go_back
