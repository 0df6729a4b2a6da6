use Rattle.sysapi_serve.proofs.LawLemmas.{is_complete}
use Rattle.sysapi_serve.proofs.laws.is_complete.Goals as goal

pub returns : goal.returns
returns c = is_complete
