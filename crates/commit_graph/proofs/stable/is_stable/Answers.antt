use Rattle.commit_graph.proofs.Ancestors.{ancestors_stay, depths_stay}
use Rattle.commit_graph.proofs.Reached.{reached_before}
use Rattle.commit_graph.proofs.stable.is_stable.Goals as goal

pub returns-clause-ancestors : goal.returns-clause-ancestors
returns-clause-ancestors c = ancestors_stay

pub returns-clause-depths : goal.returns-clause-depths
returns-clause-depths c = depths_stay

pub returns-clause-ancestry : goal.returns-clause-ancestry
returns-clause-ancestry c = reached_before
