-- What a graph holds.
use Rattle.std.specs.Prelude.{List, [], Option, Some, None}
use Rattle.std.specs.declared.sync.Arc.{Arc}
use Rattle.std.specs.declared.alloc.Global.{Global}
use Rattle.commit_graph.specs.declared.graph.Commit.{Commit}

-- the commits behind the Arc, none where it is not there yet
abbrev pub shared_commits : Option (Arc (List Commit) Global) → List Commit
shared_commits None = []
shared_commits (Some commits) = commits.value
