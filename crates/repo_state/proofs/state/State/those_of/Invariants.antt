use Rattle.std.proofs.Common.{◌≡◌, take, Some}
use Rattle.std.specs.List.{filter}
use Rattle.repo_state.specs.Lists.{is_listed, records_at}
use Rattle.repo_state.proofs.state.State.those_of.Given as goal

-- those so far
abbrev pub invariant-loop-id : goal.invariant-loop-id
invariant-loop-id l = l.listed.items ≡ filter (is_listed l.kind (Some l.project) (records_at l.self l.point)) (take l.id-index l.ids)
