use Rattle.std.proofs.Crossing.{crosses}
use denote.Param.Send.{sendable}
use Rattle.pmap.proofs.tree.Tree.TheLaws.TheKnot.{both_send-Tree, both_sync-Tree}
use Rattle.timeline.proofs.tests.threads_may_share_it.Goals as goal

pub may_be_shared-requires-send-T : goal.may_be_shared-requires-send-T
may_be_shared-requires-send-T c = λ κs. search (crosses, both_send-Tree, both_sync-Tree, sendable) depth 60 fits 50000

pub may_be_shared-requires-sync-T : goal.may_be_shared-requires-sync-T
may_be_shared-requires-sync-T c = λ κs. search (crosses, both_send-Tree, both_sync-Tree, sendable) depth 60 fits 50000
