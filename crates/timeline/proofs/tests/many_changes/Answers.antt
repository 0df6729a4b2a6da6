use Rattle.timeline.proofs.tests.many_changes.Goals as goal

pub loop-k-preserved : goal.loop-k-preserved
loop-k-preserved c = tt
