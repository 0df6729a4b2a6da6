use Rattle.pmap.proofs.tests.list.tens.Goals as goal

pub loop-preserved : goal.loop-preserved
loop-preserved c = tt
