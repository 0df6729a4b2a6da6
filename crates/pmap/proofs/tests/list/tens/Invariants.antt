use Rattle.pmap.proofs.tests.list.tens.Given as goal

abbrev pub invariant-loop : goal.invariant-loop
invariant-loop l = Unit {0}
