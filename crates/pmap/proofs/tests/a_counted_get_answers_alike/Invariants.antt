use Rattle.pmap.proofs.tests.a_counted_get_answers_alike.Given as goal

abbrev pub ghosts-counted : goal.ghosts-counted
ghosts-counted g a = record { name = a.blank.name; parts = a.blank.parts }
