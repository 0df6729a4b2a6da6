use Rattle.journal_disk.proofs.memory.write_over.Goals as goal

pub returns-then-done-clause-kept : goal.returns-then-done-clause-kept
returns-then-done-clause-kept c = λ now. c.keep_write.ensures.kept (c.put.ensures.told now)
