use Rattle.std.proofs.Common.{inr, rules}
use Rattle.std.proofs.lemmas.Result.{IfOk-weaker}
use Rattle.journal_disk.specs.Memory.{fill_calls}
use Rattle.journal_disk.proofs.Memories.{filled_image}
use Rattle.journal_disk.proofs.memory.MemoryDisk.crashed.Goals as goal

pub returns-clause-image : goal.returns-clause-image
returns-clause-image c = IfOk-weaker c.of-2.result _ _ (λ disk reading. (
  fill_calls c.in-Some.fill c.args.self.now.calls.items c.args.self.now.first.items,
  search rules,
  (c.if-not-self.false, inr (filled_image c.in-Some.fill c.args.self.now.calls.items c.args.self.now.first.items)),
)) c.of-2.ensures.reading
