use Rattle.std.proofs.Common.{ap, ◌∙◌}
use Rattle.journal_disk.specs.Memory.{fill_step}
use Rattle.journal_disk.proofs.Memories.{fill_more}
use Rattle.journal_disk.proofs.memory.replay.filled.Goals as goal

pub calls-preserved : goal.calls-preserved
calls-preserved c =
    fill_more c.args.fill c.args.first.now c.args.calls.now c.calls.call-index c.call-item.result c.calls.image.items c.in_ok-image-2.image.items c.calls-test.true c.call-item.is c.calls.invariant
    (c.in_ok-image-2.ensures ∙ ap (fill_step c.args.fill c.call-item.result) c.deref.ensures.value)
