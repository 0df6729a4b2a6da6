use Rattle.std.proofs.Common.{◌≡◌, rules}
use Rattle.journal_disk.proofs.memory.keep_write.Goals as goal

pub returns-in-Ok-clause-kept : goal.returns-in-Ok-clause-kept
returns-in-Ok-clause-kept c = λ now.
    let same : c.in-Ok.from.items ≡ c.args.from.now = search rules in
    let kept = c.keep.ensures.kept now in
    (kept.0, (c.in-Ok.from, same, kept.1))
