use Rattle.std.proofs.Common.{◌≡◌, ◌+◌, ◌-◌, ◌≤◌, length, take, drop, ap, ◌∙◌, arith, length-append, length-drop}
use Rattle.sysapi_base.proofs.MemoryLemmas.{moved, at_end}
use Rattle.sysapi_base.proofs.memory_source.MemorySourceSource.read.Goals as goal

pub returns-clause-bytes : goal.returns-clause-bytes
returns-clause-bytes c =
    let at = c.self.inside.at in
    let n = c.min-n.result in
    let bytes = c.self.inside.bytes.items in
    let rest = drop n c.args.into.now in
    let count : at + n - at ≡ n = omega arith in
    let copied : c.copy_from_slice.new.self ≡ take n (drop at bytes) = c.copy_from_slice.ensures.after ∙ ap (λ m. take m (drop at c.deref.result.now)) count ∙ ap (λ l. take n (drop at l)) c.deref.ensures.value in
    let fits : n ≤ length bytes - at = omega arith in
    (rw (← c.self.view_is) (moved at n bytes rest c.copy_from_slice.new.self fits copied), λ none room. at_end at n c.self.inside.most (length c.args.into.now) bytes c.self.invariant.1 (omega arith) none (omega (arith, length-append c.copy_from_slice.new.self rest, length-drop n c.args.into.now, c.copy_from_slice.ensures.len)))
