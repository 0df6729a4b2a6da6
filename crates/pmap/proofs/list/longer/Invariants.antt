use Rattle.std.proofs.Common.{◌≡◌, take}
use Rattle.pmap.specs.Chunks.{behind}
use Rattle.pmap.proofs.list.longer.Given as goal

abbrev pub invariant-loop-pointer : goal.invariant-loop-pointer
invariant-loop-pointer g l = behind l.longer.items ≡ behind (take l.pointer-index l.chunk)
