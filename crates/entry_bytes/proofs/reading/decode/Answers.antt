use Rattle.std.proofs.Common.{arith}
use Rattle.entry_bytes.proofs.Entries.{is_found, is_sound, is_proper, is_none}
use Rattle.entry_bytes.proofs.reading.decode.Goals as goal

pub returns-clause-found : goal.returns-clause-found
returns-clause-found c = is_found c.args.bytes.now (λ i. omega (arith, c.type_inv.bytes i)) c.read_whole.result c.read_whole.ensures.read c.read_whole.ensures.kept

pub returns-clause-sound : goal.returns-clause-sound
returns-clause-sound c = is_sound c.args.bytes.now (λ i. omega (arith, c.type_inv.bytes i)) c.read_whole.result c.read_whole.ensures.read c.read_whole.ensures.kept

pub returns-clause-proper : goal.returns-clause-proper
returns-clause-proper c = is_proper c.args.bytes.now (λ i. omega (arith, c.type_inv.bytes i)) c.read_whole.result c.read_whole.ensures.read c.read_whole.ensures.kept

pub returns-clause-none : goal.returns-clause-none
returns-clause-none c = is_none c.args.bytes.now c.read_whole.result c.read_whole.ensures.read
