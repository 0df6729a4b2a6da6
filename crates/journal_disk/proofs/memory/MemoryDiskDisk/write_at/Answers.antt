use Rattle.journal_disk.specs.MemoryLaws.{told_bytes}
use Rattle.journal_disk.proofs.Memories as lem
use Rattle.journal_disk.proofs.memory.MemoryDiskDisk.write_at.Goals as goal

pub invariant_of-self : goal.invariant_of-self
invariant_of-self c = record { replayed = lem.write_replayed c.args.self.now.first.items c.args.self.now.told c.write_over.new.told c.args.self.now.bytes.items c.write_over.new.bytes.items c.args.self.now.calls.items c.write_over.new.calls.items c.args.at _ c.args.from.now c.write_over.ensures.kept c.write_over.ensures.reads c.args.self.now.replayed }

pub returns-then-done-clause-crash : goal.returns-then-done-clause-crash
returns-then-done-clause-crash c = lem.write_image c.args.self.now.first.items c.args.self.now.told c.write_over.new.told c.args.self.now.bytes.items c.write_over.new.bytes.items c.args.self.now.calls.items c.write_over.new.calls.items c.args.at _ c.args.from.now c.write_over.ensures.kept c.write_over.ensures.reads

pub returns-then-done-clause-goes_on : goal.returns-then-done-clause-goes_on
returns-then-done-clause-goes_on c = record {
  later = c.write_over.ensures.no_shorter;
  nothing_else = lem.time_push c.args.self.now.first.items c.args.self.now.told c.write_over.new.told c.args.self.now.bytes.items c.write_over.new.bytes.items c.args.self.now.calls.items c.write_over.new.calls.items (λ now. let k = c.write_over.ensures.kept now in (k.0, (_, k.1.2)));
  none_forgotten = λ t b f told le. lem.time_kept c.args.self.now.first.items c.args.self.now.told c.write_over.new.told c.args.self.now.bytes.items c.write_over.new.bytes.items c.args.self.now.calls.items c.write_over.new.calls.items (λ now. let k = c.write_over.ensures.kept now in (k.0, (_, k.1.2))) (told_bytes c.write_over.new.told c.write_over.new.bytes.items b told).0 c.args.self.now.replayed t f le;
}

pub returns-else-done-clause-crash : goal.returns-else-done-clause-crash
returns-else-done-clause-crash c = lem.write_image c.args.self.now.first.items c.args.self.now.told c.write_over.new.told c.args.self.now.bytes.items c.write_over.new.bytes.items c.args.self.now.calls.items c.write_over.new.calls.items c.args.at _ c.args.from.now c.write_over.ensures.kept c.write_over.ensures.reads

pub returns-else-done-clause-goes_on : goal.returns-else-done-clause-goes_on
returns-else-done-clause-goes_on c = record {
  later = c.write_over.ensures.no_shorter;
  nothing_else = lem.time_push c.args.self.now.first.items c.args.self.now.told c.write_over.new.told c.args.self.now.bytes.items c.write_over.new.bytes.items c.args.self.now.calls.items c.write_over.new.calls.items (λ now. let k = c.write_over.ensures.kept now in (k.0, (_, k.1.2)));
  none_forgotten = λ t b f told le. lem.time_kept c.args.self.now.first.items c.args.self.now.told c.write_over.new.told c.args.self.now.bytes.items c.write_over.new.bytes.items c.args.self.now.calls.items c.write_over.new.calls.items (λ now. let k = c.write_over.ensures.kept now in (k.0, (_, k.1.2))) (told_bytes c.write_over.new.told c.write_over.new.bytes.items b told).0 c.args.self.now.replayed t f le;
}
