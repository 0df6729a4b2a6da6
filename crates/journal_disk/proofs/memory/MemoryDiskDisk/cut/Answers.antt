use Rattle.journal_disk.specs.MemoryLaws.{told_bytes}
use Rattle.journal_disk.proofs.Memories as lem
use Rattle.journal_disk.proofs.memory.MemoryDiskDisk.cut.Goals as goal

pub invariant_of-self : goal.invariant_of-self
invariant_of-self c = record {
  replayed = λ now.
      let was = c.cut_off.ensures.kept now in
      lem.read_push c.args.self.now.first.items c.args.self.now.told c.cut_off.new.told c.args.self.now.bytes.items c.cut_off.new.bytes.items c.args.self.now.calls.items c.cut_off.new.calls.items _ was.1 (c.args.self.now.replayed was.0) c.cut_off.ensures.reads;
}

pub returns-then-done-clause-crash : goal.returns-then-done-clause-crash
returns-then-done-clause-crash c = lem.cut_image c.args.self.now.first.items c.args.self.now.told c.cut_off.new.told c.args.self.now.bytes.items c.cut_off.new.bytes.items c.args.self.now.calls.items c.cut_off.new.calls.items c.args.len _ c.cut_off.ensures.kept c.cut_off.ensures.reads

pub returns-then-done-clause-goes_on : goal.returns-then-done-clause-goes_on
returns-then-done-clause-goes_on c = record {
  later = c.cut_off.ensures.no_shorter;
  nothing_else = lem.time_push c.args.self.now.first.items c.args.self.now.told c.cut_off.new.told c.args.self.now.bytes.items c.cut_off.new.bytes.items c.args.self.now.calls.items c.cut_off.new.calls.items (λ now. let k = c.cut_off.ensures.kept now in (k.0, (_, k.1)));
  none_forgotten = λ t b f told le. lem.time_kept c.args.self.now.first.items c.args.self.now.told c.cut_off.new.told c.args.self.now.bytes.items c.cut_off.new.bytes.items c.args.self.now.calls.items c.cut_off.new.calls.items (λ now. let k = c.cut_off.ensures.kept now in (k.0, (_, k.1))) (told_bytes c.cut_off.new.told c.cut_off.new.bytes.items b told).0 c.args.self.now.replayed t f le;
}

pub returns-else-done-clause-crash : goal.returns-else-done-clause-crash
returns-else-done-clause-crash c = lem.cut_image c.args.self.now.first.items c.args.self.now.told c.cut_off.new.told c.args.self.now.bytes.items c.cut_off.new.bytes.items c.args.self.now.calls.items c.cut_off.new.calls.items c.args.len _ c.cut_off.ensures.kept c.cut_off.ensures.reads

pub returns-else-done-clause-goes_on : goal.returns-else-done-clause-goes_on
returns-else-done-clause-goes_on c = record {
  later = c.cut_off.ensures.no_shorter;
  nothing_else = lem.time_push c.args.self.now.first.items c.args.self.now.told c.cut_off.new.told c.args.self.now.bytes.items c.cut_off.new.bytes.items c.args.self.now.calls.items c.cut_off.new.calls.items (λ now. let k = c.cut_off.ensures.kept now in (k.0, (_, k.1)));
  none_forgotten = λ t b f told le. lem.time_kept c.args.self.now.first.items c.args.self.now.told c.cut_off.new.told c.args.self.now.bytes.items c.cut_off.new.bytes.items c.args.self.now.calls.items c.cut_off.new.calls.items (λ now. let k = c.cut_off.ensures.kept now in (k.0, (_, k.1))) (told_bytes c.cut_off.new.told c.cut_off.new.bytes.items b told).0 c.args.self.now.replayed t f le;
}
