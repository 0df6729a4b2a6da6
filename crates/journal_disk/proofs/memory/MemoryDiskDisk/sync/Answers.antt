use Rattle.std.proofs.Common.{inl, sym, ◌∙◌}
use Rattle.journal_disk.specs.MemoryLaws.{told_bytes}
use Rattle.journal_disk.proofs.Memories as lem
use Rattle.journal_disk.proofs.memory.MemoryDiskDisk.sync.Goals as goal

pub returns-clause-durable : goal.returns-clause-durable
returns-clause-durable c = λ f now.
    let is = lem.sync_image c.args.self.now.first.items c.args.self.now.told c.keep_sync.new.told c.args.self.now.bytes.items c.args.self.now.calls.items c.keep_sync.new.calls.items (λ t. let k = c.keep_sync.ensures.kept t in (k.0, (k.1.0, k.1.1 ∙ c.deref.ensures.value, k.1.2))) f now in
    lem.told_reading c.keep_sync.new.told c.args.self.now.bytes.items f now.0 is.1

pub returns-clause-crash : goal.returns-clause-crash
returns-clause-crash c = λ f now.
    let is = lem.sync_image c.args.self.now.first.items c.args.self.now.told c.keep_sync.new.told c.args.self.now.bytes.items c.args.self.now.calls.items c.keep_sync.new.calls.items (λ t. let k = c.keep_sync.ensures.kept t in (k.0, (k.1.0, k.1.1 ∙ c.deref.ensures.value, k.1.2))) f now in
    (is.0, inl is.1)

pub returns-clause-goes_on : goal.returns-clause-goes_on
returns-clause-goes_on c = record {
  later = c.keep_sync.ensures.no_shorter;
  nothing_else = lem.time_push c.args.self.now.first.items c.args.self.now.told c.keep_sync.new.told c.args.self.now.bytes.items c.args.self.now.bytes.items c.args.self.now.calls.items c.keep_sync.new.calls.items (λ now. let k = c.keep_sync.ensures.kept now in (k.0, (_, k.1.2)));
  none_forgotten = λ t b f told le. lem.time_kept c.args.self.now.first.items c.args.self.now.told c.keep_sync.new.told c.args.self.now.bytes.items c.args.self.now.bytes.items c.args.self.now.calls.items c.keep_sync.new.calls.items (λ now. let k = c.keep_sync.ensures.kept now in (k.0, (_, k.1.2))) (told_bytes c.keep_sync.new.told c.args.self.now.bytes.items b told).0 c.args.self.now.replayed t f le;
}

pub invariant_of-self-2 : goal.invariant_of-self-2
invariant_of-self-2 c = record {
  replayed = λ now.
      let was = c.keep_sync.ensures.kept now in
      lem.read_push c.args.self.now.first.items c.args.self.now.told c.keep_sync.new.told c.args.self.now.bytes.items c.args.self.now.bytes.items c.args.self.now.calls.items c.keep_sync.new.calls.items _ was.1.2 (c.args.self.now.replayed was.0) (sym (was.1.1 ∙ c.deref.ensures.value));
}
