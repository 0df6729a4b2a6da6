use Rattle.std.proofs.Common.{◌≡◌, ◌++◌, drop, map}
use Rattle.api_records.specs.Sets.{has}
use Rattle.api_records.specs.Changes.{versions, last_serial}
use Rattle.repo_state.specs.Payloads.{AllStored}
use Rattle.repo_state.proofs.number.versions.Given as goal

-- what was made and what the rest makes are what all make
abbrev pub invariant-loop-change : goal.invariant-loop-change
invariant-loop-change l = record {
  made : map (λ v. v.value) l.made.items ++ versions l.repository (has l.known) l.next (drop l.change-index l.changes) ≡ versions l.repository (has l.known) l.from l.changes;
  next : last_serial l.repository (has l.known) l.next (drop l.change-index l.changes) ≡ last_serial l.repository (has l.known) l.from l.changes;
  stored : AllStored l.made.items;
}
