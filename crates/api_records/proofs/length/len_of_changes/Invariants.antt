use Rattle.std.proofs.Common.{◌≡◌, take}
use Rattle.std.specs.List.{flat_map}
use Rattle.doc_value.specs.Length.{plus}
use Rattle.api_records.specs.Spelling.{change_bytes}
use Rattle.api_records.proofs.length.len_of_changes.Given as goal

abbrev pub invariant-loop-change : goal.invariant-loop-change
invariant-loop-change l = l.total ≡ plus l.initial.total (flat_map change_bytes (take l.change-index l.changes))
