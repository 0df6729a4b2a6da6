use Rattle.entry_bytes.proofs.Entries.{one_spelling}
use Rattle.entry_bytes.proofs.laws.one_spelling.Goals as goal

pub returns : goal.returns
returns c = one_spelling
