use Rattle.doc_value.specs.Seen.{document}
use Rattle.entry_bytes.proofs.Payloads.{shallow_means}
use Rattle.entry_bytes.proofs.reading.payload.is_shallow_of.Goals as goal

pub returns : goal.returns
returns c = shallow_means c.is_within.result (document c.args.doc.now) c.requires c.is_within.ensures
