use Rattle.doc_value.proofs.Parts.{list_sound}
use Rattle.doc_value.proofs.doc.Items.of.Goals as goal

pub returns-clause-sound : goal.returns-clause-sound
returns-clause-sound c all = list_sound c.args.docs.items all
