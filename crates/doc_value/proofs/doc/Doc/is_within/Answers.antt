use Rattle.doc_value.specs.Seen.{document}
use Rattle.doc_value.proofs.Limits.{within_means}
use Rattle.doc_value.proofs.doc.Doc.is_within.Goals as goal

pub returns : goal.returns
returns c = within_means c.is_doc_within.result c.args.limit (document c.args.self.now) c.is_doc_within.ensures
