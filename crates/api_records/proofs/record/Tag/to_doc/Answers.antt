use Rattle.std.proofs.Common.{rules, subst, sym}
use Rattle.doc_value.specs.Seen.{document}
use Rattle.doc_value.specs.declared.doc.Doc.{Doc}
use Rattle.api_records.proofs.RecordLemmas.{IsTold, tag_told}
use Rattle.api_records.proofs.record.Tag.to_doc.Goals as goal

pub returns-clause-doc : goal.returns-clause-doc
returns-clause-doc c = search rules

pub returns-clause-sound : goal.returns-clause-sound
returns-clause-sound c = (subst (λ (d : Doc). IsTold (document d)) (sym (returns-clause-doc c)) (tag_told c.args.self.now)).sound

pub returns-clause-shallow : goal.returns-clause-shallow
returns-clause-shallow c = (subst (λ (d : Doc). IsTold (document d)) (sym (returns-clause-doc c)) (tag_told c.args.self.now)).shallow
