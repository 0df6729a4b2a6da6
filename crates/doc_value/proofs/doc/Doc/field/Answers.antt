use Rattle.std.proofs.Common.{option_map, ap, ◌∙◌, sym}
use Rattle.doc_value.specs.Document.{field_at, object, fields_of}
use Rattle.doc_value.specs.Seen.{document}
use Rattle.doc_value.proofs.Parts.{field_sound, seen_sound}
use Rattle.doc_value.proofs.Reading.{found_at, seen_of_ref}
use Rattle.doc_value.proofs.doc.Doc.field.Goals as goal

pub returns-in-Object-clause-value : goal.returns-in-Object-clause-value
returns-in-Object-clause-value c =
    seen_of_ref c.get.result ∙ ap (option_map document) c.get.ensures.value ∙ found_at c.args.name.now c.fields.inside.docs.entries
    ∙ ap (λ es. field_at c.args.name.now (object (fields_of es))) c.fields.view_is ∙ ap (λ d. field_at c.args.name.now (document d)) (sym c.in-Object.is)

pub returns-in-Object-clause-sound : goal.returns-in-Object-clause-sound
returns-in-Object-clause-sound c sound =
    let d = document c.args.self.now in
    seen_sound c.get.result (field_at c.args.name.now d) (returns-in-Object-clause-value c) (field_sound c.args.name.now d sound)
