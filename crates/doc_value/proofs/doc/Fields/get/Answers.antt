use Rattle.std.proofs.Common.{option_map, ap, ◌∙◌, nat_cmp}
use Rattle.std.specs.Cmp.Lexicographic.{slice_cmp}
use Rattle.std.specs.FinMap.{find}
use Rattle.doc_value.specs.Seen.{document}
use Rattle.doc_value.proofs.Parts.{found_sound, seen_sound}
use Rattle.doc_value.proofs.Reading.{found_among, seen_of_ref}
use Rattle.doc_value.proofs.doc.Fields.get.Goals as goal

pub returns-clause-value : goal.returns-clause-value
returns-clause-value c =
    seen_of_ref c.get.result ∙ ap (option_map document) c.get.ensures.value ∙ found_among c.args.name.now c.self.inside.docs.entries ∙ ap (find (slice_cmp nat_cmp) c.args.name.now) c.self.view_is

pub returns-clause-sound : goal.returns-clause-sound
returns-clause-sound c sound = seen_sound c.get.result (find (slice_cmp nat_cmp) c.args.name.now c.args.self.now) (returns-clause-value c) (found_sound c.args.name.now c.args.self.now sound)
