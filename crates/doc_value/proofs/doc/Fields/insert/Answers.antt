use Rattle.std.proofs.Common.{ap, ◌∙◌, sym, subst, nat_cmp}
use Rattle.std.specs.Cmp.Lexicographic.{slice_cmp}
use Rattle.std.specs.FinMap.{put}
use Rattle.doc_value.specs.Document.{IsSound, object, fields_of}
use Rattle.doc_value.specs.Seen.{document, all_named}
use Rattle.doc_value.proofs.Parts.{put_sound}
use Rattle.doc_value.proofs.Reading.{named_insert}
use Rattle.doc_value.proofs.doc.Fields.insert.Goals as goal

pub returns-clause-ok : goal.returns-clause-ok
returns-clause-ok c =
    ap all_named c.in_ok-insert.ensures.entries ∙ named_insert c.self.inside.docs.entries c.in_ok-name.name c.args.doc
    ∙ ap (λ k. put (slice_cmp nat_cmp) k (document c.args.doc) (all_named c.self.inside.docs.entries)) c.in_ok-name.ensures.ok
    ∙ ap (put (slice_cmp nat_cmp) c.args.name.now (document c.args.doc)) c.self.view_is

pub returns-clause-sound : goal.returns-clause-sound
returns-clause-sound c before sound less =
    subst (λ es. IsSound (object (fields_of es))) (sym (returns-clause-ok c)) (put_sound c.args.name.now (document c.args.doc) c.args.self.now sound less before)
