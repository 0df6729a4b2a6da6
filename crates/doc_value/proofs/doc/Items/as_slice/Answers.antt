use Rattle.std.proofs.Common.{◌≡◌, subst, sym, rules}
use Rattle.doc_value.specs.Document.{IsSound, list, members_of}
use Rattle.doc_value.specs.Seen.{documents}
use Rattle.doc_value.proofs.Parts.{members_sound}
use Rattle.doc_value.proofs.doc.Items.as_slice.Goals as goal

pub returns-clause-sound : goal.returns-clause-sound
returns-clause-sound c sound =
    let docs = c.as_slice.result.now in
    let value : documents docs ≡ c.args.self.now = search rules in
    members_sound docs (subst (λ ds. IsSound (list (members_of ds))) (sym value) sound)
