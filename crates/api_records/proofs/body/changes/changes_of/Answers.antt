use Rattle.std.proofs.Common.{rules, ◌≡◌, ◌+◌, ℕ, List, ◌∷◌, ◌++◌, [], length, drop, sym, ap, ◌∙◌, subst}
use Rattle.std.proofs.lemmas.List.{length_push}
use Rattle.doc_value.specs.Document.{members_of}
use Rattle.doc_value.specs.Seen.{document, documents}
use Rattle.doc_value.specs.declared.doc.Doc.{Doc}
use Rattle.api_records.specs.declared.command.Change.{Change}
use Rattle.api_records.specs.Bodies.{Judged, IsWrong, change_in, changes_in}
use Rattle.api_records.proofs.BodyLemmas.{each, behind, one_more, wrong_member, next_doc}
use Rattle.api_records.proofs.body.changes.changes_of.Goals as goal

pub returns-in_err-change_of-clause-exact : goal.returns-in_err-change_of-clause-exact
returns-in_err-change_of-clause-exact c =
    let docs = c.args.docs.now in
    let done = c.loop-doc.changes.items in
    let i = c.loop-doc.doc-index in
    let error = c.in_err-change_of.field-0.0 in
    let judged : Judged Change = change_in (document c.doc-item.result) in
    let rest : Judged (List Change) = changes_in (members_of (documents (drop (i + 1) docs))) in
    let next = next_doc docs i c.doc-item.result c.loop-doc-test.true c.doc-item.is in
    let all : behind done (each judged rest) ≡ changes_in (members_of (documents docs)) =
    ap (λ (xs : List Doc). behind done (changes_in (members_of (documents xs)))) (sym next) ∙ c.loop-doc.invariant.all in
    let wrong : IsWrong error (changes_in (members_of (documents docs))) = subst (λ (j : Judged (List Change)). IsWrong error j) all (wrong_member error done judged rest c.in_err-change_of.ensures) in
    search rules

pub loop-doc-preserved : goal.loop-doc-preserved
loop-doc-preserved c =
    let docs = c.args.docs.now in
    let done = c.loop-doc.changes.items in
    let i = c.loop-doc.doc-index in
    let change : Change = c.in_ok-change_of.field-0 in
    let judged : Judged Change = change_in (document c.doc-item.result) in
    let rest : Judged (List Change) = changes_in (members_of (documents (drop (i + 1) docs))) in
    let next = next_doc docs i c.doc-item.result c.loop-doc-test.true c.doc-item.is in
    let pushed : c.push.new.self.items ≡ done ++ change ∷ [] = c.in_ok-push.ensures.items in
    record {
      all = ap (λ (xs : List Change). behind xs rest) pushed ∙ sym (one_more done judged change rest c.in_ok-change_of.ensures)
          ∙ ap (λ (xs : List Doc). behind done (changes_in (members_of (documents xs)))) (sym next) ∙ c.loop-doc.invariant.all;
      as_many = ap length pushed ∙ length_push done change ∙ ap (λ (n : ℕ). n + 1) c.loop-doc.invariant.as_many;
    }
