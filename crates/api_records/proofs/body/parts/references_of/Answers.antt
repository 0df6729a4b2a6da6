use Rattle.std.proofs.Common.{rules, ◌≡◌, ◌+◌, ℕ, List, drop, sym, ap, ◌∙◌, subst}
use Rattle.doc_value.specs.Document.{members_of}
use Rattle.doc_value.specs.Reference.{reference}
use Rattle.doc_value.specs.Seen.{document, documents}
use Rattle.doc_value.specs.declared.doc.Doc.{Doc}
use Rattle.api_records.specs.Bodies.{Judged, IsWrong, or_wrong, all_references}
use Rattle.api_records.proofs.BodyLemmas.{each, behind, one_more, wrong_member, next_doc}
use Rattle.api_records.proofs.body.parts.references_of.Goals as goal

pub returns-in_err-reference_of : goal.returns-in_err-reference_of
returns-in_err-reference_of c =
    let docs = c.args.docs.now in
    let key = c.args.key.now in
    let ids = c.loop-doc.ids.items in
    let i = c.loop-doc.doc-index in
    let error = c.in_err-reference_of.field-0.0 in
    let judged : Judged ℕ = or_wrong key (reference (document c.doc-item.result)) in
    let rest : Judged (List ℕ) = all_references key (members_of (documents (drop (i + 1) docs))) in
    let next = next_doc docs i c.doc-item.result c.loop-doc-test.true c.doc-item.is in
    let all : behind ids (each judged rest) ≡ all_references key (members_of (documents docs)) =
    ap (λ (xs : List Doc). behind ids (all_references key (members_of (documents xs)))) (sym next) ∙ c.loop-doc.invariant in
    let wrong : IsWrong error (all_references key (members_of (documents docs))) = subst (λ (j : Judged (List ℕ)). IsWrong error j) all (wrong_member error ids judged rest c.in_err-reference_of.ensures) in
    search rules

pub loop-doc-preserved : goal.loop-doc-preserved
loop-doc-preserved c =
    let docs = c.args.docs.now in
    let key = c.args.key.now in
    let ids = c.loop-doc.ids.items in
    let i = c.loop-doc.doc-index in
    let judged : Judged ℕ = or_wrong key (reference (document c.doc-item.result)) in
    let rest : Judged (List ℕ) = all_references key (members_of (documents (drop (i + 1) docs))) in
    let next = next_doc docs i c.doc-item.result c.loop-doc-test.true c.doc-item.is in
    ap (λ (xs : List ℕ). behind xs rest) c.in_ok-push.ensures.items ∙ sym (one_more ids judged c.in_ok-reference_of.field-0 rest c.in_ok-reference_of.ensures)
    ∙ ap (λ (xs : List Doc). behind ids (all_references key (members_of (documents xs)))) (sym next) ∙ c.loop-doc.invariant
