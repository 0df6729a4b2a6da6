use Rattle.std.proofs.Common.{rules, ◌∙◌, ap}
use Rattle.doc_value.specs.Document.{text}
use Rattle.repo_state.proofs.PayloadLemmas.{payload_with_id}
use Rattle.repo_state.proofs.number.with_id.Goals as goal

pub returns-in_ok-insert-in-Object-clause-payload : goal.returns-in_ok-insert-in-Object-clause-payload
returns-in_ok-insert-in-Object-clause-payload c =
    payload_with_id c.args.payload.now c.in-Object.fields c.insert.new.self c.args.id (text c.of-text.result) (search rules) c.requires c.in_ok-insert-in-Object.ensures.ok
    (ap text (c.of-text.ensures ∙ c.in_ok-from_utf8_lossy-in-Object.ensures.ok c.text-content.ensures.utf8 ∙ c.text-content.ensures.text)) c.text-content.ensures.reads
