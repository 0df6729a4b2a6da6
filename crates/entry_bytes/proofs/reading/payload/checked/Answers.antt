use Rattle.std.proofs.Common.{◌≡◌, true, sym, ◌∙◌}
use Rattle.doc_value.specs.Data.{compact}
use Rattle.doc_value.specs.Seen.{document}
use Rattle.entry_bytes.specs.Reading.{is_payload}
use Rattle.entry_bytes.proofs.Payloads.{payload_checked, same_bytes}
use Rattle.entry_bytes.proofs.reading.payload.checked.Goals as goal

pub returns-clause-read : goal.returns-clause-read
returns-clause-read c =
    let is : is_payload (document c.args.doc) ≡ true = sym c.is_payload_of.ensures ∙ c.if-not-is_payload_of.false in
    let same : compact (document c.args.doc) ≡ c.args.text.now =
    sym c.in_ok-written.ensures.text ∙ sym c.as_slice.ensures.value ∙ same_bytes c.as_slice.result.now c.args.text.now (sym c.ne.ensures ∙ c.if-ne.false) in
    payload_checked c.args.text.now c.args.doc is same
