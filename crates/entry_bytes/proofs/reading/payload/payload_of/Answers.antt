use Rattle.entry_bytes.proofs.Payloads.{result_kept}
use Rattle.entry_bytes.proofs.reading.payload.payload_of.Goals as goal

pub returns-clause-kept : goal.returns-clause-kept
returns-clause-kept c =
    result_kept c.checked.result c.args.text.now c.in_ok-doc.doc c.in_ok-doc.ensures.sound c.in_ok-doc.ensures.proper c.checked.ensures.read c.checked.ensures.same
