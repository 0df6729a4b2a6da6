use Rattle.api_records.proofs.BodyLemmas.{kept}
use Rattle.api_records.proofs.body.changes.payload_of.Goals as goal

pub returns-in_ok-copy-in-Some : goal.returns-in_ok-copy-in-Some
returns-in_ok-copy-in-Some c =
    kept _ c.in-Some.payload.now c.in_ok-copy-in-Some.field-0 c.in-Object.field-0 _ c.in-Some.ensures.value c.in-Object.is c.in_ok-judge_id-in-Some.ensures c.in_ok-copy-in-Some.ensures.value
