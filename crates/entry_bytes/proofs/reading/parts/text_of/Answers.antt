use Rattle.std.proofs.Common.{◌≡◌, sym, ◌∙◌, ap, Some}
use Rattle.entry_bytes.proofs.Fields.{utf8_again, utf8_none}
use Rattle.entry_bytes.proofs.reading.parts.text_of.Goals as goal

pub returns-in_ok-from_str-in-Ok : goal.returns-in_ok-from_str-in-Ok
returns-in_ok-from_str-in-Ok c =
    let is : c.of.result ≡ c.args.bytes.now = c.of.ensures ∙ c.in_ok-from_str-in-Ok.ensures.ok ∙ c.in-Ok.ensures.cases.0 in
    utf8_again c.args.bytes.now c.in-Ok.ensures.cases.1 ∙ ap Some (sym is)

pub returns-in-Err : goal.returns-in-Err
returns-in-Err c = utf8_none c.args.bytes.now c.in-Err.ensures.cases.0
