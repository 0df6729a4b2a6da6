use Rattle.http_wire.proofs.FrontLemmas.{method_text}
use Rattle.http_wire.proofs.front.judge_body.Goals as goal

pub text_at-requires-clause-text : goal.text_at-requires-clause-text
text_at-requires-clause-text c = method_text c.args.bytes.now c.window-window.result.now c.args.spans.now c.args.head.now c.window-window.ensures c.requires.found
