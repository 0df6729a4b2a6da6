use Rattle.http_wire.proofs.HeadLemmas.{in_partial, open_if_may}
use Rattle.http_wire.proofs.head.judge_head.Goals as goal

pub returns-in-Partial : goal.returns-in-Partial
returns-in-Partial c =
    let may = in_partial c.args.window.now c.parse.new.spans c.in_ok-parsed.parsed c.in-Partial.is c.in_ok-parsed.ensures in
    (may.0, open_if_may c.args.window.now may.1)
