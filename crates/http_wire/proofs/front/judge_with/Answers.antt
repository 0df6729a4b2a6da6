use Rattle.std.proofs.Common.{arith}
use Rattle.http_wire.specs.Fronts.{with_body}
use Rattle.http_wire.proofs.FrontLemmas.{judged_in, tells_stands, crowd_refused, open_short, open_long}
use Rattle.http_wire.proofs.front.judge_with.Goals as goal

pub returns-in-Stands-clause-front : goal.returns-in-Stands-clause-front
returns-in-Stands-clause-front c =
    let bytes = c.args.bytes.now in
    let spans = c.judge_head.new.spans in
    let found = judged_in bytes c.window.result.now spans c.in_ok-head.head _ c.window.ensures c.in-Stands.is c.in_ok-head.ensures in
    tells_stands bytes spans c.in-Stands.head (with_body bytes c.judge_body.result) found c.judge_body.ensures.front

pub returns-in-Crowded-clause-front : goal.returns-in-Crowded-clause-front
returns-in-Crowded-clause-front c =
    let bytes = c.args.bytes.now in
    λ _. crowd_refused bytes (judged_in bytes c.window.result.now c.judge_head.new.spans c.in_ok-head.head _ c.window.ensures c.in-Crowded.is c.in_ok-head.ensures)

pub returns-in-Open-clause-front : goal.returns-in-Open-clause-front
returns-in-Open-clause-front c =
    let bytes = c.args.bytes.now in
    open_short bytes (judged_in bytes c.window.result.now c.judge_head.new.spans c.in_ok-head.head _ c.window.ensures c.in-Open.is c.in_ok-head.ensures) (omega arith)

pub returns-in-Open-2-clause-front : goal.returns-in-Open-2-clause-front
returns-in-Open-2-clause-front c =
    let bytes = c.args.bytes.now in
    λ _. open_long bytes (judged_in bytes c.window.result.now c.judge_head.new.spans c.in_ok-head.head _ c.window.ensures c.in-Open-2.is c.in_ok-head.ensures) (omega arith)
