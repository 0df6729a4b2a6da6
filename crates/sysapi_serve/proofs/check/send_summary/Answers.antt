use Rattle.std.proofs.Common.{◌++◌, codes, decimal}
use Rattle.std.proofs.lemmas.Result.{err_from_is_err_and}
use Rattle.sysapi_serve.proofs.PieceLemmas.{numbered_behind, numbered_cut, numbered_then}
use Rattle.sysapi_serve.proofs.check.send_summary.Goals as goal

pub returns-in_err-send_numbered-clause-sent : goal.returns-in_err-send_numbered-clause-sent
returns-in_err-send_numbered-clause-sent g c =
    let failed = err_from_is_err_and c.from_residual.result c.from_residual.ensures.1 in
    let taken = g.K.Sink.taken in
    rw failed.1 (numbered_cut (taken c.args.sink.now) (taken c.send_numbered.new.sink) (codes "version 1\nrepository ") (decimal c.args.repository)
    (codes "\nentries " ++ (decimal c.args.count ++ (codes "\nbytes " ++ (decimal c.args.used ++ codes "\n")))) c.in_err-send_numbered.ensures.sent)

pub returns-in_err-send_numbered-2-clause-sent : goal.returns-in_err-send_numbered-2-clause-sent
returns-in_err-send_numbered-2-clause-sent g c =
    let failed = err_from_is_err_and c.from_residual-in_err-send_numbered-2.result c.from_residual-in_err-send_numbered-2.ensures.1 in
    let taken = g.K.Sink.taken in
    let last = codes "\nbytes " ++ (decimal c.args.used ++ codes "\n") in
    rw failed.1 (numbered_behind (taken c.args.sink.now) (taken c.send_numbered.new.sink) (taken c.send_numbered-2.new.sink) (codes "version 1\nrepository ") (decimal c.args.repository)
    (codes "\nentries " ++ (decimal c.args.count ++ last)) c.in_ok-send_numbered.ensures.sent
    (numbered_cut (taken c.send_numbered.new.sink) (taken c.send_numbered-2.new.sink) (codes "\nentries ") (decimal c.args.count) last c.in_err-send_numbered-2.ensures.sent))

pub returns-in_err-send_numbered-3-clause-sent : goal.returns-in_err-send_numbered-3-clause-sent
returns-in_err-send_numbered-3-clause-sent g c =
    let failed = err_from_is_err_and c.from_residual-in_err-send_numbered-3.result c.from_residual-in_err-send_numbered-3.ensures.1 in
    let taken = g.K.Sink.taken in
    let last = codes "\nbytes " ++ (decimal c.args.used ++ codes "\n") in
    rw failed.1 (numbered_behind (taken c.args.sink.now) (taken c.send_numbered.new.sink) (taken c.send_numbered-3.new.sink) (codes "version 1\nrepository ") (decimal c.args.repository)
    (codes "\nentries " ++ (decimal c.args.count ++ last)) c.in_ok-send_numbered.ensures.sent
    (numbered_behind (taken c.send_numbered.new.sink) (taken c.send_numbered-2.new.sink) (taken c.send_numbered-3.new.sink) (codes "\nentries ") (decimal c.args.count) last
    c.in_ok-send_numbered-2.ensures.sent
    (numbered_cut (taken c.send_numbered-2.new.sink) (taken c.send_numbered-3.new.sink) (codes "\nbytes ") (decimal c.args.used) (codes "\n") c.in_err-send_numbered-3.ensures.sent)))

pub returns-clause-sent : goal.returns-clause-sent
returns-clause-sent g c =
    let taken = g.K.Sink.taken in
    let last = codes "\nbytes " ++ (decimal c.args.used ++ codes "\n") in
    numbered_then (taken c.args.sink.now) (taken c.send_numbered.new.sink) (taken c.send.new.sink) (codes "version 1\nrepository ") (decimal c.args.repository)
    (codes "\nentries " ++ (decimal c.args.count ++ last)) c.send.result c.in_ok-send_numbered.ensures.sent
    (numbered_then (taken c.send_numbered.new.sink) (taken c.send_numbered-2.new.sink) (taken c.send.new.sink) (codes "\nentries ") (decimal c.args.count) last c.send.result
    c.in_ok-send_numbered-2.ensures.sent
    (numbered_then (taken c.send_numbered-2.new.sink) (taken c.send_numbered-3.new.sink) (taken c.send.new.sink) (codes "\nbytes ") (decimal c.args.used) (codes "\n") c.send.result
    c.in_ok-send_numbered-3.ensures.sent c.send.ensures.sent))
