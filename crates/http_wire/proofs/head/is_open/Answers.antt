use Rattle.http_wire.proofs.HeadLemmas.{unspaced_kind, lines_kind, none_if_never, none_in_front, open_or_broken_then, first_broken, first_open}
use Rattle.http_wire.proofs.head.is_open.Goals as goal

pub can_begin-requires-clause-none : goal.can_begin-requires-clause-none
can_begin-requires-clause-none c = none_in_front c.args.window.now c.first_space.result (none_if_never c.args.window.now c.requires.none)

pub returns-then-not-branch : goal.returns-then-not-branch
returns-then-not-branch c =
    let e = c.first_space.ensures in
    first_broken c.args.window.now c.first_space.result c.in_ok-can_begin.field-0 c.if-not-branch.true (unspaced_kind c.args.window.now c.first_space.result e.within e.before) c.in_ok-can_begin.ensures

pub can_begin-requires-2-clause-kind : goal.can_begin-requires-2-clause-kind
can_begin-requires-2-clause-kind c = let e = c.lines_len.ensures in lines_kind c.args.window.now c.lines_len.result e.within e.last

pub can_begin-requires-2-clause-none : goal.can_begin-requires-2-clause-none
can_begin-requires-2-clause-none c = none_in_front c.args.window.now c.lines_len.result (none_if_never c.args.window.now c.requires.none)

pub returns : goal.returns
returns c =
    let window = c.args.window.now in
    let lines = c.lines_len.ensures in
    let first = first_open window c.first_space.result c.in_ok-can_begin.field-0 c.if-not-branch.false c.in_ok-can_begin.ensures in
    open_or_broken_then window c.first_space.result c.lines_len.result c.can_begin-2.result c.first_space.ensures.found lines.after (lines_kind window c.lines_len.result lines.within lines.last) first c.can_begin-2.ensures
