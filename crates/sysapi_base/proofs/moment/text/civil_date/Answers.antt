use Rattle.std.proofs.Common.{◌≡◌, pos, to_z, w64, ◌∙◌, arith}
use Rattle.std.proofs.lemmas.Int.{to_z_pos}
use Rattle.sysapi_base.proofs.CalendarLemmas.{same_date}
use Rattle.sysapi_base.proofs.moment.text.civil_date.Goals as goal

pub returns : goal.returns
returns c =
    let small : to_z w64 c.args.days ≡ pos c.args.days = to_z_pos w64 c.args.days (omega arith) in
    same_date c.args.days c.in-Ok.date c.requires (c.in-Ok.ensures.value ∙ small)
