use Rattle.std.proofs.Common.{subst, sym}
use Rattle.std.specs.Str.{IsUtf8}
use Rattle.sysapi_base.proofs.TextLemmas.{moment_utf8}
use Rattle.sysapi_base.proofs.moment.Moment.text.Goals as goal

pub returns-clause-utf8 : goal.returns-clause-utf8
returns-clause-utf8 c = subst IsUtf8 (sym c.written.ensures) (moment_utf8 c.self.inside.millis)
