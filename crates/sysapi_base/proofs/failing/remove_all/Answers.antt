use Rattle.std.proofs.Common.{◌==◌, not, rules}
use Rattle.std.proofs.lemmas.Fn.{filter_same}
use Rattle.sysapi_base.proofs.failing.remove_all.Goals as goal

pub returns : goal.returns
returns c = filter_same _ (λ n. not (n == c.args.number)) _ (λ x b g h. search rules) _ _ c.retain.ensures.filtered
