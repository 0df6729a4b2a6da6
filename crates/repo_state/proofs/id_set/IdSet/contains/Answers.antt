use Rattle.std.proofs.Common.{ap, ◌∙◌}
use Rattle.std.specs.Ordering.{nat_cmp}
use Rattle.std.specs.FinMap.{find}
use Rattle.api_records.specs.Sets.{has}
use Rattle.repo_state.proofs.Entries.{looked_up, found_has}
use Rattle.repo_state.proofs.id_set.IdSet.contains.Goals as goal

pub returns : goal.returns
returns c =
    c.is_some.ensures ∙ looked_up c.find.result (find nat_cmp c.args.id c.self.inside.ids) c.find.ensures ∙ found_has c.self.inside.ids c.args.id
    ∙ ap (λ ids. has ids c.args.id) c.self.view_is
