use Rattle.std.proofs.Common.{ℕ, List, ap, ◌∙◌}
use Rattle.std.specs.Prelude.{map, ⊤}
use Rattle.api_records.specs.Sets.{has, added}
use Rattle.repo_state.proofs.Entries.{has_put}
use Rattle.repo_state.proofs.id_set.IdSet.add.Goals as goal

pub returns : goal.returns
returns c =
    ap (λ (es : List (ℕ × ⊤)). has (map (λ e. e.0) es)) c.in_ok-ids.ensures ∙ has_put c.args.id c.in_ok-new.field-0.value c.self.inside.ids
    ∙ ap (λ ids. added c.args.id (has ids)) c.self.view_is
