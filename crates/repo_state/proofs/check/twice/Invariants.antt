use Rattle.std.proofs.Common.{◌≡◌, false, drop}
use Rattle.api_records.specs.Sets.{has}
use Rattle.entry_codec.specs.Refusals.{twice}
use Rattle.repo_state.proofs.check.twice.Given as goal

-- what the rest makes, the whole makes
abbrev pub invariant-loop-place : goal.invariant-loop-place
invariant-loop-place l = twice l.place (has l.earlier) (drop l.place l.changes) ≡ twice 0 (λ x. false) l.changes
