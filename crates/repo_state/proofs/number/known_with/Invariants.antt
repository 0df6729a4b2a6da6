use Rattle.std.proofs.Common.{◌≡◌, drop, option_map}
use Rattle.api_records.specs.Sets.{has}
use Rattle.api_records.specs.Changes.{known_with}
use Rattle.repo_state.specs.Stands.{known_shown}
use Rattle.repo_state.proofs.number.known_with.Given as goal

abbrev pub invariant-loop-change : goal.invariant-loop-change
invariant-loop-change l = known_with (has l.set) (drop l.change-index l.changes) ≡ known_with (known_shown (option_map (λ k. k.now) l.known)) l.changes
