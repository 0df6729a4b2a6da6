use Rattle.std.proofs.Common.{◌≡◌, ℕ, ◌<◌, false, get_or}
use Rattle.api_rest.specs.Targets.{ends_authority}
use Rattle.api_rest.proofs.target.authority_len.Given as goal

abbrev pub invariant-loop-at : goal.invariant-loop-at
invariant-loop-at l = (k : ℕ) → k < l.at → ends_authority (get_or l.text k 0) ≡ false
