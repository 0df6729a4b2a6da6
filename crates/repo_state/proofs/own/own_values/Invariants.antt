use Rattle.std.proofs.Common.{◌≡◌, ℕ, drop, map, option_map}
use Rattle.std.specs.Prelude.{option_and_then}
use Rattle.std.specs.Ordering.{nat_cmp}
use Rattle.std.specs.FinMap.{find}
use Rattle.entry_codec.specs.Histories.{own_in}
use Rattle.repo_state.specs.Payloads.{AreStored}
use Rattle.repo_state.specs.Stands.{own_shown}
use Rattle.repo_state.proofs.own.own_values.Given as goal

-- what the versions to come make of the values so far is what all of them make
abbrev pub invariant-loop-version : goal.invariant-loop-version
invariant-loop-version l = record {
  own : (x : ℕ) → own_in (map (λ v. v.value) (drop l.version-index l.versions)) x (option_and_then (λ v. v.payload) (find nat_cmp x l.own)) ≡ own_in (map (λ v. v.value) l.versions) x (own_shown (option_map (λ c. c.now) l.older) x);
  stored : AreStored l.own;
}
