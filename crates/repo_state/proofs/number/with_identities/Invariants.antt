use Rattle.std.proofs.Common.{◌≡◌, drop, map, option_map}
use Rattle.api_records.specs.Sets.{has}
use Rattle.entry_codec.specs.Histories.{with_identities}
use Rattle.repo_state.specs.Stands.{known_shown}
use Rattle.repo_state.proofs.number.with_identities.Given as goal

abbrev pub invariant-loop-version : goal.invariant-loop-version
invariant-loop-version l = with_identities (has l.set) (map (λ v. v.value) (drop l.version-index l.versions)) ≡ with_identities (known_shown (option_map (λ k. k.now) l.known)) (map (λ v. v.value) l.versions)
