use Rattle.std.proofs.Common.{◌∙◌}
use Rattle.std.specs.Ordering.{nat_cmp}
use Rattle.std.specs.FinMap.{find}
use Rattle.repo_state.proofs.PayloadLemmas.{payload_of}
use Rattle.repo_state.proofs.VersionLemmas.{own_more}
use Rattle.repo_state.proofs.own.own_values.Goals as goal

pub loop-version-preserved : goal.loop-version-preserved
loop-version-preserved c = record {
  own = λ x. own_more c.args.versions.now c.loop-version.version-index x c.version-item.result
      (payload_of (find nat_cmp x c.in_ok-own-2.own)) (payload_of (find nat_cmp x c.loop-version.own)) c.loop-version-test.true c.version-item.is (c.in_ok-own-2.ensures.value x)
      ∙ c.loop-version.invariant.own x;
  stored = c.in_ok-own-2.ensures.stored;
}
