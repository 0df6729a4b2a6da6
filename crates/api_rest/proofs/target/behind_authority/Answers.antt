use Rattle.std.proofs.Common.{◌≡◌, arith}
use Rattle.std.proofs.lemmas.Bool.Decides.{nat_tests}
use Rattle.std.proofs.lemmas.List.Sums.{passes_at_first, prefix_len-le-length}
use Rattle.std.specs.List.{position_or_len}
use Rattle.api_rest.specs.Targets.{ends_authority}
use Rattle.api_rest.proofs.target.behind_authority.Goals as goal

pub range_from-requires : goal.range_from-requires
range_from-requires c =
    let text = c.args.text.now in
    let at : c.authority_len.result ≡ position_or_len ends_authority text = rw c.as_bytes.ensures.value at c.authority_len.ensures in
    rw at (λ _. (
      prefix_len-le-length _ text,
      λ inside high.
          let passes = passes_at_first ends_authority text 0 inside in
          absurd (grind (arith, nat_tests)),
    ))
