use Rattle.std.proofs.Common.{◌≡◌, true, get_or, length, sym, arith}
use Rattle.std.proofs.lemmas.Bool.Decides.{nat_tests}
use Rattle.std.proofs.lemmas.List.Sums.{position_or_len_is}
use Rattle.api_rest.specs.Targets.{ends_authority}
use Rattle.api_rest.proofs.target.authority_len.Goals as goal
use Rattle.api_rest.proofs.target.authority_len.Goals.{then-byte-eq47-via-then-byte-eq47, then-byte-eq47-via-else-byte-eq47+then-byte-eq35}

pub returns-then-byte-eq47 : goal.returns-then-byte-eq47
returns-then-byte-eq47 c =
    let text = c.args.text.now in
    let ends : ends_authority (get_or text c.loop-at.at 0) ≡ true = elim c.then-byte-eq47.branch [
      | then-byte-eq47-via-then-byte-eq47 w ↦ grind (arith, nat_tests)
      | then-byte-eq47-via-else-byte-eq47+then-byte-eq35 w ↦ grind (arith, nat_tests)
    ] in
    sym (position_or_len_is ends_authority text c.loop-at.at 0 (omega arith) c.loop-at.invariant (λ _. ends))

pub returns : goal.returns
returns c =
    let text = c.args.text.now in
    sym (position_or_len_is ends_authority text (length text) 0 (omega arith) (λ k small. c.loop-at.invariant k (omega arith)) (λ past. absurd (omega arith)))
