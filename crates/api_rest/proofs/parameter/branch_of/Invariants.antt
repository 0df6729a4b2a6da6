use Rattle.std.proofs.Common.{◌≡◌}
use Rattle.form_urlencoded.specs.Parse.{pairs_left}
use Rattle.api_rest.specs.Parameters.{branch_values, branch_of}
use Rattle.api_rest.proofs.Branches.{branch_from}
use Rattle.api_rest.proofs.parameter.branch_of.Given as goal

abbrev pub invariant-loop-pair : goal.invariant-loop-pair
invariant-loop-pair l =
    (goal.iterator-loop-pair).can_next l.pair-iterator ×
    (goal.iterator-loop-pair).is_finite l.pair-iterator ×
    (branch_of l.query ≡ branch_from l.branch (branch_values (pairs_left l.pair-iterator)))
