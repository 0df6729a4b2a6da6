-- A query's branch, told by the branch found so far and the values that are left.
use Rattle.std.proofs.Common.{ℕ, List, [], ◌∷◌, Option, Some, None, Result, Ok, Err}
use Rattle.api_rest.specs.Parameters.{bad_branch, branch_in}
use Rattle.api_rest.specs.declared.error.RestError.{RestError}

abbrev pub branch_from : Option ℕ → List (List ℕ) → Result (Option ℕ) RestError
branch_from None values = branch_in values
branch_from (Some id) [] = Ok (Some id)
branch_from (Some id) (value ∷ values) = Err bad_branch
