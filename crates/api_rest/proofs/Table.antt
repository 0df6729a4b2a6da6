-- The patterns of the table are tidy.
use Rattle.std.proofs.Common.{◌≡◌, true, refl}
use Rattle.matchit.proofs.OnLiterals.{matchit_on_literals}
use Rattle.api_rest.specs.Paths.{table}
use Rattle.api_rest.proofs.Parts.{are_tidy}

pub table-tidy : are_tidy table ≡ true
unfolding table matchit_on_literals
table-tidy = refl
