-- What the program's words ask.
use Rattle.std.specs.Prelude.{ℕ, List, Option, Some, None}
use Rattle.sysapi_serve.specs.declared.words.Asked.{Asked}
use Rattle.sysapi_serve.specs.declared.words.Asked.TheVariants.{Once, Check}
use Rattle.sysapi_serve.specs.Offline.{IsOnce, IsCheck, IsInLanguage}

abbrev pub Asks : List (List ℕ) → Option Asked → Type 0
Asks words (Some Once) = IsOnce words
Asks words (Some Check) = IsCheck words
Asks words None = ¬ (IsInLanguage words)
