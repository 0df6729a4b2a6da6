-- The table's phrases are the kit's.
use Rattle.std.proofs.Common.{◌≡◌, ℕ, ◌≤◌, Option, Some, None, length, List, true, false, rules, sym, ◌∙◌, subst, option_map}
use borrow.Author.Tests.{tests}
use Rattle.http.specs.StatusCode.{IsStatusCode, reason_phrase}
use Rattle.std.specs.Borrow.{Bor}
use Rattle.std.specs.Prelude.{unwrap_or, IsSome}
use Rattle.http_wire.specs.Responses.{phrase, HasPhrase}

same_phrase : (status : ℕ) → HasPhrase status → phrase status ≡ reason_phrase status
same_phrase status h = search (tests, rules)

pub is_code : (status : ℕ) → HasPhrase status → IsStatusCode status
is_code status h = search (tests, rules)

pub short : (status : ℕ) (text : List ℕ) → phrase status ≡ Some text → length text ≤ 31
short status text h = search (tests, rules)

pub read_phrase : (status : ℕ) (read : Option (Bor (List ℕ))) (other : Bor (List ℕ)) → HasPhrase status → option_map (λ s. s.now) read ≡ reason_phrase status → phrase status ≡ Some (unwrap_or read other).now
read_phrase status (Some text) other h e = same_phrase status h ∙ sym e
read_phrase status None other h e = let never : false ≡ true = subst IsSome (same_phrase status h ∙ sym e) h in cc
