-- The parameters of a query. It is read as a web form (URL Standard, section 5).
use Rattle.std.specs.Prelude.{ℕ, if◌then◌else◌, List, [], ◌∷◌, Option, Some, None, Result, Ok, Err, codes, bytes_eq}
use Rattle.std.specs.Str.Lossy.{utf8_lossy}
use Rattle.form_urlencoded.specs.Form.{raw_pairs, decode}
use Rattle.sysapi_base.specs.Id.{id_of}
use Rattle.api_rest.specs.declared.error.RestError.{RestError}
use Rattle.api_rest.specs.declared.error.RestError.TheVariants.{BadParameter}

-- the text of a name or a value, in which U+FFFD stands for what is no UTF-8
abbrev pub text_of : List ℕ → List ℕ
text_of bytes = utf8_lossy (decode bytes)

-- the values of the pairs whose name is `branchId`
abbrev pub branch_values : List (List ℕ × List ℕ) → List (List ℕ)
branch_values [] = []
branch_values ((name, value) ∷ pairs) =
    if bytes_eq (text_of name) (codes "branchId") then text_of value ∷ branch_values pairs else branch_values pairs

abbrev pub bad_branch : RestError
bad_branch = BadParameter (codes "branchId")

abbrev pub branch_at : Option ℕ → Result (Option ℕ) RestError
branch_at (Some id) = Ok (Some id)
branch_at None = Err bad_branch

-- no value, or one that is an id's text
abbrev pub branch_in : List (List ℕ) → Result (Option ℕ) RestError
branch_in [] = Ok None
branch_in (value ∷ []) = branch_at (id_of value)
branch_in (value ∷ (other ∷ more)) = Err bad_branch

-- The branch that a query names. Other parameters are ignored.
abbrev pub branch_of : List ℕ → Result (Option ℕ) RestError
branch_of query = branch_in (branch_values (raw_pairs query))
