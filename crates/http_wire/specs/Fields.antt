-- What the names and values of a head's fields say of the body.
use Rattle.std.specs.Prelude.{◌≡◌, ℕ, ◌+◌, ◌*◌, ◌≤◌, Bool, not, ◌&&◌, ◌||◌, List, [], ◌∷◌, length, map, Option, Some, None, if◌then◌else◌, nat_lt, nat_le, ◌==◌, codes, bytes_eq}
use Rattle.std.specs.List.{flat_map, list_all}
use Rattle.std.specs.Char.{to_ascii_lowercase, is_ascii_digit, digit_value}
use Rattle.std.specs.Str.Parse.{digits_value}
use Rattle.http_wire.specs.declared.head.TheConstants.{FIELDS_MOST}
use Rattle.http_wire.specs.declared.fields.TheConstants.{BODY_MOST}
use Rattle.http_wire.specs.declared.fields.Found.{Found}
use Rattle.http_wire.specs.declared.fields.Found.TheVariants.{Absent, Once, Repeated}

-- equal but for the case of ASCII letters
unfoldable pub same_text : List ℕ → List ℕ → Bool
same_text a b = bytes_eq (map to_ascii_lowercase a) (map to_ascii_lowercase b)

-- the values of the fields of that name, in order
abbrev pub values : List ℕ → List (List ℕ × List ℕ) → List (List ℕ)
values name fields = flat_map (λ f. if same_text f.0 name then f.1 ∷ [] else []) fields

-- each Connection field is keep-alive
abbrev pub are_kept_alive : List (List ℕ × List ℕ) → Bool
are_kept_alive fields = list_all (λ f. not (same_text f.0 (codes "connection")) || same_text f.1 (codes "keep-alive")) fields

-- one or more decimal digits, of a number up to the limit
abbrev pub is_length : List ℕ → Bool
is_length text = nat_lt 0 (length text) && (list_all is_ascii_digit text && nat_le (digits_value 10 text) BODY_MOST)

-- the number that a right Content-Length writes
abbrev pub length_of_text : List ℕ → Option ℕ
length_of_text text = if is_length text then Some (digits_value 10 text) else None

-- the length that the Content-Lengths give: without one it is 0, and of more than one none is right
abbrev pub length_of : List (List ℕ) → Option ℕ
length_of [] = Some 0
length_of (text ∷ []) = length_of_text text
length_of (text ∷ other ∷ others) = None

-- the same of the fields
abbrev pub length_in : List (List ℕ × List ℕ) → Option ℕ
length_in fields = length_of (values (codes "content-length") fields)

-- the one form that is built: few fields, HTTP/1.1, one Host, no Transfer-Encoding, each Connection keep-alive
abbrev pub is_built : ℕ → List (List ℕ × List ℕ) → Bool
is_built minor fields =
    nat_le (length fields) FIELDS_MOST && ((minor == 1) && ((length (values (codes "host") fields) == 1)
    && ((length (values (codes "transfer-encoding") fields) == 0) && are_kept_alive fields)))

-- the length of the body, where the form is built
abbrev pub body_len : ℕ → List (List ℕ × List ℕ) → Option ℕ
body_len minor fields = if is_built minor fields then length_in fields else None

-- a length with one more digit, where it is a digit and the limit is kept
abbrev pub with_digit : ℕ → ℕ → Option ℕ
with_digit len digit =
    let more = len * 10 + digit_value digit in
    if is_ascii_digit digit && nat_le more BODY_MOST then Some more else None

-- what the search of a name answers
abbrev pub IsFound : Found → List (List ℕ) → Type 0
IsFound Absent vs = vs ≡ []
IsFound (Once v) vs = vs ≡ v.now ∷ []
IsFound Repeated vs = 2 ≤ length vs
