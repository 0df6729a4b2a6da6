-- The path and the query of a target (RFC 9112, section 3.2; RFC 3986, sections 3.2 to 3.4). Both are taken as they were sent, with no
-- percent-decoding.
use Rattle.std.specs.Prelude.{ℕ, Bool, ◌==◌, ◌||◌, nat_eq, if◌then◌else◌, List, drop, codes}
use Rattle.std.specs.List.{starts_with, position_or_len, before_first, after_first}

-- a query begins behind the first `?`
abbrev pub begins_query : ℕ → Bool
begins_query b = b == 63

-- an authority ends before the first `/` or `#`
abbrev pub ends_authority : ℕ → Bool
ends_authority b = b == 47 || b == 35

abbrev pub behind_authority : List ℕ → List ℕ
behind_authority text = drop (position_or_len ends_authority text) text

-- What stands before the query, without scheme and authority where it begins with `http://`. A target of another form than
-- these two begins with no `/`, and has no route.
abbrev pub without_authority : List ℕ → List ℕ
without_authority front = if starts_with nat_eq front (codes "http://") then behind_authority (drop 7 front) else front

abbrev pub path_of : List ℕ → List ℕ
path_of target = without_authority (before_first begins_query target)

-- the query, which is empty where no `?` stands
abbrev pub query_of : List ℕ → List ℕ
query_of target = after_first begins_query target
