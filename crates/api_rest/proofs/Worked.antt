-- The definitions at worked requests. Ids' texts at literals are left to tests, since they are long to compute.
use Rattle.std.proofs.Common.{◌≡◌, ℕ, List, [], ◌∷◌, Option, Some, None, Ok, Err, refl}
use lib.Utf8.{encode}
use Rattle.std.specs.Prelude.{pos, false, codes, option_map}
use Rattle.std.specs.Str.{is_utf8, chars}
use Rattle.std.specs.Str.Lossy.{utf8_lossy, utf8_valid_len}
use Rattle.form_urlencoded.proofs.OnLiterals.{form_urlencoded_on_literals}
use Rattle.matchit.proofs.OnLiterals.{matchit_on_literals}
use Rattle.matchit.specs.Seek.{first}
use Rattle.serde_json.proofs.OnLiterals.{serde_json_on_literals}
use Rattle.doc_value.specs.Document.{null, whole, text, list, object, member, no_members, field, no_fields}
use Rattle.doc_value.specs.Read.{reading}
use Rattle.doc_value.specs.declared.doc.Doc.TheVariants as doc
use Rattle.http_wire.specs.declared.request.Request.{Request}
use Rattle.api_records.specs.Bodies.{command_in}
use Rattle.api_records.specs.declared.body.BodyKind.TheVariants as kind
use Rattle.api_records.specs.declared.command.Command.TheVariants.{CreateProject, CreateCommit}
use Rattle.entry_codec.specs.declared.call.Call.TheVariants.{Write}
use Rattle.api_rest.specs.declared.error.BodyError.TheVariants.{BadJson, BadShape}
use Rattle.api_rest.specs.declared.error.RestError.TheVariants.{NoRoute, NoMethod, BadId, BadParameter, BadBody}
use Rattle.api_rest.specs.declared.routes.Route.{Route}
use Rattle.api_rest.specs.declared.routes.Route.TheVariants.{Projects, Branches}
use Rattle.api_rest.specs.Parameters.{branch_of}
use Rattle.api_rest.specs.Paths.{Parts, table, taken}
use Rattle.api_rest.specs.Routes.{routed}
use Rattle.api_rest.specs.Targets.{path_of}

asking : List ℕ → List ℕ → List ℕ → Request
asking method target body = record { method = method; target = target; old = false; host = None; close = false; body = body }

-- ---- paths

route_of : List ℕ → Option Route
route_of path = option_map (λ row. row.value) (first table path)

parts_at : List ℕ → Option Parts
parts_at path = option_map (λ row. taken row path) (first table path)

projects : route_of (codes "/projects") ≡ Some Projects
unfolding route_of table matchit_on_literals
projects = refl

branches : route_of (codes "/projects/x/branches") ≡ Some Branches
unfolding route_of table matchit_on_literals
branches = refl

tag_parts : parts_at (codes "/projects/x/tags/y") ≡ Some ((codes "projectId", codes "x") ∷ (codes "tagId", codes "y") ∷ [])
unfolding parts_at table matchit_on_literals
tag_parts = refl

no_project : route_of (codes "/project") ≡ None
unfolding route_of table matchit_on_literals
no_project = refl

slash_behind : route_of (codes "/projects/") ≡ None
unfolding route_of table matchit_on_literals
slash_behind = refl

-- ---- targets

absolute : path_of (codes "http://h/projects?x") ≡ codes "/projects"
absolute = refl

no_path : path_of (codes "http://h?/projects") ≡ []
no_path = refl

no_authority : path_of (codes "http:///projects") ≡ codes "/projects"
no_authority = refl

other_scheme : path_of (codes "HTTP://h/projects") ≡ codes "HTTP://h/projects"
other_scheme = refl

-- ---- parameters

no_branch : branch_of (codes "x=1&branch=2") ≡ Ok None
unfolding form_urlencoded_on_literals utf8_lossy utf8_valid_len is_utf8 chars encode
no_branch = refl

two_branches : branch_of (codes "branchId=x&y&branchId=z") ≡ Err (BadParameter (codes "branchId"))
unfolding form_urlencoded_on_literals utf8_lossy utf8_valid_len is_utf8 chars encode
two_branches = refl

-- ---- requests

post_asks : routed (asking (codes "POST") (codes "/projects?x") (codes "{\"name\":\"P\"}")) ≡ Ok (Write (CreateProject (Some (codes "P")) None))
unfolding asking reading serde_json_on_literals is_utf8 chars table matchit_on_literals
post_asks = refl

wrong_key : routed (asking (codes "POST") (codes "/projects") (codes "{\"name\":7}")) ≡ Err (BadBody (BadShape (codes "name")))
unfolding asking reading serde_json_on_literals is_utf8 chars table matchit_on_literals
wrong_key = refl

no_json : routed (asking (codes "POST") (codes "/projects") (codes "{")) ≡ Err (BadBody BadJson)
unfolding asking reading serde_json_on_literals is_utf8 chars table matchit_on_literals
no_json = refl

no_route : routed (asking (codes "GET") (codes "/project") []) ≡ Err NoRoute
unfolding asking table matchit_on_literals
no_route = refl

-- the method is judged before the id
no_method : routed (asking (codes "PUT") (codes "/projects/x/tags/y") []) ≡ Err (NoMethod (codes "GET, DELETE"))
unfolding asking table matchit_on_literals
no_method = refl

-- a part whose length isn't that of an id's text
bad_id : routed (asking (codes "GET") (codes "/projects/x") []) ≡ Err (BadId (codes "projectId"))
unfolding asking table matchit_on_literals
bad_id = refl

-- ---- bodies of commits

one_change : command_in kind.Commit (7 ∷ []) None (object (field (codes "change") (list (member (object (field (codes "payload") (object (field (codes "@type") (text (codes "Package")) no_fields)) no_fields)) no_members))
    (field (codes "previousCommit") null no_fields)))
    ≡ Ok (CreateCommit 7 None [] None (record { identity = None; payload = Some (doc.Object ((codes "@type", text (codes "Package")) ∷ [])) } ∷ []))
one_change = refl

change_first : command_in kind.Commit (7 ∷ []) None (object (field (codes "change") (list (member (object (field (codes "identity") (whole (pos 7)) no_fields)) (member null no_members))) (field (codes "description") (whole (pos 7)) no_fields)))
    ≡ Err (codes "change")
change_first = refl
