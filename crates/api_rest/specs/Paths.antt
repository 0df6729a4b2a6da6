-- The routes of paths. A path is taken as it was sent, with no percent-decoding.
use Rattle.std.specs.Prelude.{ℕ, List, [], ◌∷◌, Result, Ok, Err, codes, fold}
use Rattle.matchit.specs.Rows.{RowsOf}
use Rattle.matchit.specs.Order.{placed}
use Rattle.matchit.specs.Params.{walk}
use Rattle.matchit.specs.Route.{Scan, parse_route}
use Rattle.matchit.specs.Router.{RouteOf, route_from}
use Rattle.matchit.specs.declared.error.InsertError.{InsertError}
use Rattle.matchit.specs.declared.params.Params.{Params}
use Rattle.api_rest.specs.declared.routes.Route.{Route}
use Rattle.api_rest.specs.declared.routes.Route.TheVariants.{Projects, Project, Branches, Branch, Tags, Tag, Commits, Commit, Changes, Change, Element}

-- the paths of a route, with a name in braces for each part that is an id
abbrev pub pattern : Route → List ℕ
pattern Projects = codes "/projects"
pattern Project = codes "/projects/{projectId}"
pattern Branches = codes "/projects/{projectId}/branches"
pattern Branch = codes "/projects/{projectId}/branches/{branchId}"
pattern Tags = codes "/projects/{projectId}/tags"
pattern Tag = codes "/projects/{projectId}/tags/{tagId}"
pattern Commits = codes "/projects/{projectId}/commits"
pattern Commit = codes "/projects/{projectId}/commits/{commitId}"
pattern Changes = codes "/projects/{projectId}/commits/{commitId}/changes"
pattern Change = codes "/projects/{projectId}/commits/{commitId}/changes/{changeId}"
pattern Element = codes "/projects/{projectId}/commits/{commitId}/elements/{elementId}"

abbrev pub every_route : List Route
every_route = Projects ∷ Project ∷ Branches ∷ Branch ∷ Tags ∷ Tag ∷ Commits ∷ Commit ∷ Changes ∷ Change ∷ Element ∷ []

-- rows of a router, as the crate `matchit` orders them
abbrev pub Table : Type 0
Table = RowsOf (RouteOf Route)

-- the rows with one more; a text that is no pattern adds none
abbrev pub with_row : Table → Route → Result Scan InsertError → Table
with_row rows route (Ok s) = placed (s.pattern, route_from s route) rows
with_row rows route (Err e) = rows

abbrev pub with_route : Table → Route → Table
with_route rows route = with_row rows route (parse_route (pattern route))

-- the rows of all routes; the route of a path is the one that `matchit` finds for it in these
unfoldable pub table : Table
table = fold with_route [] every_route

-- the parts of a path, each with its name
abbrev pub Parts : Type 0
Parts = List (List ℕ × List ℕ)

-- what the names of a row take of a path
abbrev pub taken : RouteOf Route → List ℕ → Parts
taken row path = walk row.pattern row.text path row.names 0 0

abbrev pub parts_of : Params → Parts
parts_of params = walk params.pattern.now params.text.now params.path.now params.names.now 0 0
