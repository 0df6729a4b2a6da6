-- What a request asks for, before its body is read: a call, or a body of some kind. Method and path are compared exactly, as they were
-- sent. A path with no route is refused first, then a method that its route doesn't take, then a part that is no id, and at last a
-- parameter.
use Rattle.std.specs.Prelude.{ℕ, if◌then◌else◌, List, [], ◌∷◌, ◌++◌, Option, Some, None, option_and_then, Result, Ok, Err, codes, bytes_eq}
use Rattle.matchit.specs.Params.{named}
use Rattle.matchit.specs.Router.{RouteOf}
use Rattle.matchit.specs.Seek.{first}
use Rattle.sysapi_base.specs.Id.{id_of}
use Rattle.http_wire.specs.declared.request.Request.{Request}
use Rattle.api_records.specs.declared.body.BodyKind.{BodyKind}
use Rattle.api_records.specs.declared.body.BodyKind.TheVariants as kind
use Rattle.api_records.specs.declared.command.Command.TheVariants as command
use Rattle.entry_codec.specs.declared.call.Call.TheVariants as call
use Rattle.entry_codec.specs.declared.call.ReadCall.{ReadCall}
use Rattle.entry_codec.specs.declared.call.ReadCall.TheVariants as read
use Rattle.api_rest.specs.declared.asked.Asked.{Asked}
use Rattle.api_rest.specs.declared.asked.Asked.TheVariants.{Call, Body}
use Rattle.api_rest.specs.declared.error.RestError.{RestError}
use Rattle.api_rest.specs.declared.error.RestError.TheVariants.{NoRoute, NoMethod, BadId}
use Rattle.api_rest.specs.declared.operation.Deleted.{Deleted}
use Rattle.api_rest.specs.declared.operation.Deleted.TheVariants as deleted
use Rattle.api_rest.specs.declared.operation.Operation.{Operation}
use Rattle.api_rest.specs.declared.operation.Operation.TheVariants.{Read, Write, Delete}
use Rattle.api_rest.specs.declared.routes.Route.{Route}
use Rattle.api_rest.specs.declared.routes.Route.TheVariants.{Projects, Project, Branches, Branch, Tags, Tag, Commits, Commit, Changes, Change, Element}
use Rattle.api_rest.specs.Paths.{Parts, table, taken}
use Rattle.api_rest.specs.Parameters.{branch_of}
use Rattle.api_rest.specs.Targets.{path_of, query_of}

-- the second part is judged only where the first is right
abbrev pub and_then : {A B : Type 0} → Result A RestError → (A → Result B RestError) → Result B RestError
and_then (Ok a) next = next a
and_then (Err e) next = Err e

-- ---- methods

abbrev pub Methods : Type 0
Methods = List (List ℕ × Operation)

abbrev pub reads : Methods
reads = (codes "GET", Read) ∷ []

abbrev pub reads_and_writes : BodyKind → Methods
reads_and_writes k = (codes "GET", Read) ∷ (codes "POST", Write k) ∷ []

abbrev pub reads_and_deletes : Deleted → Methods
reads_and_deletes what = (codes "GET", Read) ∷ (codes "DELETE", Delete what) ∷ []

-- the methods that a route takes, each with what it does there
abbrev pub methods : Route → Methods
methods Projects = reads_and_writes kind.Project
methods Project = (codes "GET", Read) ∷ (codes "PUT", Write kind.ProjectUpdate) ∷ (codes "DELETE", Delete deleted.Project) ∷ []
methods Branches = reads_and_writes kind.Branch
methods Branch = reads_and_deletes deleted.Branch
methods Tags = reads_and_writes kind.Tag
methods Tag = reads_and_deletes deleted.Tag
methods Commits = reads_and_writes kind.Commit
methods Commit = reads
methods Changes = reads
methods Change = reads
methods Element = reads

abbrev pub operation_in : List ℕ → Methods → Option Operation
operation_in method [] = None
operation_in method ((name, operation) ∷ more) = if bytes_eq method name then Some operation else operation_in method more

-- the names of methods, joined by `, `
abbrev pub joined : Methods → List ℕ
joined [] = []
joined ((name, operation) ∷ []) = name
joined ((name, operation) ∷ (other ∷ more)) = name ++ (codes ", " ++ joined (other ∷ more))

-- ---- ids

abbrev pub or_bad : List ℕ → Option ℕ → Result ℕ RestError
or_bad key (Some id) = Ok id
or_bad key None = Err (BadId key)

-- the id whose text is the part of this name
abbrev pub id_at : List ℕ → Parts → Result ℕ RestError
id_at key parts = or_bad key (option_and_then id_of (named key parts))

abbrev pub project_at : Parts → Result ℕ RestError
project_at parts = id_at (codes "projectId") parts

-- the project, and then the id of this name
abbrev pub two_at : List ℕ → Parts → Result (ℕ × ℕ) RestError
two_at key parts = and_then (project_at parts) (λ project. and_then (id_at key parts) (λ id. Ok (project, id)))

-- the project, then the commit, and then the id of this name
abbrev pub three_at : List ℕ → Parts → Result (ℕ × ℕ × ℕ) RestError
three_at key parts = and_then (two_at (codes "commitId") parts) (λ ids. and_then (id_at key parts) (λ id. Ok (ids.0, ids.1, id)))

-- ---- operations

abbrev pub read_at : Route → Parts → List ℕ → Result ReadCall RestError
read_at Projects parts query = Ok read.Projects
read_at Project parts query = and_then (project_at parts) (λ project. Ok (read.OneProject project))
read_at Branches parts query = and_then (project_at parts) (λ project. Ok (read.Branches project))
read_at Branch parts query = and_then (two_at (codes "branchId") parts) (λ ids. Ok (read.OneBranch ids.0 ids.1))
read_at Tags parts query = and_then (project_at parts) (λ project. Ok (read.Tags project))
read_at Tag parts query = and_then (two_at (codes "tagId") parts) (λ ids. Ok (read.OneTag ids.0 ids.1))
read_at Commits parts query = and_then (project_at parts) (λ project. and_then (branch_of query) (λ branch. Ok (read.Commits project branch)))
read_at Commit parts query = and_then (two_at (codes "commitId") parts) (λ ids. Ok (read.OneCommit ids.0 ids.1))
read_at Changes parts query = and_then (two_at (codes "commitId") parts) (λ ids. Ok (read.Versions ids.0 ids.1))
read_at Change parts query = and_then (three_at (codes "changeId") parts) (λ ids. Ok (read.OneVersion ids.0 ids.1 ids.2))
read_at Element parts query = and_then (three_at (codes "elementId") parts) (λ ids. Ok (read.OneElement ids.0 ids.1 ids.2))

abbrev pub write_at : BodyKind → Parts → List ℕ → Result Asked RestError
write_at kind.Project parts query = Ok (Body kind.Project [] None)
write_at kind.Commit parts query =
    and_then (project_at parts) (λ project. and_then (branch_of query) (λ branch. Ok (Body kind.Commit (project ∷ []) branch)))
write_at other parts query = and_then (project_at parts) (λ project. Ok (Body other (project ∷ []) None))

abbrev pub delete_at : Deleted → Parts → Result Asked RestError
delete_at deleted.Project parts = and_then (project_at parts) (λ project. Ok (Call (call.Write (command.DeleteProject project))))
delete_at deleted.Branch parts = and_then (two_at (codes "branchId") parts) (λ ids. Ok (Call (call.Write (command.DeleteBranch ids.0 ids.1))))
delete_at deleted.Tag parts = and_then (two_at (codes "tagId") parts) (λ ids. Ok (Call (call.Write (command.DeleteTag ids.0 ids.1))))

abbrev pub asked_by : Route → Option Operation → Parts → List ℕ → Result Asked RestError
asked_by route None parts query = Err (NoMethod (joined (methods route)))
asked_by route (Some Read) parts query = and_then (read_at route parts query) (λ found. Ok (Call (call.Read found)))
asked_by route (Some (Write k)) parts query = write_at k parts query
asked_by route (Some (Delete what)) parts query = delete_at what parts

-- ---- requests

abbrev pub asked_at : List ℕ → List ℕ → List ℕ → Option (RouteOf Route) → Result Asked RestError
asked_at method path query None = Err NoRoute
asked_at method path query (Some row) = asked_by row.value (operation_in method (methods row.value)) (taken row path) query

-- the route of a path is the one that `matchit` finds for it in the table
abbrev pub asked : Request → Result Asked RestError
asked request = asked_at request.method (path_of request.target) (query_of request.target) (first table (path_of request.target))
