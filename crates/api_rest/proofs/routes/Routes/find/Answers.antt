use Rattle.std.proofs.Common.{refl, arith}
use Rattle.matchit.specs.Router.{RouteOf}
use Rattle.api_rest.specs.declared.routes.Route.{Route}
use Rattle.api_rest.specs.Paths.{table}
use Rattle.api_rest.proofs.Parts.{found-text}
use Rattle.api_rest.proofs.Table.{table-tidy}
use Rattle.api_rest.proofs.routes.Routes.find.Goals as goal

pub returns-in-Ok-clause-found : goal.returns-in-Ok-clause-found
returns-in-Ok-clause-found c =
    let params = c.in-Ok.found.params in
    let row : RouteOf Route = record { pattern = params.pattern.now; text = params.text.now; names = params.names.now; value = c.in-Ok.found.value.now } in
    let found = rw c.self.invariant at c.in-Ok.ensures.found in
    (row, found, refl, rw c.in-Ok.ensures.path refl)

pub returns-in-Ok-clause-text : goal.returns-in-Ok-clause-text
returns-in-Ok-clause-text c =
    let params = c.in-Ok.found.params in
    let row : RouteOf Route = record { pattern = params.pattern.now; text = params.text.now; names = params.names.now; value = c.in-Ok.found.value.now } in
    let found = rw c.self.invariant at c.in-Ok.ensures.found in
    rw c.in-Ok.ensures.path (found-text table c.args.path.now row table-tidy (λ i. omega (arith, c.type_inv.path i)) c.utf8.path found)
