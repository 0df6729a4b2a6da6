use Rattle.std.proofs.Common.{◌≡◌, [], take, fold}
use Rattle.api_rest.specs.Paths.{with_route, every_route}
use Rattle.api_rest.proofs.routes.Routes.new.Given as goal

abbrev pub invariant-loop-route : goal.invariant-loop-route
invariant-loop-route l = l.router ≡ fold with_route [] (take l.route-index every_route)
