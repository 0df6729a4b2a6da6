-- Commits keep a number in a graph that grows.
use Rattle.std.proofs.Common.{arith, ◌≡◌, ℕ, ◌<◌, ◌≤◌, nat_le, ◌==◌, ◌&&◌, Bool, true, false, cond, List, length, Option, Some, None, sym, subst}
use Rattle.timeline.specs.Values.{Changes, value_at, changed}
use Rattle.repo_state.specs.Numbered.{IsNumbered, AreNumbered}
use Rattle.repo_state.specs.declared.data.CommitData.{CommitData}

still_numbered : (graph longer : List (Option ℕ)) (d : Option CommitData) → length graph ≤ length longer → IsNumbered graph d → IsNumbered longer d
still_numbered graph longer None le lt = tt
still_numbered graph longer (Some d) le lt = omega (arith, le, lt)

pub numbered_longer : (graph longer : List (Option ℕ)) (commits : Changes CommitData) → length graph ≤ length longer → AreNumbered graph commits → AreNumbered longer commits
numbered_longer graph longer commits le all q m = still_numbered graph longer (value_at commits q m) le (all q m)

either : (graph : List (Option ℕ)) (b : Bool) (made : CommitData) (d : Option CommitData) → made.number < length graph → IsNumbered graph d → IsNumbered graph (cond b (Some made) d)
either graph true made d lt old = lt
either graph false made d lt old = old

pub numbered_more : (graph : List (Option ℕ)) (old new : Changes CommitData) (id n : ℕ) (made : CommitData) → made.number < length graph → AreNumbered graph old
    → ((q m : ℕ) → value_at new q m ≡ changed (value_at old) id n (Some made) q m) → AreNumbered graph new
numbered_more graph old new id n made lt all set q m =
    subst (IsNumbered graph) (sym (set q m)) (either graph ((id == q) && nat_le n m) made (value_at old q m) lt (all q m))
