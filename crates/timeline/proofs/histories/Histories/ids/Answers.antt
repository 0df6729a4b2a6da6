use Rattle.std.proofs.Common.{List, ℕ, ap, sym, subst, ◌∙◌}
use Rattle.std.specs.Ordering.{nat_cmp}
use Rattle.std.specs.List.Sorted.{IsStrictlySortedBy}
use Rattle.std.proofs.lemmas.Result.{IfOk-weaker}
use Rattle.timeline.proofs.Listing.{keys_of, each_key, keys_rise}
use Rattle.timeline.proofs.histories.Histories.ids.Goals as goal

pub returns : goal.returns
returns g c =
    let is = each_key c.len.result c.self.inside.by_id c.len.ensures in
    let IsRising : List ℕ → Type 0 = λ ids. IsStrictlySortedBy nat_cmp ids in
    record {
      all = IfOk-weaker c.range_after.result _ _ (λ v all. all ∙ is ∙ ap keys_of c.self.view_is) c.range_after.ensures;
      rise = IfOk-weaker c.range_after.result _ _ (λ v all. subst IsRising (sym (all ∙ is)) (keys_rise c.self.inside.by_id c.self.invariant)) c.range_after.ensures;
    }
