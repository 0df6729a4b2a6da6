use Rattle.std.proofs.Common.{rules, ℕ, List, Bool, ap, sym, subst, ◌∙◌, filter, is_some}
use Rattle.std.specs.Ordering.{nat_cmp}
use Rattle.std.specs.List.Sorted.{IsStrictlySortedBy}
use Rattle.std.proofs.lemmas.Fn.{filter_same}
use Rattle.timeline.specs.Values.{IsListAt, value_in}
use Rattle.timeline.proofs.Listing.{lists}
use Rattle.timeline.proofs.histories.Histories.ids_at.Goals as goal

pub returns : goal.returns
returns g c =
    let IsList : List ℕ → Type 0 = λ ids. IsListAt (value_in c.args.self.now) c.args.n ids in
    let says : ℕ → Bool = λ q. is_some (value_in c.args.self.now q c.args.n) in
    let kept = filter_same _ says _ (λ x b f' k. search rules) _ _ c.retain.ensures.filtered in
    let all = c.in_ok-ids.ensures.all in
    subst IsList (sym (kept ∙ ap (filter says) all)) (lists c.args.n c.args.self.now (subst (λ (ids : List ℕ). IsStrictlySortedBy nat_cmp ids) all c.in_ok-ids.ensures.rise))
