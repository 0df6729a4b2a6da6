use Rattle.std.proofs.Common.{◌≡◌, ℕ, ◌+◌, ◌-◌, List, take, drop, sym, ap, ◌∙◌, arith, Vec, Global}
use Rattle.std.specs.Prelude.{slice_range}
use Rattle.std.proofs.lemmas.List.{drop-drop}
use Rattle.http_wire.proofs.feed.Feed.handed_body.Goals as goal

-- a range of the bytes not yet taken, in all of the buffer
range_untaken : (items : List ℕ) (taken start end : ℕ) → slice_range items (taken + start) (taken + end) ≡ slice_range (drop taken items) start end
range_untaken items taken start end =
    let len : taken + end - (taken + start) ≡ end - start = omega arith in
    ap (λ k. take k (drop (taken + start) items)) len ∙ ap (take (end - start)) (sym (drop-drop start taken items))

pub returns-clause-body : goal.returns-clause-body
returns-clause-body c =
    let start = c.self.inside.taken + c.args.head_len in
    let end = c.self.inside.taken + c.args.len in
    c.of.ensures ∙ c.keep.ensures ∙ ap (λ (v : Vec ℕ Global). slice_range v.items start end) c.replace-body.ensures.value
    ∙ range_untaken c.self.inside.bytes.items c.self.inside.taken c.args.head_len c.args.len
    ∙ ap (λ t. slice_range t c.args.head_len c.args.len) c.self.view_is
