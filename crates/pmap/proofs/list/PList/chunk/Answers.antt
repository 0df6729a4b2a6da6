use Rattle.std.proofs.Common.{◌+◌, ◌*◌, option_map, ap, sym, ◌∙◌, arith}
use Rattle.std.specs.List.{slice_get}
use Rattle.pmap.proofs.Numbered.{found}
use Rattle.pmap.proofs.Chunks.{in_full, in_rest, in_none, past_the_end}
use Rattle.pmap.specs.Chunks.{behind, in_last}
use Rattle.pmap.proofs.list.PList.chunk.Goals as goal

pub returns-in-Some : goal.returns-in-Some
returns-in-Some g c k lt =
    let es = c.self.inside.chunks in
    let q = c.args.number in
    ap (λ ps. slice_get (behind ps) k) c.as_slice.ensures.value
    ∙ in_full es (in_last c.self.inside.last) q k c.in-Some.chunk.now c.self.invariant.full lt (ap (option_map (λ v. v.now)) (sym c.in-Some.is) ∙ c.find.ensures ∙ found es 0 q q (omega arith) c.self.invariant.numbered)
    ∙ ap (λ xs. slice_get xs (16 * q + k)) c.self.view_is

pub returns-in-None : goal.returns-in-None
returns-in-None g c k lt =
    let es = c.self.inside.chunks in
    let q = c.args.number in
    ap (λ xs. slice_get xs k) c.pointers.ensures
    ∙ in_rest es (in_last c.self.inside.last) q k c.self.invariant.full (omega arith)
    ∙ ap (λ xs. slice_get xs (16 * q + k)) c.self.view_is

pub returns-in-None-2 : goal.returns-in-None-2
returns-in-None-2 g c k lt =
    let es = c.self.inside.chunks in
    let q = c.args.number in
    let past = past_the_end (λ e. e.1) es q (ap (option_map (λ v. v.now)) (sym c.in-None-2.is) ∙ c.find.ensures ∙ found es 0 q q (omega arith) c.self.invariant.numbered) in
    in_none es (in_last c.self.inside.last) q k c.self.invariant.full c.self.invariant.short (omega (arith, past))
    ∙ ap (λ xs. slice_get xs (16 * q + k)) c.self.view_is
