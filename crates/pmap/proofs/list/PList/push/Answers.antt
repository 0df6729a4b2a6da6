use Rattle.std.proofs.Common.{◌≡◌, ◌++◌, ◌∷◌, [], length, ap, ◌∙◌, arith}
use Rattle.pmap.specs.Chunks.{behind, in_last}
use Rattle.pmap.proofs.Chunks.{one_chunk_more, chunked}
use Rattle.pmap.proofs.list.PList.push.Goals as goal

pub invariant_of-result : goal.invariant_of-result
invariant_of-result g c =
    let last = in_last c.self.inside.last in
    let chunk = c.in_ok-chunk-2.chunk.value in
    let v = c.args.value.value in
    let more : behind chunk.items ≡ last ++ v ∷ [] = ap (λ w. behind w.items) c.in_ok-chunk-2.ensures.ok ∙ c.in_ok-chunk.ensures ∙ ap (λ xs. xs ++ v ∷ []) c.pointers.ensures in
    let sixteen : length chunk.items ≡ 16 = ap (λ w. length w.items) c.in_ok-chunk-2.ensures.ok ∙ omega (arith, c.in_ok-chunk.chunk.ok, c.len.ensures, c.if-is_full.true) in
    chunked c.self.inside.chunks c.in_ok-chunks.chunks last c.len-then-is_full.result chunk v c.self.invariant.numbered c.len-then-is_full.ensures c.in_ok-chunks.ensures more c.self.inside.len c.self.invariant.full sixteen c.self.invariant.counted

pub returns-then-is_full : goal.returns-then-is_full
returns-then-is_full g c =
    let last = in_last c.self.inside.last in
    let chunk = c.in_ok-chunk-2.chunk.value in
    let v = c.args.value.value in
    let more : behind chunk.items ≡ last ++ v ∷ [] = ap (λ w. behind w.items) c.in_ok-chunk-2.ensures.ok ∙ c.in_ok-chunk.ensures ∙ ap (λ xs. xs ++ v ∷ []) c.pointers.ensures in
    one_chunk_more c.self.inside.chunks c.in_ok-chunks.chunks last c.len-then-is_full.result chunk v c.self.invariant.numbered c.len-then-is_full.ensures c.in_ok-chunks.ensures more
    ∙ ap (λ xs. xs ++ v ∷ []) c.self.view_is
