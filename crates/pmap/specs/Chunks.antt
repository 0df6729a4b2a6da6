-- What the chunks of a list are seen as.
use Rattle.std.specs.Prelude.{◌≡◌, ℕ, ◌<◌, List, [], ◌∷◌, ◌++◌, Option, None, Some, length, map, ⊤}
use Rattle.std.specs.declared.sync.Arc.{Arc}
use Rattle.std.specs.declared.vec.Vec.{Vec}
use Rattle.std.specs.declared.alloc.Global.{Global}
use Rattle.pmap.specs.Numbered.{AreNumberedFrom}

-- the items behind pointers
abbrev pub behind : {V : Type 0} → List (Arc V Global) → List V
behind {V} pointers = map {A = Arc V Global} {B = V} (λ p. p.value) pointers

-- the items of full chunks, one chunk after another
abbrev pub in_chunks : {V : Type 0} → List (ℕ × Vec (Arc V Global) Global) → List V
in_chunks [] = []
in_chunks (e ∷ es) = behind e.1.items ++ in_chunks es

-- the items of the last chunk, if there is one
abbrev pub in_last : {V : Type 0} → Option (Arc (Vec (Arc V Global) Global) Global) → List V
in_last None = []
in_last (Some chunk) = behind chunk.value.items

abbrev pub AreFull : {V : Type 0} → List (ℕ × Vec (Arc V Global) Global) → Type 0
AreFull [] = ⊤
AreFull (e ∷ es) = (length (behind e.1.items) ≡ 16) × AreFull es

-- Each full chunk stands at its number, from 0 on, and has 16 items. The last has fewer.
pub record IsChunked {V : Type 0} (chunks : List (ℕ × Vec (Arc V Global) Global)) (last : Option (Arc (Vec (Arc V Global) Global) Global)) (len : ℕ) : Type 0 where
  pub numbered : AreNumberedFrom 0 chunks
  pub full : AreFull chunks
  pub short : length (in_last last) < 16
  pub counted : len ≡ length (in_chunks chunks ++ in_last last)
