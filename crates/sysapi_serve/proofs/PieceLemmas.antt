-- A text that is sent in pieces.
use Rattle.std.proofs.Common.{ℕ, List, ◌++◌, Option, Result, Ok, Err, ap, sym, subst, ◌∙◌, arith, append_assoc, length-append}
use Rattle.std.specs.Prelude.{⊤}
use Rattle.sysapi_base.specs.Outside.{Grows}
use Rattle.sysapi_base.proofs.OutsideLemmas.{Grows-then}
use Rattle.sysapi_serve.specs.Parts.{Sends, CutsAnswer}

-- a piece was cut, and so is the text that it begins
pub cut_more : (told now : Option (List ℕ)) (a b : List ℕ) → CutsAnswer told now a → CutsAnswer told now (a ++ b)
cut_more told now a b cut =
    let part = cut.0 in
    let more = cut.1.0 in
    let some = cut.1.2 in
    (part, (more ++ b, ap (λ (t : List ℕ). t ++ b) cut.1.1 ∙ append_assoc part more b, omega (arith, some, length-append more b)), cut.2)

-- a piece behind one that was written
pub sends_then : {T E : Type 0} (told mid now : Option (List ℕ)) (a b : List ℕ) (r : Result T E) → Grows told mid a → Sends mid now b r → Sends told now (a ++ b) r
sends_then told mid now a b (Ok x) first next = Grows-then told mid now a b first next
sends_then told mid now a b (Err e) first next =
    (a ++ next.0, (next.1.0, ap (λ (t : List ℕ). a ++ t) next.1.1 ∙ sym (append_assoc a next.0 next.1.0), next.1.2), Grows-then told mid now a next.0 first next.2)

-- a number behind a text is one piece, and stands in the text alone
pub numbered_then : {T E : Type 0} (told mid now : Option (List ℕ)) (front digits rest : List ℕ) (r : Result T E) → Grows told mid (front ++ digits) → Sends mid now rest r → Sends told now (front ++ (digits ++ rest)) r
numbered_then told mid now front digits rest r first next =
    subst (λ (t : List ℕ). Sends told now t r) (append_assoc front digits rest) (sends_then told mid now (front ++ digits) rest r first next)

pub numbered_cut : (told now : Option (List ℕ)) (front digits rest : List ℕ) → CutsAnswer told now (front ++ digits) → CutsAnswer told now (front ++ (digits ++ rest))
numbered_cut told now front digits rest cut = subst (CutsAnswer told now) (append_assoc front digits rest) (cut_more told now (front ++ digits) rest cut)

pub numbered_behind : (told mid now : Option (List ℕ)) (front digits rest : List ℕ) → Grows told mid (front ++ digits) → CutsAnswer mid now rest → CutsAnswer told now (front ++ (digits ++ rest))
numbered_behind told mid now front digits rest first next = numbered_then {T = ⊤} {E = ⊤} told mid now front digits rest (Err tt) first next
