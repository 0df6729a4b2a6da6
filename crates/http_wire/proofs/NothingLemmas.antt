-- Where nothing is, a head can still come.
use Rattle.std.proofs.Common.{◌≡◌, ℕ, List, [], ◌∷◌, ◌++◌, length, refl, sym, ap, subst, arith, length-append}
use Rattle.std.specs.Prelude.{IsTrue}
use Rattle.std.proofs.lemmas.List.{append-nil}
use Rattle.std.proofs.lemmas.List.Elements.{All-nil, All-cons}
use Rattle.httparse.specs.Grammar.{RequestHead, IsRequestHead, HasNoRequest, print_request, is_token_byte}
use Rattle.httparse.proofs.OpenLemmas.{letter_is_token}
use Rattle.http_wire.specs.Heads.{IsHeadsFront, IsOpen}
use Rattle.http_wire.specs.Fronts.{not_yet, IsFront}
use Rattle.http_wire.proofs.HeadLemmas.{fields_fit, simple_head, is_simple_head}
use Rattle.http_wire.proofs.FrontLemmas.{open_short}

-- A / HTTP/1.1
some_head : RequestHead
some_head = simple_head [] (65 ∷ [])

is_head : IsRequestHead some_head
unfolding some_head
is_head = is_simple_head [] (65 ∷ []) (omega arith, All-cons (λ b. IsTrue (is_token_byte b)) 65 [] letter_is_token (All-nil (λ b. IsTrue (is_token_byte b))))

none_in_nothing : HasNoRequest []
none_in_nothing h rest reads = omega (arith, fields_fit h reads.0.fields, ap length reads.1, length-append (print_request h) rest)

front_of_nothing : IsHeadsFront []
front_of_nothing = (print_request some_head, some_head, (is_head, sym (append-nil (print_request some_head))))

nothing_before : (prefix rest : List ℕ) → [] ≡ prefix ++ rest → prefix ≡ []
nothing_before [] rest is = refl
nothing_before (b ∷ prefix) rest is = absurd cc

nothing_is_open : IsOpen []
nothing_is_open prefix is kind = subst IsHeadsFront (sym (nothing_before prefix is.0 is.1)) front_of_nothing

pub nothing_yet : IsFront [] not_yet
nothing_yet = open_short [] (none_in_nothing, nothing_is_open) (omega arith)
