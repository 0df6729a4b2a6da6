-- Streams, fronts one after another, and feeds.
use Rattle.std.proofs.Common.{◌≡◌, ◌≢◌, ℕ, ◌+◌, ◌<◌, ◌≤◌, ◌⊎◌, inl, inr, cond, true, false, All, List, [], ◌∷◌, ◌++◌, length, drop, Option, Some, None, refl, sym, ap, subst, ◌∙◌, arith, append_assoc, length-append}
use Rattle.std.proofs.lemmas.List.Elements.{All-nil, All-cons, All-head, All-tail}
use Rattle.std.proofs.lemmas.Bool.{false≢true, lt-leb, le-leb, cases_lt}
use Rattle.std.proofs.lemmas.List.{drop-append-le, append-nil, length-drop}
use Rattle.httparse.specs.Grammar.{RequestHead, print_request}
use Rattle.httparse.specs.Spans.{name_and_value}
use Rattle.std.specs.Prelude.{map, slice_range}
use Rattle.http_wire.specs.declared.head.TheConstants.{HEAD_MOST}
use Rattle.http_wire.specs.declared.error.WireError.{WireError}
use Rattle.http_wire.specs.declared.error.WireError.TheVariants.{BadHead, UnknownCoding, Memory}
use Rattle.http_wire.specs.declared.request.Request.{Request}
use Rattle.http_wire.specs.Fields.{body_len}
use Rattle.http_wire.specs.Fronts.{Front, whole, refused, not_yet, HeadFront, stands, broken, open_yet, IsHeadFront, request_of, front_with, front_of, IsFront, Takes}
use Rattle.http_wire.specs.Streams.{TakesEach, TakesAll, EndsClosed, Stops, Call, pushes, gives, refuses, waits, lacks_memory, Step, Steps, pushed, given, AnyCut, OneReading, SameError, error_call}
use Rattle.http_wire.proofs.HeadLemmas.{fields_fit}
use Rattle.http_wire.proofs.NothingLemmas.{nothing_yet}
use Rattle.http_wire.proofs.FrontLemmas.{found_at, front_unique, front_append}

-- ---- a request takes bytes that are there

with_len : (h : RequestHead) (bytes : List ℕ) (o : Option ℕ) (request : Request) (len : ℕ) → front_with h bytes o ≡ whole request len → len ≤ length bytes
with_len h bytes None request len is = absurd cc
with_len h bytes (Some n) request len is =
    let start = length (print_request h) in
    elim (cases_lt (length bytes) (start + n)) [
      | inl lt ↦
          let e : not_yet ≡ whole request len = sym (ap (λ b. cond b (found_at h bytes n) not_yet) (lt-leb (start + n) (length bytes) lt)) ∙ is in
          absurd cc
      | inr le ↦
          let e : found_at h bytes n ≡ whole request len = sym (ap (λ b. cond b (found_at h bytes n) not_yet) (le-leb (start + n) (length bytes) le)) ∙ is in
          let same : start + n ≡ len = cc in
          omega arith
    ]

of_len : (v : HeadFront) (bytes : List ℕ) (request : Request) (len : ℕ) → front_of v bytes ≡ whole request len → len ≤ length bytes
of_len (stands h) bytes request len is = with_len h bytes (body_len h.minor (map name_and_value h.fields)) request len is
of_len broken bytes request len is = absurd cc
of_len open_yet bytes request len is =
    elim (cases_lt (length bytes) HEAD_MOST) [
      | inl lt ↦
          let e : not_yet ≡ whole request len = sym (ap (λ b. cond b (refused UnknownCoding) not_yet) (lt-leb _ _ lt)) ∙ is in
          absurd cc
      | inr le ↦
          let e : refused UnknownCoding ≡ whole request len = sym (ap (λ b. cond b (refused UnknownCoding) not_yet) (le-leb _ _ le)) ∙ is in
          absurd cc
    ]

pub front_len : (bytes : List ℕ) (request : Request) (len : ℕ) → IsFront bytes (whole request len) → len ≤ length bytes
front_len bytes request len front = of_len front.0 bytes request len front.2

pub whole_is_not_yet : (request : Request) (len : ℕ) → whole request len ≢ not_yet
whole_is_not_yet request len is = cc

pub refused_is_not_yet : (e : WireError) → refused e ≢ not_yet
refused_is_not_yet e is = cc

Takes-append : (old : List ℕ) (request : Request) (new more : List ℕ) → Takes old request new → Takes (old ++ more) request (new ++ more)
Takes-append old request new more takes = (
  takes.0,
  front_append old more (whole request takes.0) takes.1 (whole_is_not_yet request takes.0),
  ap (λ t. t ++ more) takes.2 ∙ sym (drop-append-le takes.0 old more (front_len old request takes.0 takes.1)),
)

TakesEach-append : (stream : List ℕ) (requests : List Request) (rest more : List ℕ) → TakesEach stream requests rest → TakesEach (stream ++ more) requests (rest ++ more)
TakesEach-append stream [] rest more each = ap (λ t. t ++ more) each
TakesEach-append stream (request ∷ requests) rest more each =
    (each.0 ++ more, Takes-append stream request each.0 more each.1, TakesEach-append each.0 requests rest more each.2)

TakesEach-push : (stream : List ℕ) (requests : List Request) (rest : List ℕ) (request : Request) (new : List ℕ) → TakesEach stream requests rest → Takes rest request new → TakesEach stream (requests ++ request ∷ []) new
TakesEach-push stream [] rest request new each takes = (new, subst (λ t. Takes t request new) (sym each) takes, refl)
TakesEach-push stream (first ∷ requests) rest request new each takes = (each.0, each.1, TakesEach-push each.0 requests rest request new each.2 takes)

-- more bytes leave what was taken
pub TakesAll-append : (stream : List ℕ) (requests : List Request) (rest more : List ℕ) → TakesAll stream requests rest → TakesAll (stream ++ more) requests (rest ++ more)
TakesAll-append stream [] rest more all = ap (λ t. t ++ more) all
TakesAll-append stream (request ∷ requests) rest more all =
    (all.0 ++ more, Takes-append stream request all.0 more all.1, all.2, TakesAll-append all.0 requests rest more all.3)

-- one more request is taken, where none before it closes the connection
pub TakesAll-push : (stream : List ℕ) (requests : List Request) (rest : List ℕ) (request : Request) (new : List ℕ) → TakesAll stream requests rest → All (λ r. r.close ≡ false) requests
    → Takes rest request new → TakesAll stream (requests ++ request ∷ []) new
TakesAll-push stream [] rest request new all still takes = (new, subst (λ t. Takes t request new) (sym all) takes, (λ _. refl), refl)
TakesAll-push stream (first ∷ requests) rest request new all still takes =
    let unclosed : first.close ≡ true → requests ++ request ∷ [] ≡ [] = λ closes. absurd (false≢true (sym (All-head (λ r. r.close ≡ false) first requests still) ∙ closes)) in
    (all.0, all.1, unclosed, TakesAll-push all.0 requests rest request new all.3 (All-tail (λ r. r.close ≡ false) first requests still) takes)

-- what is taken through the first request that closes is taken
pub each_taken : (stream : List ℕ) (requests : List Request) (rest : List ℕ) → TakesAll stream requests rest → TakesEach stream requests rest
each_taken stream [] rest all = all
each_taken stream (request ∷ requests) rest all = (all.0, all.1, each_taken all.0 requests rest all.3)

-- ---- any cut

run : (calls : List Call) (stream : List ℕ) (requests : List Request) (old new : List ℕ) → TakesEach stream requests old → Steps old calls new
    → TakesEach (stream ++ pushed calls) (requests ++ given calls) new
run [] stream requests old new all steps =
    let e = append-nil stream in
    let f = append-nil requests in
    subst (λ t. TakesEach t (requests ++ []) new) (sym e) (subst (λ t. TakesEach stream t new) (sym f) (subst (λ t. TakesEach stream requests t) steps all))
run (pushes piece ∷ calls) stream requests old new all steps =
    let more : TakesEach (stream ++ piece) requests steps.0 = subst (λ t. TakesEach (stream ++ piece) requests t) (sym steps.1) (TakesEach-append stream requests old piece all) in
    subst (λ t. TakesEach t (requests ++ given calls) new) (append_assoc stream piece (pushed calls)) (run calls (stream ++ piece) requests steps.0 new more steps.2)
run (gives request ∷ calls) stream requests old new all steps =
    let more = TakesEach-push stream requests old request steps.0 all steps.1 in
    subst (λ t. TakesEach (stream ++ pushed calls) t new) (append_assoc requests (request ∷ []) (given calls)) (run calls stream (requests ++ request ∷ []) steps.0 new more steps.2)
run (refuses e ∷ calls) stream requests old new all steps = run calls stream requests steps.0 new (subst (λ t. TakesEach stream requests t) (sym steps.1.0) all) steps.2
run (waits ∷ calls) stream requests old new all steps = run calls stream requests steps.0 new (subst (λ t. TakesEach stream requests t) (sym steps.1.0) all) steps.2
run (lacks_memory ∷ calls) stream requests old new all steps = run calls stream requests steps.0 new (subst (λ t. TakesEach stream requests t) (sym steps.1) all) steps.2

-- an error stays the front through all later calls
error_stays : (calls : List Call) (old new : List ℕ) (e : WireError) → IsFront old (refused e) → Steps old calls new → IsFront new (refused e)
error_stays [] old new e front steps = subst (λ t. IsFront t (refused e)) steps front
error_stays (pushes piece ∷ calls) old new e front steps =
    error_stays calls steps.0 new e (subst (λ t. IsFront t (refused e)) (sym steps.1) (front_append old piece (refused e) front (refused_is_not_yet e))) steps.2
error_stays (gives request ∷ calls) old new e front steps =
    let is : refused e ≡ whole request steps.1.0 = front_unique old (refused e) (whole request steps.1.0) front steps.1.1 in
    absurd cc
error_stays (refuses f ∷ calls) old new e front steps = error_stays calls steps.0 new e (subst (λ t. IsFront t (refused e)) (sym steps.1.0) front) steps.2
error_stays (waits ∷ calls) old new e front steps = error_stays calls steps.0 new e (subst (λ t. IsFront t (refused e)) (sym steps.1.0) front) steps.2
error_stays (lacks_memory ∷ calls) old new e front steps = error_stays calls steps.0 new e (subst (λ t. IsFront t (refused e)) (sym steps.1) front) steps.2

error_behind : (before after : List Call) (old new : List ℕ) (e : WireError) → Steps old (before ++ refuses e ∷ after) new → IsFront new (refused e)
error_behind [] after old new e steps = error_stays after steps.0 new e (subst (λ t. IsFront t (refused e)) (sym steps.1.0) steps.1.1) steps.2
error_behind (call ∷ before) after old new e steps = error_behind before after steps.0 new e steps.2

pub any_cut : AnyCut
any_cut calls untaken steps = record {
  taken = run calls [] [] [] untaken refl steps;
  error = λ e was. error_behind was.0 was.1 [] untaken e (subst (λ (t : List Call). Steps [] t untaken) was.2 steps);
}

-- ---- one reading

same_take : (old : List ℕ) (p q : Request) (m n : List ℕ) → Takes old p m → Takes old q n → (p ≡ q) × (m ≡ n)
same_take old p q m n x y =
    let e : whole p x.0 ≡ whole q y.0 = front_unique old (whole p x.0) (whole q y.0) x.1 y.1 in
    let len : x.0 ≡ y.0 = cc in
    let request : p ≡ q = cc in
    (request, x.2 ∙ ap (λ k. drop k old) len ∙ sym y.2)

nothing_is_closed : ¬ (EndsClosed [])
nothing_is_closed closed = omega (arith, ap length closed.2, length-append closed.0 (closed.1 ∷ []))

closed_after : (request : Request) (requests front : List Request) (last : Request) → request ∷ requests ≡ front ++ last ∷ [] → last.close ≡ true
    → ((requests ≡ []) × (request.close ≡ true)) ⊎ EndsClosed requests
closed_after request requests [] last is closes =
    let same : request ≡ last = cc in
    inl (cc, ap (λ (r : Request). r.close) same ∙ closes)
closed_after request requests (first ∷ front) last is closes = inr (front, last, cc, closes)

-- behind a first request nothing is taken, for it closes the connection, or the same ends the others
stops_after : (request : Request) (requests : List Request) (end : Front) → Stops (request ∷ requests) end → ((requests ≡ []) × (request.close ≡ true)) ⊎ Stops requests end
stops_after request requests end (inr none) = inr (inr none)
stops_after request requests end (inl closed) =
    elim (closed_after request requests closed.0 closed.1 closed.2 closed.3) [
      | inl last ↦ inl last
      | inr others ↦ inr (inl others)
    ]

none_here : (stream : List ℕ) (p : List ℕ) (m : Front) (request : Request) (next : List ℕ) → stream ≡ p → IsFront p m → Stops [] m → Takes stream request next → ⊥
none_here stream p m request next is front (inl closed) takes = nothing_is_closed closed
none_here stream p m request next is front (inr none) takes =
    none request takes.0 (front_unique stream m (whole request takes.0) (subst (λ t. IsFront t m) (sym is) front) takes.1)

front_behind : (stream : List ℕ) (requests : List Request) (p : List ℕ) (m : Front) → requests ≡ [] → TakesAll stream requests p → IsFront p m → IsFront stream m
front_behind stream requests p m none all front =
    let is : stream ≡ p = subst (λ (rs : List Request). TakesAll stream rs p) none all in
    subst (λ t. IsFront t m) (sym is) front

-- behind a request that closes the connection two readings agree
both_closed : (r s : Request) (next : List ℕ) (a b : List Request) (p q : List ℕ) (m n : Front) → r ≡ s → a ≡ [] → b ≡ [] → TakesAll next a p → TakesAll next b q → IsFront p m → IsFront q n
    → (r ∷ a ≡ s ∷ b) × (m ≡ n)
both_closed r s next a b p q m n same first second x y f g =
    (cc, front_unique next m n (front_behind next a p m first x f) (front_behind next b q n second y g))

reading : (stream : List ℕ) (a b : List Request) (p q : List ℕ) (m n : Front) → TakesAll stream a p → TakesAll stream b q → IsFront p m → IsFront q n → Stops a m → Stops b n → (a ≡ b) × (m ≡ n)
reading stream [] [] p q m n x y f g u v = (refl, front_unique stream m n (subst (λ t. IsFront t m) (sym x) f) (subst (λ t. IsFront t n) (sym y) g))
reading stream [] (s ∷ b) p q m n x y f g u v = absurd (none_here stream p m s y.0 x f u y.1)
reading stream (r ∷ a) [] p q m n x y f g u v = absurd (none_here stream q n r x.0 y g v x.1)
reading stream (r ∷ a) (s ∷ b) p q m n x y f g u v =
    let first = same_take stream r s x.0 y.0 x.1 y.1 in
    let same : r.close ≡ s.close = ap (λ (t : Request). t.close) first.0 in
    let others : TakesAll x.0 b q = subst (λ t. TakesAll t b q) (sym first.1) y.3 in
    elim (stops_after r a m u) [
      | inl last ↦ both_closed r s x.0 a b p q m n first.0 last.0 (y.2 (sym same ∙ last.1)) x.3 others f g
      | inr more ↦ elim (stops_after s b n v) [
        | inl last ↦ both_closed r s x.0 a b p q m n first.0 (x.2 (same ∙ last.1)) last.0 x.3 others f g
        | inr rest ↦
            let equal = reading x.0 a b p q m n x.3 others f g more rest in
            (cc (first.0, equal.0), equal.1)
      ]
    ]

pub one_reading : OneReading
one_reading stream a b m n x y = reading stream a b x.rest y.rest m n x.taken y.taken x.front y.front x.stops y.stops

same_rest : (stream : List ℕ) (requests : List Request) (p q : List ℕ) → TakesAll stream requests p → TakesAll stream requests q → p ≡ q
same_rest stream [] p q x y = sym x ∙ y
same_rest stream (r ∷ requests) p q x y =
    let first = same_take stream r r x.0 y.0 x.1 y.1 in
    same_rest x.0 requests p q x.3 (subst (λ t. TakesAll t requests q) (sym first.1) y.3)

-- a stream that ends between two requests has no other reading
pub whole_stream : (stream : List ℕ) (a b : List Request) (p : List ℕ) (m : Front) → TakesAll stream a [] → TakesAll stream b p → IsFront p m → Stops b m → (b ≡ a) × (m ≡ not_yet) × (p ≡ [])
whole_stream stream a b p m x y front stops =
    let same = reading stream b a p [] m not_yet y x front nothing_yet stops (inr (λ request len is. whole_is_not_yet request len (sym is))) in
    (same.0, same.1, same_rest stream a p [] (subst (λ t. TakesAll stream t p) same.0 y) x)

-- ---- the same error

pub same_error : SameError
same_error bytes e [] untaken front steps = tt
same_error bytes e (pushes piece ∷ calls) untaken front steps =
    same_error steps.0 e calls untaken (subst (λ t. IsFront t (refused e)) (sym steps.1) (front_append bytes piece (refused e) front (refused_is_not_yet e))) steps.2
same_error bytes e (gives request ∷ calls) untaken front steps =
    let is : refused e ≡ whole request steps.1.0 = front_unique bytes (refused e) (whole request steps.1.0) front steps.1.1 in
    absurd cc
same_error bytes e (refuses f ∷ calls) untaken front steps =
    let is : refused f ≡ refused e = front_unique bytes (refused f) (refused e) steps.1.1 front in
    (cc, same_error steps.0 e calls untaken (subst (λ t. IsFront t (refused e)) (sym steps.1.0) front) steps.2)
same_error bytes e (waits ∷ calls) untaken front steps =
    let is : refused e ≡ not_yet = front_unique bytes (refused e) not_yet front steps.1.1 in
    absurd cc
same_error bytes e (lacks_memory ∷ calls) untaken front steps =
    same_error steps.0 e calls untaken (subst (λ t. IsFront t (refused e)) (sym steps.1) front) steps.2

pub error_step : (bytes : List ℕ) (e : WireError) → (e ≢ Memory → IsFront bytes (refused e)) → Step bytes (error_call e) bytes
error_step bytes BadHead front = (refl, front (λ is. cc))
error_step bytes UnknownCoding front = (refl, front (λ is. cc))
error_step bytes Memory front = refl

-- ---- a request has at least one byte

some_with : (h : RequestHead) (bytes : List ℕ) (o : Option ℕ) (request : Request) (len : ℕ) → 0 < length (print_request h) → front_with h bytes o ≡ whole request len → 0 < len
some_with h bytes None request len some is = absurd cc
some_with h bytes (Some n) request len some is =
    let start = length (print_request h) in
    elim (cases_lt (length bytes) (start + n)) [
      | inl lt ↦
          let e : not_yet ≡ whole request len = sym (ap (λ b. cond b (found_at h bytes n) not_yet) (lt-leb (start + n) (length bytes) lt)) ∙ is in
          absurd cc
      | inr le ↦
          let e : found_at h bytes n ≡ whole request len = sym (ap (λ b. cond b (found_at h bytes n) not_yet) (le-leb (start + n) (length bytes) le)) ∙ is in
          let same : start + n ≡ len = cc in
          omega arith
    ]

some_of : (v : HeadFront) (bytes : List ℕ) (request : Request) (len : ℕ) → IsHeadFront bytes v → front_of v bytes ≡ whole request len → 0 < len
some_of (stands h) bytes request len head is =
    some_with h bytes (body_len h.minor (map name_and_value h.fields)) request len (omega (arith, fields_fit h head.1.0.fields)) is
some_of broken bytes request len head is = absurd cc
some_of open_yet bytes request len head is =
    elim (cases_lt (length bytes) HEAD_MOST) [
      | inl lt ↦
          let e : not_yet ≡ whole request len = sym (ap (λ b. cond b (refused UnknownCoding) not_yet) (lt-leb _ _ lt)) ∙ is in
          absurd cc
      | inr le ↦
          let e : refused UnknownCoding ≡ whole request len = sym (ap (λ b. cond b (refused UnknownCoding) not_yet) (le-leb _ _ le)) ∙ is in
          absurd cc
    ]

pub takes_some : (old : List ℕ) (request : Request) (new : List ℕ) → Takes old request new → length new < length old
takes_some old request new takes =
    let some = some_of takes.1.0 old request takes.0 takes.1.1 takes.1.2 in
    let within = front_len old request takes.0 takes.1 in
    omega (arith, ap length takes.2, length-drop takes.0 old)

-- ---- no request that is built closes the connection

unclosed_with : (h : RequestHead) (bytes : List ℕ) (o : Option ℕ) (request : Request) (len : ℕ) → front_with h bytes o ≡ whole request len → request.close ≡ false
unclosed_with h bytes None request len is = absurd cc
unclosed_with h bytes (Some n) request len is =
    let start = length (print_request h) in
    elim (cases_lt (length bytes) (start + n)) [
      | inl lt ↦
          let e : not_yet ≡ whole request len = sym (ap (λ b. cond b (found_at h bytes n) not_yet) (lt-leb (start + n) (length bytes) lt)) ∙ is in
          absurd cc
      | inr le ↦
          let e : found_at h bytes n ≡ whole request len = sym (ap (λ b. cond b (found_at h bytes n) not_yet) (le-leb (start + n) (length bytes) le)) ∙ is in
          let same : request_of h (slice_range bytes start (start + n)) ≡ request = cc in
          sym (ap (λ (r : Request). r.close) same)
    ]

unclosed_of : (v : HeadFront) (bytes : List ℕ) (request : Request) (len : ℕ) → front_of v bytes ≡ whole request len → request.close ≡ false
unclosed_of (stands h) bytes request len is = unclosed_with h bytes (body_len h.minor (map name_and_value h.fields)) request len is
unclosed_of broken bytes request len is = absurd cc
unclosed_of open_yet bytes request len is =
    elim (cases_lt (length bytes) HEAD_MOST) [
      | inl lt ↦
          let e : not_yet ≡ whole request len = sym (ap (λ b. cond b (refused UnknownCoding) not_yet) (lt-leb _ _ lt)) ∙ is in
          absurd cc
      | inr le ↦
          let e : refused UnknownCoding ≡ whole request len = sym (ap (λ b. cond b (refused UnknownCoding) not_yet) (le-leb _ _ le)) ∙ is in
          absurd cc
    ]

pub takes_unclosed : (old : List ℕ) (request : Request) (new : List ℕ) → Takes old request new → request.close ≡ false
takes_unclosed old request new takes = unclosed_of takes.1.0 old request takes.0 takes.1.2

pub all_unclosed : (stream : List ℕ) (requests : List Request) (rest : List ℕ) → TakesAll stream requests rest → All (λ r. r.close ≡ false) requests
all_unclosed stream [] rest all = All-nil (λ (r : Request). r.close ≡ false)
all_unclosed stream (request ∷ requests) rest all =
    All-cons (λ r. r.close ≡ false) request requests (takes_unclosed stream request all.0 all.1) (all_unclosed all.0 requests rest all.3)
