-- The laws of sessions.
use Rattle.std.proofs.Common.{◌≡◌, ◌≢◌, ◌⊎◌, ℕ, ◌<◌, ◌≤◌, List, [], ◌∷◌, ◌++◌, length, take, drop, Option, Some, None, inl, inr, true, All, zero, suc, refl, sym, ap, subst, ◌∙◌, arith, length-append}
use Rattle.std.proofs.lemmas.List.{append-nil, length-map}
use Rattle.std.specs.List.Sorted.{IsNonDecreasing}
use Rattle.std.proofs.lemmas.List.Sorted.{IsNonDecreasingBy-short}
use Rattle.std.proofs.lemmas.List.Elements.{All-nil, All-cons}
use Rattle.http_wire.specs.declared.error.WireError.{WireError}
use Rattle.http_wire.specs.declared.request.Request.{Request}
use Rattle.http_wire.specs.Fronts.{whole, refused, not_yet, IsFront, Takes}
use Rattle.http_wire.specs.Streams.{TakesAll, EndsClosed, Fronts}
use Rattle.http_wire.proofs.NothingLemmas.{nothing_yet}
use Rattle.http_wire.proofs.FrontLemmas.{front_unique, front_append}
use Rattle.http_wire.proofs.StreamLemmas.{TakesAll-append, whole_is_not_yet, refused_is_not_yet, whole_stream}
use Rattle.entry_codec.specs.declared.entry.Entry.{Entry}
use Rattle.sysapi_serve.specs.declared.outcome.Outcome.{Outcome}
use Rattle.sysapi_serve.specs.declared.outcome.Outcome.TheVariants.{Ended, Closed, Refused, CutShort, ReadFault, WriteFault, Spent, Memory}
use Rattle.sysapi_serve.specs.declared.session.TheConstants.{BYTES_MOST}
use Rattle.sysapi_serve.specs.Sessions.{Keeping, Answer, accepted, point_after, requests_of, texts_of, IsTranscript, Adds, IsWhole}
use Rattle.sysapi_serve.specs.Laws.{JudgesAll, AllAreJudged, AnswersAll, IsComplete, points_of, PointsNeverGoBack}

-- ---- all requests of the bytes read are judged

not_yet_is_no_request : (request : Request) (len : ℕ) → not_yet ≢ whole request len
not_yet_is_no_request request len is = whole_is_not_yet request len (sym is)

error_is_no_request : (e : WireError) (request : Request) (len : ℕ) → refused e ≢ whole request len
error_is_no_request e request len is = cc

waiting : (read : List ℕ) (requests : List Request) (rest : List ℕ) → TakesAll read requests rest → IsFront rest not_yet → Fronts read requests not_yet
waiting read requests rest taken front = record { rest = rest; taken = taken; front = front; stops = inr not_yet_is_no_request }

-- where the bytes end, a request can still come
at_end : (rest : List ℕ) → rest ≡ [] → IsFront rest not_yet
at_end rest none = subst (λ t. IsFront t not_yet) (sym none) nothing_yet

judged : (outcome : Outcome) (read rest : List ℕ) (answers : List Answer) (readings last : List ℕ) → TakesAll read (requests_of answers) rest
    → Adds outcome read rest answers readings last → JudgesAll outcome read (requests_of answers)
judged Ended read rest answers readings last taken adds = waiting read (requests_of answers) rest taken (at_end rest adds.0)
judged Closed read rest answers readings last taken adds = ((rest, taken), adds.0)
judged (Refused e) read rest answers readings last taken adds = record { rest = rest; taken = taken; front = adds.1; stops = inr (error_is_no_request e) }
judged CutShort read rest answers readings last taken adds = waiting read (requests_of answers) rest taken adds.1
judged ReadFault read rest answers readings last taken adds = waiting read (requests_of answers) rest taken adds.0
judged WriteFault read rest answers readings last taken adds = absurd adds
judged Spent read rest answers readings last taken adds = waiting read (requests_of answers) rest taken adds.0
judged Memory read rest answers readings last taken adds = (rest, taken)

pub all_are_judged : AllAreJudged
all_are_judged k H s outcome answered read readings written session =
    elim session.bytes [
      | inl all ↦ judged outcome read session.rest session.answers session.further all.last session.requests all.adds
      | inr cut ↦ subst (λ o. JudgesAll o read (requests_of session.answers)) (sym cut.0) (session.rest, session.requests)
    ]

-- ---- completeness

-- one request stands at the front, and one rest follows it
same_taken : (old : List ℕ) (p q : Request) (m n : List ℕ) → Takes old p m → Takes old q n → (p ≡ q) × (m ≡ n)
same_taken old p q m n x y =
    let e : whole p x.0 ≡ whole q y.0 = front_unique old (whole p x.0) (whole q y.0) x.1 y.1 in
    let len : x.0 ≡ y.0 = cc in
    let request : p ≡ q = cc in
    (request, x.2 ∙ ap (λ k. drop k old) len ∙ sym y.2)

-- where no bytes are, no request is
nothing_taken : (stream : List ℕ) (request : Request) (next : List ℕ) → stream ≡ [] → ¬ (Takes stream request next)
nothing_taken stream request next none takes =
    not_yet_is_no_request request takes.0 (front_unique stream not_yet (whole request takes.0) (at_end stream none) takes.1)

-- where all of a stream is taken, no request comes behind one that closes the connection
through_close : (stream : List ℕ) (all front : List Request) (last : Request) (p : List ℕ) → TakesAll stream all [] → TakesAll stream (front ++ last ∷ []) p
    → last.close ≡ true → front ++ last ∷ [] ≡ all
through_close stream [] [] last p x y closes = absurd (nothing_taken stream last y.0 x y.1)
through_close stream [] (first ∷ front) last p x y closes = absurd (nothing_taken stream first y.0 x y.1)
through_close stream (r ∷ all) [] last p x y closes =
    let same = same_taken stream r last x.0 y.0 x.1 y.1 in
    let none : all ≡ [] = x.2 (ap (λ (t : Request). t.close) same.0 ∙ closes) in
    cc (same.0, none)
through_close stream (r ∷ all) (first ∷ front) last p x y closes =
    let same = same_taken stream r first x.0 y.0 x.1 y.1 in
    let others : TakesAll x.0 (front ++ last ∷ []) p = subst (λ t. TakesAll t (front ++ last ∷ []) p) (sym same.1) y.3 in
    let equal = through_close x.0 all front last p x.3 others closes in
    cc (same.0, equal)

closed_whole : (stream : List ℕ) (all requests : List Request) (p : List ℕ) → TakesAll stream all [] → TakesAll stream requests p → EndsClosed requests → requests ≡ all
closed_whole stream all requests p x y closed =
    closed.2 ∙ through_close stream all closed.0 closed.1 p x (subst (λ (t : List Request). TakesAll stream t p) closed.2 y) closed.3

-- the session read the whole source
all_read : (source read more : List ℕ) → source ≡ read ++ more → more ≡ [] → source ≡ read
all_read source read more is none = is ∙ ap (λ t. read ++ t) none ∙ append-nil read

-- how the session ended, what was judged, and that nothing was written behind the responses
ends_well : (outcome : Outcome) (read rest : List ℕ) (answers : List Answer) (readings last source more : List ℕ) (requests : List Request)
    → TakesAll read (requests_of answers) rest → Adds outcome read rest answers readings last
    → source ≡ read ++ more → (outcome ≡ Ended ⊎ (outcome ≡ CutShort) → more ≡ []) → TakesAll source requests [] → length source < BYTES_MOST
    → outcome ≢ ReadFault → outcome ≢ Memory → ((outcome ≡ Ended) ⊎ (outcome ≡ Closed)) × (requests_of answers ≡ requests) × (last ≡ [])
ends_well Ended read rest answers readings last source more requests taken adds is end all short no_read memory =
    let here = all_read source read more is (end (inl refl)) in
    let same = whole_stream read requests (requests_of answers) rest not_yet (subst (λ t. TakesAll t requests []) here all) taken (at_end rest adds.0) (inr not_yet_is_no_request) in
    (inl refl, same.0, adds.2)
ends_well Closed read rest answers readings last source more requests taken adds is end all short no_read memory =
    let later = TakesAll-append read (requests_of answers) rest more taken in
    (inr refl, closed_whole (read ++ more) requests (requests_of answers) (rest ++ more) (subst (λ t. TakesAll t requests []) is all) later adds.0, adds.2)
ends_well (Refused e) read rest answers readings last source more requests taken adds is end all short no_read memory =
    let later = TakesAll-append read (requests_of answers) rest more taken in
    let front = front_append rest more (refused e) adds.1 (refused_is_not_yet e) in
    let same = whole_stream (read ++ more) requests (requests_of answers) (rest ++ more) (refused e) (subst (λ t. TakesAll t requests []) is all) later front (inr (error_is_no_request e)) in
    absurd (refused_is_not_yet e same.1)
ends_well CutShort read rest answers readings last source more requests taken adds is end all short no_read memory =
    let here = all_read source read more is (end (inr refl)) in
    let same = whole_stream read requests (requests_of answers) rest not_yet (subst (λ t. TakesAll t requests []) here all) taken adds.1 (inr not_yet_is_no_request) in
    absurd (adds.0 same.2)
ends_well ReadFault read rest answers readings last source more requests taken adds is end all short no_read memory = absurd (no_read refl)
ends_well WriteFault read rest answers readings last source more requests taken adds is end all short no_read memory = absurd adds
ends_well Spent read rest answers readings last source more requests taken adds is end all short no_read memory =
    absurd (omega (arith, adds.1, ap length is, length-append read more))
ends_well Memory read rest answers readings last source more requests taken adds is end all short no_read memory = absurd (memory refl)

answers_all : (outcome : Outcome) (answered : ℕ) (read rest : List ℕ) (answers : List Answer) (readings written source more : List ℕ) (requests : List Request)
    → TakesAll read (requests_of answers) rest → IsWhole outcome read rest answers readings written answered
    → source ≡ read ++ more → (outcome ≡ Ended ⊎ (outcome ≡ CutShort) → more ≡ []) → TakesAll source requests [] → length source < BYTES_MOST
    → outcome ≢ ReadFault → outcome ≢ Memory → AnswersAll outcome answered written answers requests
answers_all outcome answered read rest answers readings written source more requests taken is_whole is end all short no_read memory =
    let well = ends_well outcome read rest answers readings is_whole.last source more requests taken is_whole.adds is end all short no_read memory in
    record {
      well = well.0;
      judged = well.1;
      count = is_whole.count ∙ sym (length-map answers (λ (a : Answer). a.request)) ∙ ap length well.1;
      text = is_whole.text ∙ ap (λ t. texts_of answers ++ t) well.2 ∙ append-nil (texts_of answers);
    }

pub is_complete : IsComplete
is_complete k H s outcome answered read readings written session source more requests is end all short no_read no_write memory =
    elim session.bytes [
      | inl is_whole ↦ answers_all outcome answered read session.rest session.answers session.further written source more requests session.requests is_whole is end all short no_read memory
      | inr cut ↦ absurd (no_write cut.0)
    ]

-- ---- points

-- a number in front that none is below
rising : (least : ℕ) (ns : List ℕ) → All (λ n. least ≤ n) ns → IsNonDecreasing ns → IsNonDecreasing (least ∷ ns)
rising least ns above rest zero zero d le lt = omega arith
rising least ns above rest zero (suc j) d le lt = above j d (omega arith)
rising least ns above rest (suc i) zero d le lt = absurd (omega (arith, le))
rising least ns above rest (suc i) (suc j) d le lt = rest i j d (omega (arith, le)) (omega arith)

not_before : (n : ℕ) (e : Option Entry) → n ≤ point_after n e
not_before n None = omega arith
not_before n (Some e) = omega arith

start_within : (k : Keeping) (H : List Entry) (s : ℕ) (answers : List Answer) → IsTranscript k H s answers → s ≤ length H
start_within k H s [] transcript = transcript
start_within k H s (a ∷ answers) transcript =
    let next : Option Entry = accepted k (take a.point H) a in
    omega (arith, transcript.0.later, not_before a.point next, start_within k H (point_after a.point next) answers transcript.1)

points_within : (k : Keeping) (H : List Entry) (s : ℕ) (answers : List Answer) → IsTranscript k H s answers → All (λ n. n ≤ length H) (points_of answers)
points_within k H s [] transcript = All-nil _
points_within k H s (a ∷ answers) transcript =
    let next : Option Entry = accepted k (take a.point H) a in
    All-cons (λ n. n ≤ length H) a.point (points_of answers)
    (omega (arith, not_before a.point next, start_within k H (point_after a.point next) answers transcript.1))
    (points_within k H (point_after a.point next) answers transcript.1)

-- the points climb from the start, and from each lower number
points_climb : (k : Keeping) (H : List Entry) (least s : ℕ) (answers : List Answer) → least ≤ s → IsTranscript k H s answers → IsNonDecreasing (least ∷ points_of answers)
points_climb k H least s [] le transcript = IsNonDecreasingBy-short (λ n. n) (least ∷ []) (omega arith)
points_climb k H least s (a ∷ answers) le transcript =
    let next : Option Entry = accepted k (take a.point H) a in
    let rest = points_climb k H a.point (point_after a.point next) answers (not_before a.point next) transcript.1 in
    rising least (a.point ∷ points_of answers) (λ j d lt. omega (arith, le, transcript.0.later, rest 0 j d (omega arith) lt)) rest

pub points_never_go_back : PointsNeverGoBack
points_never_go_back k H s answers transcript = (points_climb k H s s answers (omega arith) transcript, points_within k H s answers transcript)
