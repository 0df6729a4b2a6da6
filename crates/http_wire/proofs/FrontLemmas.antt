-- Fronts, and how they stand when more bytes come.
use Rattle.std.proofs.Common.{◌≡◌, ◌≢◌, ℕ, ◌+◌, ◌-◌, ◌<◌, ◌≤◌, inl, inr, cond, false, List, [], ◌++◌, length, take, drop, Option, Some, None, Result, Ok, Err, refl, sym, ap, subst, ◌∙◌, arith, append_assoc, length-append}
use Rattle.std.specs.Prelude.{IsTrue, slice_range, map, nat_le}
use Rattle.std.specs.Str.{IsUtf8}
use Rattle.std.proofs.lemmas.Str.{IsUtf8-from_ascii}
use Rattle.std.proofs.lemmas.Str.Ascii.{IsAscii-from_all}
use Rattle.std.proofs.lemmas.List.Elements.{All-weaker}
use Rattle.std.proofs.lemmas.Bool.Decides.{nat_tests}
use Rattle.httparse.specs.Spans.{span_bytes, IsRequestAt, name_and_value}
use Rattle.httparse.specs.declared.spans.HeaderSpan.{HeaderSpan}
use Rattle.httparse.specs.declared.spans.RequestSpans.{RequestSpans}
use Rattle.std.proofs.lemmas.Bool.{le-leb, lt-leb, cases_lt, and_left, cond-false}
use Rattle.std.proofs.lemmas.List.{take_all, take_at, take-append-le, drop-append-le, append-nil, length-drop, length-map}
use Rattle.std.proofs.Math.Seq.{take-append-add}
use Rattle.httparse.proofs.GrammarLemmas.{request_unique, ReadsRequest-append}
use Rattle.httparse.specs.Grammar.{RequestHead, ReadsRequest, HasNoRequest, IsToken, is_token_byte, print_request}
use Rattle.http_wire.specs.declared.head.TheConstants.{HEAD_MOST, FIELDS_MOST}
use Rattle.http_wire.specs.declared.error.WireError.{WireError}
use Rattle.http_wire.specs.declared.error.WireError.TheVariants.{UnknownCoding}
use Rattle.http_wire.specs.declared.front.Parts.{Parts}
use Rattle.http_wire.specs.declared.request.Request.{Request}
use Rattle.http_wire.specs.Heads.{IsOpen, IsBroken, IsFoundAt, HasCrowd, IsJudgedAs}
use Rattle.http_wire.specs.declared.head.Head.{Head}
use Rattle.http_wire.specs.Fields.{is_built, length_in, body_len}
use Rattle.http_wire.specs.Fronts.{Front, whole, refused, not_yet, window, HeadFront, stands, broken, open_yet, IsHeadFront, request_of, front_with, front_of, IsFront, Tells, with_body}

token_is_ascii : (b : ℕ) → IsTrue (is_token_byte b) → b < 128
unfolding is_token_byte
token_is_ascii b token = grind (arith, nat_tests)

token_is_text : (bytes : List ℕ) → IsToken bytes → IsUtf8 bytes
token_is_text bytes token =
    IsUtf8-from_ascii bytes (IsAscii-from_all bytes (All-weaker (λ b. IsTrue (is_token_byte b)) (λ b. b < 128) token_is_ascii bytes token.1))

pub judged_in : (bytes w : List ℕ) (spans : List HeaderSpan) (v v' : Head) → w ≡ window bytes → v ≡ v' → IsJudgedAs w spans v → IsJudgedAs (window bytes) spans v'
judged_in bytes w spans v v' is same judged = subst (λ t. IsJudgedAs t spans v') is (subst (IsJudgedAs w spans) same judged)

pub method_text : (bytes w : List ℕ) (spans : List HeaderSpan) (head : RequestSpans) → w ≡ window bytes → IsFoundAt (window bytes) spans head → IsUtf8 (span_bytes w head.method)
method_text bytes w spans head is found =
    let at = found.1.1 in
    subst (λ t. IsUtf8 (span_bytes t head.method)) (sym is) (subst IsUtf8 (sym at.method) (token_is_text found.1.0.method at.reads.0.method))

pub Tells-weaker : (r : Result (Option (Request × ℕ)) WireError) (P Q : Front → Type 0) → ((f : Front) → P f → Q f) → Tells r P → Tells r Q
Tells-weaker (Ok None) P Q weaker p = weaker not_yet p
Tells-weaker (Ok (Some found)) P Q weaker p = weaker (whole found.0 found.1) p
Tells-weaker (Err e) P Q weaker p = λ other. weaker (refused e) (p other)

pub tells_stands : (bytes : List ℕ) (spans : List HeaderSpan) (head : RequestSpans) (r : Result (Option (Request × ℕ)) WireError) → IsFoundAt (window bytes) spans head
    → ((h : RequestHead) → IsRequestAt (window bytes) spans head h → Tells r (λ front. front_of (stands h) bytes ≡ front)) → Tells r (IsFront bytes)
tells_stands bytes spans head r found tells =
    let h = found.1.0 in
    let at = found.1.1 in
    Tells-weaker r (λ front. front_of (stands h) bytes ≡ front) (IsFront bytes) (λ f e. (stands h, (drop head.len (window bytes), at.reads), e)) (tells h at)

pub open_short : (bytes : List ℕ) → HasNoRequest (window bytes) × IsOpen (window bytes) → length bytes < HEAD_MOST → IsFront bytes not_yet
open_short bytes head short = (open_yet, head, ap (λ b. cond b (refused UnknownCoding) not_yet) (lt-leb _ _ short))

pub open_long : (bytes : List ℕ) → HasNoRequest (window bytes) × IsOpen (window bytes) → HEAD_MOST ≤ length bytes → IsFront bytes (refused UnknownCoding)
open_long bytes head long = (open_yet, head, ap (λ b. cond b (refused UnknownCoding) not_yet) (le-leb _ _ long))

-- a head with more fields than a request may have is refused
pub crowd_refused : (bytes : List ℕ) → HasCrowd (window bytes) → IsFront bytes (refused UnknownCoding)
crowd_refused bytes crowd =
    let fields = map name_and_value crowd.0.fields in
    let many : nat_le (length fields) FIELDS_MOST ≡ false = lt-leb (length fields) FIELDS_MOST (omega (arith, crowd.3, length-map crowd.0.fields name_and_value)) in
    (stands crowd.0, (crowd.1, crowd.2), ap (front_with crowd.0 bytes) (cond-false (is_built crowd.0.minor fields) (length_in fields) None (and_left (nat_le (length fields) FIELDS_MOST) _ many)))

pub tells_none : (o : Option Parts) (bytes now : List ℕ) → o ≡ None → bytes ≡ now → Tells (with_body bytes (Ok o)) (IsFront bytes) → IsFront now not_yet
tells_none o bytes now is same tells = subst (λ t. IsFront t not_yet) same (subst (λ (x : Option Parts). Tells (with_body bytes (Ok x)) (IsFront bytes)) is tells)

abbrev pub found_at : RequestHead → List ℕ → ℕ → Front
found_at h bytes n = whole (request_of h (slice_range bytes (length (print_request h)) (length (print_request h) + n))) (length (print_request h) + n)

-- ---- the front is one

head_unique : (bytes : List ℕ) (a b : HeadFront) → IsHeadFront bytes a → IsHeadFront bytes b → a ≡ b
head_unique bytes (stands h) (stands k) x y = ap stands (request_unique (window bytes) h k x.0 y.0 x.1 y.1).0
head_unique bytes (stands h) broken x y = absurd (y.0 h x.0 x.1)
head_unique bytes (stands h) open_yet x y = absurd (y.0 h x.0 x.1)
head_unique bytes broken (stands k) x y = absurd (x.0 k y.0 y.1)
head_unique bytes broken broken x y = refl
head_unique bytes broken open_yet x y = absurd (x.1.3 (y.1 x.1.0 x.1.1 x.1.2))
head_unique bytes open_yet (stands k) x y = absurd (x.0 k y.0 y.1)
head_unique bytes open_yet broken x y = absurd (y.1.3 (x.1 y.1.0 y.1.1 y.1.2))
head_unique bytes open_yet open_yet x y = refl

pub front_unique : (bytes : List ℕ) (a b : Front) → IsFront bytes a → IsFront bytes b → a ≡ b
front_unique bytes a b x y = sym x.2 ∙ ap (λ v. front_of v bytes) (head_unique bytes x.0 y.0 x.1 y.1) ∙ y.2

-- ---- the front stays when more bytes come

split_front : (a b c d : List ℕ) → a ++ b ≡ c ++ d → length a ≤ length c → (m : List ℕ) × (c ≡ a ++ m)
split_front a b c d is le =
    let n : length c ≡ length a + (length c - length a) = omega arith in
    (take (length c - length a) b, sym (take_at c d (length c) refl) ∙ ap (take (length c)) (sym is) ∙ ap (λ k. take k (a ++ b)) n ∙ take-append-add a b (length c - length a))

window-append : (bytes more : List ℕ) → (x : List ℕ) × (window (bytes ++ more) ≡ window bytes ++ x)
window-append bytes more =
    elim (cases_lt (length bytes) HEAD_MOST) [
      | inl lt ↦
          let n : HEAD_MOST ≡ length bytes + (HEAD_MOST - length bytes) = omega arith in
          let whole_window : window bytes ≡ bytes = take_all HEAD_MOST bytes (omega arith) in
          (take (HEAD_MOST - length bytes) more, ap (λ k. take k (bytes ++ more)) n ∙ take-append-add bytes more (HEAD_MOST - length bytes) ∙ ap (λ t. t ++ take (HEAD_MOST - length bytes) more) (sym whole_window))
      | inr le ↦ ([], take-append-le HEAD_MOST bytes more le ∙ sym (append-nil (window bytes)))
    ]

none_after : (w x : List ℕ) → HasNoRequest w → IsBroken w → HasNoRequest (w ++ x)
none_after w x none is_broken h rest reads =
    elim (cases_lt (length w) (length (print_request h))) [
      | inl lt ↦
          let m = split_front w x (print_request h) rest reads.1 (omega arith) in
          let p = is_broken.0 in
          let r = is_broken.1.0 in
          let longer : p ++ (r ++ m.0) ≡ print_request h ++ [] = sym (append_assoc p r m.0) ∙ ap (λ t. t ++ m.0) (sym is_broken.1.1) ∙ sym m.1 ∙ sym (append-nil (print_request h)) in
          is_broken.3 (r ++ m.0, h, (reads.0, longer))
      | inr le ↦ let m = split_front (print_request h) rest w x (sym reads.1) le in none h m.0 (reads.0, m.1)
    ]

broken_after : (w x : List ℕ) → IsBroken w → IsBroken (w ++ x)
broken_after w x is_broken = (is_broken.0, (is_broken.1.0 ++ x, ap (λ t. t ++ x) is_broken.1.1 ∙ append_assoc is_broken.0 is_broken.1.0 x), is_broken.2, is_broken.3)

slice-append : (bytes more : List ℕ) (i j : ℕ) → i ≤ j → j ≤ length bytes → slice_range (bytes ++ more) i j ≡ slice_range bytes i j
slice-append bytes more i j le inside =
    ap (take (j - i)) (drop-append-le i bytes more (omega arith)) ∙ take-append-le (j - i) (drop i bytes) more (omega (arith, length-drop i bytes))

front_with-append : (h : RequestHead) (bytes more : List ℕ) (o : Option ℕ) (f : Front) → front_with h bytes o ≡ f → f ≢ not_yet → front_with h (bytes ++ more) o ≡ f
front_with-append h bytes more None f is other = is
front_with-append h bytes more (Some n) f is other =
    let start = length (print_request h) in
    elim (cases_lt (length bytes) (start + n)) [
      | inl lt ↦ absurd (other (sym is ∙ ap (λ b. cond b (found_at h bytes n) not_yet) (lt-leb (start + n) (length bytes) lt)))
      | inr le ↦
          let now : front_with h bytes (Some n) ≡ found_at h bytes n = ap (λ b. cond b (found_at h bytes n) not_yet) (le-leb (start + n) (length bytes) le) in
          let later : front_with h (bytes ++ more) (Some n) ≡ found_at h (bytes ++ more) n =
          ap (λ b. cond b (found_at h (bytes ++ more) n) not_yet) (le-leb (start + n) (length (bytes ++ more)) (omega (arith, length-append bytes more))) in
          later ∙ ap (λ (body : List ℕ). whole (request_of h body) (start + n)) (slice-append bytes more start (start + n) (omega arith) le) ∙ sym now ∙ is
    ]

front_of-append : (v : HeadFront) (bytes more : List ℕ) (f : Front) → IsHeadFront bytes v → front_of v bytes ≡ f → f ≢ not_yet → IsFront (bytes ++ more) f
front_of-append (stands h) bytes more f head is other =
    let x = window-append bytes more in
    let reads : ReadsRequest (window (bytes ++ more)) h (head.0 ++ x.0) = subst (λ t. ReadsRequest t h (head.0 ++ x.0)) (sym x.1) (ReadsRequest-append (window bytes) h head.0 x.0 head.1) in
    (stands h, (head.0 ++ x.0, reads), front_with-append h bytes more (body_len h.minor (map name_and_value h.fields)) f is other)
front_of-append broken bytes more f head is other =
    let x = window-append bytes more in
    (broken, subst (λ t. HasNoRequest t × IsBroken t) (sym x.1) (none_after (window bytes) x.0 head.0 head.1, broken_after (window bytes) x.0 head.1), is)
front_of-append open_yet bytes more f head is other =
    elim (cases_lt (length bytes) HEAD_MOST) [
      | inl lt ↦ absurd (other (sym is ∙ ap (λ b. cond b (refused UnknownCoding) not_yet) (lt-leb _ _ lt)))
      | inr le ↦
          let same : window (bytes ++ more) ≡ window bytes = take-append-le HEAD_MOST bytes more le in
          let now : front_of open_yet bytes ≡ refused UnknownCoding = ap (λ b. cond b (refused UnknownCoding) not_yet) (le-leb HEAD_MOST (length bytes) le) in
          let later : front_of open_yet (bytes ++ more) ≡ refused UnknownCoding =
          ap (λ b. cond b (refused UnknownCoding) not_yet) (le-leb HEAD_MOST (length (bytes ++ more)) (omega (arith, length-append bytes more))) in
          (open_yet, subst (λ t. HasNoRequest t × IsOpen t) (sym same) head, later ∙ sym now ∙ is)
    ]

pub front_append : (bytes more : List ℕ) (f : Front) → IsFront bytes f → f ≢ not_yet → IsFront (bytes ++ more) f
front_append bytes more f front other = front_of-append front.0 bytes more f front.1 front.2 other
