-- Heads and the prefixes that are judged.
use Rattle.std.proofs.Common.{◌≡◌, ◌≢◌, ℕ, zero, suc, ◌+◌, ◌-◌, ◌*◌, ◌<◌, ◌≤◌, ◌⊎◌, inl, inr, Bool, true, false, List, [], ◌∷◌, ◌++◌, length, get_or, take, drop, All, Result, Ok, Err, refl, sym, ap, subst, ◌∙◌, arith, append_assoc, length-append}
use Rattle.std.proofs.lemmas.Str.{IsUtf8-from_ascii}
use Rattle.std.proofs.lemmas.Str.Ascii.{IsAscii-from_all}
use Rattle.std.specs.Prelude.{IfOk, IsTrue, MatchBool}
use Rattle.std.proofs.lemmas.Result.{IfErr-at_err}
use Rattle.httparse.proofs.GrammarLemmas.{ReadsRequest-append}
use Rattle.std.specs.List.{flat_map}
use Rattle.std.proofs.lemmas.Bool.{cases_lt}
use Rattle.std.proofs.lemmas.List.{get_or_at, get_or_append_left, get_or-append_right, take-append-drop, take_at, take_more, get_or-take, length-take-le, append-nil}
use Rattle.std.proofs.lemmas.List.Elements.{All-get_or, All-from_get_or, All-nil, All-cons, All-head, All-tail}
use Rattle.std.proofs.Math.Seq.{take-append-add}
use Rattle.httparse.specs.Grammar.{RequestHead, ReadsRequest, HasNoRequest, NeverHasRequest, print_request, print_blank, print_end, print_field, print_section, print_version, IsRequestHead, IsToken, IsField, Field, LineEnd, crlf, lf, EndsInTarget, MayBecomeRequest, is_uri_byte, AllPass}
use Rattle.httparse.specs.Spans.{RequestExceeds, RequestOverflows}
use Rattle.httparse.specs.Outcome.{OnInvalid, OnTooManyHeaders}
use Rattle.httparse.specs.declared.Error.{Error}
use Rattle.httparse.specs.declared.Error.TheVariants as error
use Rattle.httparse.specs.declared.spans.HeaderSpan.{HeaderSpan}
use Rattle.http_wire.specs.declared.head.TheConstants.{FIELDS_MOST}
use Rattle.http_wire.specs.declared.head.Parsed.{Parsed}
use Rattle.http_wire.specs.declared.head.Parsed.TheVariants as parse
use Rattle.http_wire.specs.Heads.{HasCrowd, IsParsedAs, IsHeadsFront, IsUnspaced, EndsLine, IsJudgedKind, IsOpen, IsBroken}

-- ---- a head with n fields has more than 3 * n bytes

one_byte : (e : LineEnd) → 1 ≤ length (print_end e)
one_byte crlf = omega arith
one_byte lf = omega arith

three_bytes : (f : Field) → IsField f → 3 ≤ length (print_field f)
three_bytes f ok = simp length-append (omega (arith, one_byte f.end, ok.name.0))

three_each : (fs : List Field) → All IsField fs → 3 * length fs ≤ length (flat_map print_field fs)
three_each [] all = omega arith
three_each (f ∷ fs) all =
    omega (arith, three_bytes f (All-head IsField f fs all), three_each fs (All-tail IsField f fs all), length-append (print_field f) (flat_map print_field fs))

pub fields_fit : (h : RequestHead) → All IsField h.fields → 3 * length h.fields < length (print_request h)
unfolding print_request
fields_fit h all = simp length-append (omega (arith, three_each h.fields all, one_byte h.last))

pub reads_fit : (bytes : List ℕ) (h : RequestHead) (rest : List ℕ) → ReadsRequest bytes h rest → 3 * length h.fields < length bytes
reads_fit bytes h rest reads = omega (arith, fields_fit h reads.0.fields, ap length reads.1, length-append (print_request h) rest)

-- ---- the two kinds of prefix don't end inside a target

uri_is_not_line_feed : is_uri_byte 10 ≡ false
uri_is_not_line_feed = refl

-- no LF stands in a target, nor in the space before it
no_line_feed : (target : List ℕ) (j : ℕ) → AllPass is_uri_byte target → j ≤ length target → get_or (32 ∷ target) j 0 ≡ 10 → ⊥
no_line_feed target zero all le e = absurd (omega arith)
no_line_feed target (suc j) all le e =
    let pass : IsTrue (is_uri_byte (get_or target j 0)) = All-get_or (λ x. IsTrue (is_uri_byte x)) target j 0 (omega arith) all in
    let bad : IsTrue (is_uri_byte 10) = subst (λ x. IsTrue (is_uri_byte x)) e pass in
    absurd (cc)

pub not_in_target : (bytes : List ℕ) → IsJudgedKind bytes → EndsInTarget bytes → ⊥
not_in_target bytes (inl unspaced) ends =
    let front = print_blank ends.0 ++ ends.1 in
    let len : length bytes ≡ length front + suc (length ends.2) = ap length ends.5 ∙ length-append front (32 ∷ ends.2) in
    let at : get_or bytes (length front) 0 ≡ 32 = ap (λ (t : List ℕ). get_or t (length front) 0) ends.5 ∙ get_or_at front 32 ends.2 0 (length front) refl in
    All-get_or (λ b. b ≢ 32) bytes (length front) 0 (omega arith) unspaced at
not_in_target bytes (inr lines) ends =
    let before = print_blank ends.0 ++ ends.1 in
    let len : length bytes ≡ length before + suc (length ends.2) = ap length ends.5 ∙ length-append before (32 ∷ ends.2) in
    let shorter : length bytes ≡ length lines.0 + 1 = ap length lines.1 ∙ length-append lines.0 (10 ∷ []) in
    let last : get_or bytes (length lines.0) 0 ≡ 10 = ap (λ (t : List ℕ). get_or t (length lines.0) 0) lines.1 ∙ get_or_at lines.0 10 [] 0 (length lines.0) refl in
    let same : get_or bytes (length lines.0) 0 ≡ get_or (32 ∷ ends.2) (length ends.2) 0 =
    ap (λ (t : List ℕ). get_or t (length lines.0) 0) ends.5
    ∙ get_or-append_right before (32 ∷ ends.2) (length before) (length lines.0) 0 refl (omega arith)
    ∙ ap (λ n. get_or (32 ∷ ends.2) n 0) (omega arith) in
    no_line_feed ends.2 (length ends.2) ends.4 (omega arith) (sym same ∙ last)

-- ---- the longest prefixes

front_of_longer : (prefix rest : List ℕ) → IsHeadsFront (prefix ++ rest) → IsHeadsFront prefix
front_of_longer prefix rest longer = (rest ++ longer.0, longer.1, subst (λ (t : List ℕ). ReadsRequest t longer.1 []) (append_assoc prefix rest longer.0) longer.2)

front_of_take : (bytes prefix rest : List ℕ) (n : ℕ) → bytes ≡ prefix ++ rest → length prefix ≤ n → IsHeadsFront (take n bytes) → IsHeadsFront prefix
front_of_take bytes prefix rest n is le front =
    let at : n ≡ length prefix + (n - length prefix) = omega arith in
    let longer : take n bytes ≡ prefix ++ take (n - length prefix) rest = ap (take n) is ∙ ap (λ k. take k (prefix ++ rest)) at ∙ take-append-add prefix rest (n - length prefix) in
    front_of_longer prefix (take (n - length prefix) rest) (subst IsHeadsFront longer front)

unspaced_le : (bytes prefix rest : List ℕ) (n : ℕ) → bytes ≡ prefix ++ rest → IsUnspaced prefix → (n < length bytes → get_or bytes n 0 ≡ 32) → length prefix ≤ n
unspaced_le bytes prefix rest n is unspaced space =
    elim (cases_lt n (length prefix)) [
      | inl lt ↦
          let e : get_or bytes n 0 ≡ get_or prefix n 0 = ap (λ (t : List ℕ). get_or t n 0) is ∙ get_or_append_left prefix rest 0 n lt in
          absurd (All-get_or (λ b. b ≢ 32) prefix n 0 lt unspaced (sym e ∙ space (omega (arith, ap length is, length-append prefix rest))))
      | inr le ↦ le
    ]

ends_le : (bytes prefix rest : List ℕ) (n : ℕ) → bytes ≡ prefix ++ rest → EndsLine prefix → ((k : ℕ) → n ≤ k → k < length bytes → get_or bytes k 0 ≢ 10) → length prefix ≤ n
ends_le bytes prefix rest n is ends after =
    let front = ends.0 in
    let len : length prefix ≡ length front + 1 = ap length ends.1 ∙ length-append front (10 ∷ []) in
    elim (cases_lt (length front) n) [
      | inl lt ↦ omega arith
      | inr le ↦
          let e : get_or bytes (length front) 0 ≡ get_or prefix (length front) 0 = ap (λ (t : List ℕ). get_or t (length front) 0) is ∙ get_or_append_left prefix rest 0 (length front) (omega arith) in
          let f : get_or prefix (length front) 0 ≡ 10 = ap (λ (t : List ℕ). get_or t (length front) 0) ends.1 ∙ get_or_at front 10 [] 0 (length front) refl in
          absurd (after (length front) le (omega (arith, ap length is, length-append prefix rest)) (e ∙ f))
    ]

pub open_by : (bytes : List ℕ) (s l : ℕ) → (s < length bytes → get_or bytes s 0 ≡ 32) → ((k : ℕ) → l ≤ k → k < length bytes → get_or bytes k 0 ≢ 10)
    → IsHeadsFront (take s bytes) → IsHeadsFront (take l bytes) → IsOpen bytes
open_by bytes s l space after first lines prefix is (inl unspaced) = front_of_take bytes prefix is.0 s is.1 (unspaced_le bytes prefix is.0 s is.1 unspaced space) first
open_by bytes s l space after first lines prefix is (inr ends) = front_of_take bytes prefix is.0 l is.1 (ends_le bytes prefix is.0 l is.1 ends after) lines

pub broken_by : (bytes : List ℕ) (n : ℕ) → IsJudgedKind (take n bytes) → ¬ (IsHeadsFront (take n bytes)) → IsBroken bytes
broken_by bytes n kind none = (take n bytes, (drop n bytes, sym (take-append-drop n bytes)), kind, none)

pub none_in_front : (bytes : List ℕ) (n : ℕ) → HasNoRequest bytes → HasNoRequest (take n bytes)
none_in_front bytes n none h rest reads =
    none h (rest ++ drop n bytes) (subst (λ (t : List ℕ). ReadsRequest t h (rest ++ drop n bytes)) (take-append-drop n bytes) (ReadsRequest-append (take n bytes) h rest (drop n bytes) reads))

pub unspaced_kind : (bytes : List ℕ) (n : ℕ) → n ≤ length bytes → ((k : ℕ) → k < n → get_or bytes k 0 ≢ 32) → IsJudgedKind (take n bytes)
unspaced_kind bytes n le before =
    inl (All-from_get_or (λ b. b ≢ 32) (take n bytes) 0 (λ i lt. let inside : i < n = omega (arith, length-take-le n bytes le) in rw get_or-take (before i inside)))

pub lines_kind : (bytes : List ℕ) (n : ℕ) → n ≤ length bytes → (0 < n → get_or bytes (n - 1) 0 ≡ 10) → IsJudgedKind (take n bytes)
lines_kind bytes zero le last = inl (All-nil (λ b. b ≢ 32))
lines_kind bytes (suc n) le last =
    let some : 0 < suc n = omega arith in
    let one : suc n ≡ n + 1 = omega arith in
    let here : get_or bytes n 0 ≡ 10 = ap (λ k. get_or bytes k 0) (omega arith) ∙ last some in
    inr (take n bytes, ap (λ k. take k bytes) one ∙ take_more bytes n 0 (omega arith) ∙ ap (λ b. take n bytes ++ b ∷ []) here)

-- ---- what the parser answers on such a prefix

is_room : (e : Error) → (e ≡ error.TooManyHeaders) ⊎ (e ≢ error.TooManyHeaders)
is_room error.HeaderName = inr (λ is. cc)
is_room error.HeaderValue = inr (λ is. cc)
is_room error.NewLine = inr (λ is. cc)
is_room error.Status = inr (λ is. cc)
is_room error.Token = inr (λ is. cc)
is_room error.TooManyHeaders = inl refl
is_room error.Version = inr (λ is. cc)

not_over : (bytes : List ℕ) (room : ℕ) → length bytes < 3 * room + 3 → RequestExceeds room bytes → ⊥
not_over bytes room fits over =
    let reads = over.4 in
    omega (arith, reads_fit (over.0 ++ print_end lf) over.3 [] reads, length-append over.0 (10 ∷ []), ap length over.2, length-append over.0 over.1)

pub never_on_err : {A : Type 0} (bytes : List ℕ) (room : ℕ) (r : Result A Error) (e : Error) → r ≡ Err e → length bytes < 3 * room + 3
    → OnInvalid r (NeverHasRequest bytes) → OnTooManyHeaders r (RequestExceeds room bytes) → NeverHasRequest bytes
never_on_err bytes room r e is fits invalid over =
    elim (is_room e) [
      | inl crowd ↦ absurd (not_over bytes room fits (over (is ∙ ap (λ x. Err x) crowd)))
      | inr other ↦ IfErr-at_err (λ x. x ≢ error.TooManyHeaders → NeverHasRequest bytes) is invalid other
    ]

pub crowded : (bytes : List ℕ) (h : RequestHead) (rest : List ℕ) → RequestOverflows FIELDS_MOST bytes → ReadsRequest bytes h rest → HasCrowd bytes
crowded bytes h rest over reads = (h, rest, reads, over [] h (rest ++ []) (ReadsRequest-append bytes h rest [] reads))

pub in_partial : (bytes : List ℕ) (spans : List HeaderSpan) (p : Parsed) → p ≡ parse.Partial → IsParsedAs bytes spans p → HasNoRequest bytes × MayBecomeRequest bytes
in_partial bytes spans p is parsed = subst (IsParsedAs bytes spans) is parsed

pub begins : (bytes : List ℕ) → IsJudgedKind bytes → MayBecomeRequest bytes → IsHeadsFront bytes
begins bytes kind (inl front) = front
begins bytes kind (inr ends) = absurd (not_in_target bytes kind ends)

pub none_if_never : (bytes : List ℕ) → NeverHasRequest bytes → HasNoRequest bytes
none_if_never bytes never h rest reads = never [] h (rest ++ []) (ReadsRequest-append bytes h rest [] reads)

open_or_broken : (bytes : List ℕ) (s l : ℕ) (b : Bool) → (s < length bytes → get_or bytes s 0 ≡ 32) → ((k : ℕ) → l ≤ k → k < length bytes → get_or bytes k 0 ≢ 10)
    → IsJudgedKind (take l bytes) → IsHeadsFront (take s bytes) → MatchBool b (IsHeadsFront (take l bytes)) (¬ (IsHeadsFront (take l bytes))) → MatchBool b (IsOpen bytes) (IsBroken bytes)
open_or_broken bytes s l true space after kind first second = open_by bytes s l space after first second
open_or_broken bytes s l false space after kind first second = broken_by bytes l kind second

pub open_or_broken_then : {E : Type 0} (bytes : List ℕ) (s l : ℕ) (r : Result Bool E) → (s < length bytes → get_or bytes s 0 ≡ 32) → ((k : ℕ) → l ≤ k → k < length bytes → get_or bytes k 0 ≢ 10)
    → IsJudgedKind (take l bytes) → IsHeadsFront (take s bytes) → IfOk r (λ b. MatchBool b (IsHeadsFront (take l bytes)) (¬ (IsHeadsFront (take l bytes))))
    → IfOk r (λ b. MatchBool b (IsOpen bytes) (IsBroken bytes))
open_or_broken_then bytes s l (Ok b) space after kind first second = open_or_broken bytes s l b space after kind first second
open_or_broken_then bytes s l (Err e) space after kind first second = tt

pub first_broken : (bytes : List ℕ) (s : ℕ) (b : Bool) → b ≡ false → IsJudgedKind (take s bytes) → MatchBool b (IsHeadsFront (take s bytes)) (¬ (IsHeadsFront (take s bytes))) → IsBroken bytes
first_broken bytes s true is kind first = absurd cc
first_broken bytes s false is kind first = broken_by bytes s kind first

pub first_open : (bytes : List ℕ) (s : ℕ) (b : Bool) → b ≡ true → MatchBool b (IsHeadsFront (take s bytes)) (¬ (IsHeadsFront (take s bytes))) → IsHeadsFront (take s bytes)
first_open bytes s true is first = first
first_open bytes s false is first = absurd cc

-- ---- bytes that may become a head are open

pub simple_head : List LineEnd → List ℕ → RequestHead
simple_head blank method = record { blank = blank; method = method; target = 47 ∷ []; minor = 1; line_end = lf; fields = []; last = lf }

pub is_simple_head : (blank : List LineEnd) (method : List ℕ) → IsToken method → IsRequestHead (simple_head blank method)
unfolding simple_head
is_simple_head blank method token = record {
  method = token;
  target = (omega arith, All-cons (λ b. IsTrue (is_uri_byte b)) 47 [] refl (All-nil (λ b. IsTrue (is_uri_byte b))));
  target_text = IsUtf8-from_ascii (47 ∷ []) (IsAscii-from_all (47 ∷ []) (All-cons (λ b. b < 128) 47 [] (omega arith) (All-nil (λ b. b < 128))));
  minor = omega arith;
  fields = All-nil IsField;
}

-- a head can follow on blank lines and a method
after_method : (blank : List LineEnd) (method : List ℕ) → IsToken method → IsHeadsFront (print_blank blank ++ method)
unfolding print_request simple_head
after_method blank method token =
    let rest = 32 ∷ 47 ∷ 32 ∷ print_version 1 ++ print_end lf ++ print_section [] lf in
    (rest, simple_head blank method, (is_simple_head blank method token, simp (append_assoc, append-nil) refl))

open_in_target : (bytes : List ℕ) → EndsInTarget bytes → IsOpen bytes
open_in_target bytes ends =
    let before = print_blank ends.0 ++ ends.1 in
    let n = length before in
    let len : length bytes ≡ n + suc (length ends.2) = ap length ends.5 ∙ length-append before (32 ∷ ends.2) in
    let space : n < length bytes → get_or bytes n 0 ≡ 32 = λ _. ap (λ (t : List ℕ). get_or t n 0) ends.5 ∙ get_or_at before 32 ends.2 0 n refl in
    let after : (k : ℕ) → n ≤ k → k < length bytes → get_or bytes k 0 ≢ 10 = λ k le lt is.
    let same : get_or bytes k 0 ≡ get_or (32 ∷ ends.2) (k - n) 0 = ap (λ (t : List ℕ). get_or t k 0) ends.5 ∙ get_or-append_right before (32 ∷ ends.2) n k 0 refl le in
    no_line_feed ends.2 (k - n) ends.4 (omega arith) (sym same ∙ is) in
    let start : take n bytes ≡ before = ap (take n) ends.5 ∙ take_at before (32 ∷ ends.2) n refl in
    let first : IsHeadsFront (take n bytes) = subst IsHeadsFront (sym start) (after_method ends.0 ends.1 ends.3) in
    open_by bytes n n space after first first

pub open_if_may : (bytes : List ℕ) → MayBecomeRequest bytes → IsOpen bytes
open_if_may bytes (inl front) prefix is kind = front_of_longer prefix is.0 (subst IsHeadsFront is.1 front)
open_if_may bytes (inr ends) prefix is kind = open_in_target bytes ends prefix is kind
