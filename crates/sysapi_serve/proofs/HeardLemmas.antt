-- What a session has heard: the requests judged so far over a repository that nobody else uses.
use Rattle.std.proofs.Common.{◌≡◌, ◌≢◌, ℕ, ◌+◌, ◌^◌, ◌-◌, ◌<◌, ◌≤◌, List, [], ◌∷◌, ◌++◌, length, take, drop, nat_lt, Option, Some, None, refl, sym, ap, subst, ◌∙◌, arith, append_assoc}
use Rattle.std.proofs.lemmas.Bool.{lt-ltb, le-ltb}
use Rattle.std.proofs.Math.Seq.{take-append_seam, drop-append_seam}
use Rattle.std.specs.Prelude.{reverse, false}
use Rattle.std.proofs.lemmas.List.Elements.{All-nil, All-push, All-pop}
use Rattle.std.proofs.lemmas.List.Sums.{sum_by-append, sum_by_push}
use Rattle.std.proofs.lemmas.List.{append-nil, map_push, length_push, length-append, take-append-le, take_all}
use Rattle.sysapi_base.specs.Outside.{Rises}
use Rattle.http_wire.specs.declared.request.Request.{Request}
use Rattle.http_wire.specs.Fronts.{Takes}
use Rattle.http_wire.specs.Streams.{TakesAll}
use Rattle.http_wire.proofs.StreamLemmas.{TakesAll-append, TakesAll-push, all_unclosed}
use Rattle.entry_codec.specs.declared.entry.Entry.{Entry}
use Rattle.sysapi_serve.specs.Kept.{Kept, past, number_of, entries}
use Rattle.sysapi_serve.specs.Alone.{keeping, cost_of, used_behind, fault_of, CountsFaults}
use Rattle.api_rest.specs.Routes.{routed}
use Rattle.sysapi_serve.specs.Sessions.{Keeping, Way, responded, full, faulty, unaccepted, unsaid, Answer, entry_for, entry_of, accepted, accepted_by, StandsAt, point_after, Fits, Overflows, IsText, IsAnswered, IsTranscript, IsAlone, IsFaultless, requests_of, moments_of}
use Rattle.sysapi_serve.specs.Texts.{text_of}
use Rattle.sysapi_serve.specs.Parts.{HasRoom, LacksRoom, Says, Moves, IsAnsweredBy, Answers, entry_asked}

-- ---- histories

length_with : (H : List Entry) (e : Option Entry) → length (H ++ entries e) ≡ point_after (length H) e
length_with H None = ap length (append-nil H)
length_with H (Some e) = length_push H e

-- an entry that stands at a point stands there in each longer history
stands_longer : (H more : List Entry) (n : ℕ) (e : Option Entry) → n ≤ length H → point_after n e ≤ length H → StandsAt H n e → StandsAt (H ++ more) n e
stands_longer H more n None le room stands = tt
stands_longer H more n (Some e) le room stands = take-append-le (n + 1) H more room ∙ stands ∙ ap (λ (t : List Entry). t ++ e ∷ []) (sym (take-append-le n H more le))

stands_last : (H : List Entry) (e : Option Entry) → StandsAt (H ++ entries e) (length H) e
stands_last H None = tt
stands_last H (Some e) =
    take_all (length H + 1) (H ++ e ∷ []) (omega (arith, length_push H e))
    ∙ ap (λ (t : List Entry). t ++ e ∷ []) (sym (take-append_seam H (e ∷ [])))

point_grows : (n : ℕ) (e : Option Entry) → n ≤ point_after n e
point_grows n None = omega arith
point_grows n (Some e) = omega arith

-- ---- transcripts

-- the entry that a request left at its point of this history
abbrev pub left_by : Keeping → List Entry → Answer → Option Entry
left_by k H a = accepted k (take a.point H) a

starts_below : (k : Keeping) (H : List Entry) (s : ℕ) (answers : List Answer) → IsTranscript k H s answers → s ≤ length H
starts_below k H s [] t = t
starts_below k H s (a ∷ answers) t =
    let first = t.0.later in
    let next = point_grows a.point (left_by k H a) in
    let rest = starts_below k H (point_after a.point (left_by k H a)) answers t.1 in
    omega arith

-- the same at a longer history, up to each point
module _ (k : Keeping) (H more : List Entry) where
  same_front : (a : Answer) → point_after a.point (left_by k H a) ≤ length H → take a.point (H ++ more) ≡ take a.point H
  same_front a room = let le = point_grows a.point (left_by k H a) in take-append-le a.point H more (omega arith)

  answered_longer : (s : ℕ) (a : Answer) → point_after a.point (left_by k H a) ≤ length H → IsAnswered k H s a → IsAnswered k (H ++ more) s a
  answered_longer s a room is =
      let same = same_front a room in
      let le = point_grows a.point (left_by k H a) in
      record {
        later = is.later;
        stateless = is.stateless;
        text = subst (λ (b : List Entry). IsText k b a a.way (entry_of k b a)) (sym same) is.text;
        stands = subst (λ (b : List Entry). StandsAt (H ++ more) a.point (accepted k b a)) (sym same)
            (stands_longer H more a.point (left_by k H a) (omega arith) room is.stands);
      }

  transcript_longer : (s : ℕ) (answers : List Answer) → IsTranscript k H s answers → IsTranscript k (H ++ more) s answers
  transcript_longer s [] t = omega (arith, length-append H more)
  transcript_longer s (a ∷ answers) t =
      let room = starts_below k H (point_after a.point (left_by k H a)) answers t.1 in (
        answered_longer s a room t.0,
        subst (λ (b : List Entry). IsTranscript k (H ++ more) (point_after a.point (accepted k b a)) answers) (sym (same_front a room))
            (transcript_longer (point_after a.point (left_by k H a)) answers t.1),
      )

  alone_longer : (s n : ℕ) (answers : List Answer) → IsTranscript k H s answers → IsAlone k H s answers n → IsAlone k (H ++ more) s answers n
  alone_longer s n [] t alone = alone
  alone_longer s n (a ∷ answers) t alone =
      let room = starts_below k H (point_after a.point (left_by k H a)) answers t.1 in (
        alone.0,
        subst (λ (b : List Entry). IsAlone k (H ++ more) (point_after a.point (accepted k b a)) answers n) (sym (same_front a room))
            (alone_longer (point_after a.point (left_by k H a)) n answers t.1 alone.1),
      )

-- one more judged request
module _ (k : Keeping) (H : List Entry) (a : Answer) where
  transcript_push : (s n : ℕ) (answers : List Answer) → IsTranscript k H s answers → IsAlone k H s answers n → IsAnswered k H n a
      → point_after a.point (left_by k H a) ≤ length H → IsTranscript k H s (answers ++ a ∷ [])
  transcript_push s n [] t alone is room = (subst (λ (m : ℕ). IsAnswered k H m a) (sym alone) is, room)
  transcript_push s n (b ∷ answers) t alone is room = (t.0, transcript_push (point_after b.point (left_by k H b)) n answers t.1 alone.1 is room)

  alone_push : (s n : ℕ) (answers : List Answer) → IsAlone k H s answers n → a.point ≡ n → IsAlone k H s (answers ++ a ∷ []) (point_after a.point (left_by k H a))
  alone_push s n [] alone at = (at ∙ sym alone, refl)
  alone_push s n (b ∷ answers) alone at = (alone.0, alone_push (point_after b.point (left_by k H b)) n answers alone.1 at)

-- ---- what is kept

-- from what was kept at first to what is kept now, behind these entries more
pub record IsBehind (costs : ℕ → ℕ) (first now : Kept) (more : List Entry) : Type 0 where
  pub repository : number_of now ≡ number_of first
  pub room : now.figures.room ≡ first.figures.room
  pub grown : now.history ≡ first.history ++ more
  pub used : now.figures.used ≡ used_behind costs first.figures.used more

behind_nothing : (costs : ℕ → ℕ) (k : Kept) → IsBehind costs k k []
behind_nothing costs k = record { repository = refl; room = refl; grown = sym (append-nil k.history); used = omega arith }

-- the same behind one request more
behind_more : (costs : ℕ → ℕ) (steady : Type 0) (way : Way) (e : Option Entry) (first now new : Kept) (more : List Entry)
    → IsBehind costs first now more → Moves costs steady way e now new → IsBehind costs first new (more ++ entries e)
behind_more costs steady way e first now new more b m = record {
  repository = m.repository ∙ b.repository;
  room = m.room ∙ b.room;
  grown = m.history ∙ ap (λ (H : List Entry). H ++ entries e) b.grown ∙ append_assoc first.history more (entries e);
  used = omega (arith, m.used, b.used, sum_by-append (cost_of costs) more (entries e));
}

-- the repository of the session is full now exactly where the keeper lacks room
module _ (costs : ℕ → ℕ) (first now : Kept) (more : List Entry) (b : IsBehind costs first now more) where
  full_now : (e : Entry) → (keeping costs first).is_full now.history e ≡ nat_lt now.figures.room (now.figures.used + cost_of costs e)
  full_now e =
      let n = length first.history in
      let room = first.figures.room in
      let used = first.figures.used in
      let cost = cost_of costs e in
      ap (λ (H : List Entry). nat_lt room (used_behind costs used (drop n H) + cost)) b.grown
      ∙ ap (λ (t : List Entry). nat_lt room (used_behind costs used t + cost)) (drop-append_seam first.history more)
      ∙ ap (λ (u : ℕ). nat_lt room (u + cost)) (sym b.used)
      ∙ ap (λ (r : ℕ). nat_lt r (now.figures.used + cost)) (sym b.room)

  fits_now : (e : Option Entry) → HasRoom costs now e → Fits (keeping costs first) now.history e
  fits_now None has = tt
  fits_now (Some e) has = full_now e ∙ le-ltb now.figures.room (now.figures.used + cost_of costs e) has

  overflows_now : (e : Option Entry) → LacksRoom costs now e → Overflows (keeping costs first) now.history e
  overflows_now None lacks = absurd lacks
  overflows_now (Some e) lacks = full_now e ∙ lt-ltb now.figures.room (now.figures.used + cost_of costs e) lacks

-- ---- one request

abbrev pub answer_of : List Entry → Request → ℕ → Way → List ℕ → Answer
answer_of H request moment way text = record { request = request; moment = moment; point = length H; way = way; text = text }

-- a request was judged behind this history, which is now the new one
pub record IsJudged (k : Keeping) (H new : List Entry) (a : Answer) : Type 0 where
  pub more : List Entry
  pub grown : new ≡ H ++ more
  pub point : a.point ≡ length H
  pub answered : IsAnswered k new (length H) a
  pub left : length new ≡ point_after a.point (left_by k new a)

judged_by : (k : Keeping) (H : List Entry) (request : Request) (moment : ℕ) (way : Way) (text : List ℕ)
    → IsText k H (answer_of H request moment way text) way (entry_for k.repository (reverse H) moment (routed request))
    → IsJudged k H (H ++ entries (accepted_by way (entry_for k.repository (reverse H) moment (routed request)))) (answer_of H request moment way text)
judged_by k H request moment way text is =
    let e = accepted_by way (entry_for k.repository (reverse H) moment (routed request)) in
    let a = answer_of H request moment way text in
    let same = sym (take-append_seam H (entries e)) in
    record {
      more = entries e;
      grown = refl;
      point = refl;
      answered = record {
        later = omega arith;
        stateless = λ _. refl;
        text = subst (λ (b : List Entry). IsText k b a way (entry_of k b a)) same is;
        stands = subst (λ (b : List Entry). StandsAt (H ++ entries e) (length H) (accepted k b a)) same (stands_last H e);
      };
      left = length_with H e ∙ ap (λ (b : List Entry). point_after (length H) (accepted k b a)) same;
    }

-- what a text says by what is kept it says by the repository of the session
module _ (costs : ℕ → ℕ) (first now : Kept) (more : List Entry) (b : IsBehind costs first now more) (request : Request) (moment : ℕ) (text : List ℕ) where
  says_text : (way : Way) (e : Option Entry) → Says costs now request moment (routed request) way e text
      → IsText (keeping costs first) now.history (answer_of now.history request moment way text) way e
  says_text responded e says = (says.0 ∙ ap (λ (r : ℕ). text_of r (past now) request moment (routed request)) b.repository, fits_now costs first now more b e says.1)
  says_text full e says = (says.0, overflows_now costs first now more b e says.1)
  says_text faulty e says = (says.0, says.1, fits_now costs first now more b e says.2)
  says_text unaccepted e says = says
  says_text unsaid e says = (says.0, says.1, fits_now costs first now more b e says.2)

  judged : (steady : Type 0) (new : Kept) (way : Way) → IsAnsweredBy costs steady now new request moment (routed request) way text
      → IsJudged (keeping costs first) now.history new.history (answer_of now.history request moment way text)
  judged steady new way is =
      let k = keeping costs first in
      let H = now.history in
      let a = answer_of H request moment way text in
      let says = subst (λ (r : ℕ). IsText k H a way (entry_for r (reverse H) moment (routed request))) b.repository (says_text way (entry_asked now moment (routed request)) is.says) in
      let history : H ++ entries (accepted_by way (entry_for k.repository (reverse H) moment (routed request))) ≡ new.history =
      ap (λ (r : ℕ). H ++ entries (accepted_by way (entry_for r (reverse H) moment (routed request)))) (sym b.repository) ∙ sym is.moves.history in
      subst (λ (t : List Entry). IsJudged k H t a) history (judged_by k H request moment way text says)

-- ---- counts of faults

counts_none : (now : ℕ) → CountsFaults [] now now
counts_none now = record { later = omega arith; risen = λ below. omega arith }

rises_by : (way : Way) (now new : ℕ) → now ≤ new → new < 2 ^ 64 - 1 → (way ≡ faulty → Rises now new) → now + fault_of way ≤ new
rises_by responded now new later below rises = omega arith
rises_by full now new later below rises = omega arith
rises_by faulty now new later below rises = omega (arith, rises refl (omega arith))
rises_by unaccepted now new later below rises = omega arith
rises_by unsaid now new later below rises = omega arith

counts_more : (answers : List Answer) (a : Answer) (first now new : ℕ) → CountsFaults answers first now → now ≤ new → (a.way ≡ faulty → Rises now new)
    → CountsFaults (answers ++ a ∷ []) first new
counts_more answers a first now new counts later rises = record {
  later = omega (arith, counts.later);
  risen = λ below. omega (arith, counts.risen (omega arith), rises_by a.way now new later below rises, sum_by_push (λ (a : Answer). fault_of a.way) answers a);
}

-- the answers before the last one, and the last one, have no fault where none has
faultless_before : (answers : List Answer) (a : Answer) → IsFaultless (answers ++ a ∷ []) → IsFaultless answers × (a.way ≢ faulty)
faultless_before answers a all = All-pop (λ (a : Answer). a.way ≢ faulty) (answers ++ a ∷ []) answers (Some a) refl all

-- ---- all requests

-- the requests judged so far, the first ones of the bytes read
pub record IsHeard (k : Keeping) (first now : List Entry) (read readings rest : List ℕ) (answers : List Answer) : Type 0 where
  pub taken : TakesAll read (requests_of answers) rest
  pub transcript : IsTranscript k now (length first) answers
  pub alone : IsAlone k now (length first) answers (length now)
  pub moments : readings ≡ moments_of answers

hears_nothing : (k : Keeping) (H : List Entry) → IsHeard k H H [] [] [] []
hears_nothing k H = record {
  taken = refl;
  transcript = omega arith;
  alone = refl;
  moments = refl;
}

hears_answer : (k : Keeping) (first now new : List Entry) (read readings old rest : List ℕ) (answers : List Answer) (a : Answer)
    → IsHeard k first now read readings old answers → Takes old a.request rest → IsJudged k now new a
    → IsHeard k first new read (readings ++ a.moment ∷ []) rest (answers ++ a ∷ [])
hears_answer k first now new read readings old rest answers a h takes j =
    let s = length first in
    let room : point_after a.point (left_by k new a) ≤ length new = omega (arith, j.left) in
    let transcript : IsTranscript k new s answers = subst (λ (H : List Entry). IsTranscript k H s answers) (sym j.grown) (transcript_longer k now j.more s answers h.transcript) in
    let alone : IsAlone k new s answers (length now) = subst (λ (H : List Entry). IsAlone k H s answers (length now)) (sym j.grown) (alone_longer k now j.more s (length now) answers h.transcript h.alone) in
    record {
      taken = subst (λ (qs : List Request). TakesAll read qs rest) (sym (map_push (λ (a : Answer). a.request) answers a))
          (TakesAll-push read (requests_of answers) old a.request rest h.taken (all_unclosed read (requests_of answers) old h.taken) takes);
      transcript = transcript_push k new a s (length now) answers transcript alone j.answered room;
      alone = subst (λ (n : ℕ). IsAlone k new s (answers ++ a ∷ []) n) (sym j.left) (alone_push k new a s (length now) answers alone j.point);
      moments = ap (λ (t : List ℕ). t ++ a.moment ∷ []) h.moments ∙ sym (map_push (λ (a : Answer). a.moment) answers a);
    }

hears_bytes : (k : Keeping) (first now : List Entry) (read readings rest bytes : List ℕ) (answers : List Answer)
    → IsHeard k first now read readings rest answers → IsHeard k first now (read ++ bytes) readings (rest ++ bytes) answers
hears_bytes k first now read readings rest bytes answers h = record {
  taken = TakesAll-append read (requests_of answers) rest bytes h.taken;
  transcript = h.transcript;
  alone = h.alone;
  moments = h.moments;
}

-- ---- all that is known

-- What is kept now, and what was judged, from what was kept at first. No request was answered 500 where the keeper was steady, and
-- without one nothing is in doubt where nothing was before.
pub record HasHeard (costs : ℕ → ℕ) (steady : Type 0) (first now : Kept) (read readings rest : List ℕ) (answers : List Answer) : Type 0 where
  pub more : List Entry
  pub behind : IsBehind costs first now more
  pub heard : IsHeard (keeping costs first) first.history now.history read readings rest answers
  pub faults : CountsFaults answers first.faults now.faults
  pub steady_keeper : steady → IsFaultless answers
  pub settled : IsFaultless answers → first.figures.doubt ≡ false → now.figures.doubt ≡ false

module _ (costs : ℕ → ℕ) (steady : Type 0) (first : Kept) where
  pub starts_heard : HasHeard costs steady first first [] [] [] []
  starts_heard = record {
    more = [];
    behind = behind_nothing costs first;
    heard = hears_nothing (keeping costs first) first.history;
    faults = counts_none first.faults;
    steady_keeper = λ is. All-nil (λ (a : Answer). a.way ≢ faulty);
    settled = λ none doubt. doubt;
  }

  pub hears_more : (now : Kept) (read readings rest bytes : List ℕ) (answers : List Answer) → HasHeard costs steady first now read readings rest answers
      → HasHeard costs steady first now (read ++ bytes) readings (rest ++ bytes) answers
  hears_more now read readings rest bytes answers h = record {
    more = h.more;
    behind = h.behind;
    heard = hears_bytes (keeping costs first) first.history now.history read readings rest bytes answers h.heard;
    faults = h.faults;
    steady_keeper = h.steady_keeper;
    settled = h.settled;
  }

  -- the request at the front was judged, in a turn that was steady where the session is
  module _ (steady_now : Type 0) (on : steady → steady_now) (now new : Kept) (clock_now clock_new : Option (List ℕ)) (rest rest_new : List ℕ) (sent : List ℕ → Type 0) where
    abbrev pub judged_now : Answers costs steady_now sent now new clock_now clock_new rest rest_new → Answer
    judged_now is = answer_of now.history is.request is.moment is.way is.text

    pub hears_judged : (read readings : List ℕ) (answers : List Answer) → HasHeard costs steady first now read readings rest answers
        → (is : Answers costs steady_now sent now new clock_now clock_new rest rest_new)
        → HasHeard costs steady first new read (readings ++ is.moment ∷ []) rest_new (answers ++ judged_now is ∷ [])
    hears_judged read readings answers h is =
        let a = judged_now is in
        let e = accepted_by is.way (entry_asked now is.moment (routed is.request)) in
        let moves = is.judges.moves in
        record {
          more = h.more ++ entries e;
          behind = behind_more costs steady_now is.way e first now new h.more h.behind moves;
          heard = hears_answer (keeping costs first) first.history now.history new.history read readings rest rest_new answers a h.heard is.takes
              (judged costs first now h.more h.behind is.request is.moment is.text steady_now new is.way is.judges);
          faults = counts_more answers a first.faults now.faults new.faults h.faults moves.later moves.risen;
          steady_keeper = λ s. All-push (λ (a : Answer). a.way ≢ faulty) answers a (h.steady_keeper s) (moves.steady_keeper (on s));
          settled = λ none doubt. let before = faultless_before answers a none in moves.settled before.1 (h.settled before.0 doubt);
        }
