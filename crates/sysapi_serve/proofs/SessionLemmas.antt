-- The session, turn by turn, over a repository that nobody else uses.
use Rattle.std.proofs.Common.{◌≡◌, ℕ, ◌+◌, ◌<◌, List, [], ◌∷◌, ◌++◌, length, Option, inl, inr, refl, sym, ap, subst, ◌∙◌, arith}
use Rattle.std.proofs.lemmas.Bool.{false≢true}
use Rattle.std.specs.Prelude.{All, false}
use Rattle.std.specs.Io.KnownBytes.{Consumes}
use Rattle.std.proofs.KnownBytes.{Consumes-nil, Consumes-trans}
use Rattle.std.proofs.lemmas.List.Elements.{All-head, All-tail}
use Rattle.std.proofs.lemmas.List.{append-nil, flat_map_more, length_push, length-append}
use Rattle.sysapi_base.specs.Outside.{Grows}
use Rattle.sysapi_base.proofs.OutsideLemmas.{Grows-none, Grows-then}
use Rattle.http_wire.specs.declared.request.Request.{Request}
use Rattle.http_wire.specs.Fronts.{not_yet, IsFront}
use Rattle.http_wire.specs.Streams.{TakesAll, EndsClosed}
use Rattle.http_wire.proofs.StreamLemmas.{all_unclosed}
use Rattle.sysapi_serve.specs.declared.outcome.Outcome.{Outcome}
use Rattle.sysapi_serve.specs.declared.outcome.Outcome.TheVariants.{Ended, Closed, Refused, CutShort, ReadFault, WriteFault, Spent, Memory}
use Rattle.sysapi_serve.specs.Kept.{Kept}
use Rattle.sysapi_serve.specs.Alone.{IsServed}
use Rattle.sysapi_serve.specs.Sessions.{Answer, requests_of, texts_of, Adds, HasLast, IsWritten}
use Rattle.sysapi_serve.specs.Parts.{IsLast, Closes, Answers, CutsAnswer, EndsTurn}
use Rattle.sysapi_serve.proofs.HeardLemmas.{HasHeard, starts_heard, hears_more, judged_now, hears_judged}

-- ---- the session so far

-- from what was kept, left, taken and read at first to what is now
pub record IsRunning (costs : ℕ → ℕ) (steady : Type 0) (left left_now taken taken_now clock clock_now : Option (List ℕ)) (total answered : ℕ) (rest : List ℕ) (first now : Kept) : Type 0 where
  pub read : List ℕ
  pub readings : List ℕ
  pub written : List ℕ
  pub answers : List Answer
  pub consumed : Consumes left left_now read
  pub ticked : Grows clock clock_now readings
  pub took : Grows taken taken_now written
  pub heard : HasHeard costs steady first now read readings rest answers
  pub text : written ≡ texts_of answers
  pub count : answered ≡ length answers
  pub total_is : total ≡ length read

pub starts : (costs : ℕ → ℕ) (steady : Type 0) (left taken clock : Option (List ℕ)) (k : Kept) → IsRunning costs steady left left taken taken clock clock 0 0 [] k k
starts costs steady left taken clock k = record {
  read = [];
  readings = [];
  written = [];
  answers = [];
  consumed = Consumes-nil left;
  ticked = Grows-none clock;
  took = Grows-none taken;
  heard = starts_heard costs steady k;
  text = refl;
  count = refl;
  total_is = refl;
}

-- A session that began with this kept, left, taken and read. A later turn is steady where the session is.
module _ (costs : ℕ → ℕ) (steady : Type 0) (left taken clock : Option (List ℕ)) (first : Kept) where
  -- a turn in which nothing was judged leaves all that it was lent
  pub waits : (now new : Kept) (left_now taken_now taken_new clock_now clock_new : Option (List ℕ)) (total answered : ℕ) (rest rest_new : List ℕ)
      → IsRunning costs steady left left_now taken taken_now clock clock_now total answered rest first now
      → (rest_new ≡ rest) × IsFront rest not_yet × (taken_new ≡ taken_now) × (clock_new ≡ clock_now) × (new ≡ now)
      → IsRunning costs steady left left_now taken taken_new clock clock_new total answered rest_new first new × IsFront rest_new not_yet
  waits now new left_now taken_now taken_new clock_now clock_new total answered rest rest_new r does = (
    subst (λ (t : List ℕ). IsRunning costs steady left left_now taken taken_new clock clock_new total answered t first new) (sym does.0)
        (subst (λ (t : Option (List ℕ)). IsRunning costs steady left left_now taken t clock clock_new total answered rest first new) (sym does.2)
        (subst (λ (t : Option (List ℕ)). IsRunning costs steady left left_now taken taken_now clock t total answered rest first new) (sym does.3)
        (subst (λ (k : Kept). IsRunning costs steady left left_now taken taken_now clock clock_now total answered rest first k) (sym does.4) r))),
    subst (λ (t : List ℕ). IsFront t not_yet) (sym does.0) does.1,
  )

  pub reads_more : (now : Kept) (left_now left_new taken_now clock_now : Option (List ℕ)) (total answered n : ℕ) (rest rest_new : List ℕ)
      → IsRunning costs steady left left_now taken taken_now clock clock_now total answered rest first now
      → (bytes : List ℕ) × Consumes left_now left_new bytes × (rest_new ≡ rest ++ bytes) × (n ≡ length bytes) × (0 < n)
      → IsRunning costs steady left left_new taken taken_now clock clock_now (total + n) answered rest_new first now
  reads_more now left_now left_new taken_now clock_now total answered n rest rest_new r does = record {
    read = r.read ++ does.0;
    readings = r.readings;
    written = r.written;
    answers = r.answers;
    consumed = Consumes-trans left left_now left_new r.read does.0 r.consumed does.1;
    ticked = r.ticked;
    took = r.took;
    heard = subst (λ (t : List ℕ). HasHeard costs steady first now (r.read ++ does.0) r.readings t r.answers) (sym does.2)
        (hears_more costs steady first now r.read r.readings rest does.0 r.answers r.heard);
    text = r.text;
    count = r.count;
    total_is = omega (arith, r.total_is, does.3, length-append r.read does.0);
  }

  -- the request at the front was judged, in a turn that was steady where the session is
  module _ (steady_now : Type 0) (on : steady → steady_now) (now new : Kept) (clock_now clock_new : Option (List ℕ)) (rest rest_new : List ℕ) (sent : List ℕ → Type 0) where
    pub answers_more : (left_now taken_now taken_new : Option (List ℕ)) (total answered : ℕ)
        → IsRunning costs steady left left_now taken taken_now clock clock_now total answered rest first now
        → (is : Answers costs steady_now sent now new clock_now clock_new rest rest_new) → Grows taken_now taken_new is.text
        → IsRunning costs steady left left_now taken taken_new clock clock_new total (answered + 1) rest_new first new
    answers_more left_now taken_now taken_new total answered r is sends =
        let a = judged_now costs steady first steady_now on now new clock_now clock_new rest rest_new sent is in
        record {
          read = r.read;
          readings = r.readings ++ is.moment ∷ [];
          written = r.written ++ is.text;
          answers = r.answers ++ a ∷ [];
          consumed = r.consumed;
          ticked = Grows-then clock clock_now clock_new r.readings (is.moment ∷ []) r.ticked is.ticks;
          took = Grows-then taken taken_now taken_new r.written is.text r.took sends;
          heard = hears_judged costs steady first steady_now on now new clock_now clock_new rest rest_new sent r.read r.readings r.answers r.heard is;
          text = ap (λ (t : List ℕ). t ++ is.text) r.text ∙ flat_map_more (λ (a : Answer). a.text) [] r.answers a;
          count = omega (arith, r.count, length_push r.answers a);
          total_is = r.total_is;
        }

-- ---- its end

last_open : (front : List Request) (last : Request) → All (λ r. r.close ≡ false) (front ++ last ∷ []) → last.close ≡ false
last_open [] last all = All-head (λ (r : Request). r.close ≡ false) last [] all
last_open (first ∷ front) last all = last_open front last (All-tail (λ (r : Request). r.close ≡ false) first (front ++ last ∷ []) all)

-- no request of the form that is built closes the connection
not_closed : (read : List ℕ) (requests : List Request) (rest : List ℕ) → TakesAll read requests rest → EndsClosed requests → ⊥
not_closed read requests rest taken ends =
    let each = subst (λ (qs : List Request). All (λ (r : Request). r.close ≡ false) qs) ends.2 (all_unclosed read requests rest taken) in
    absurd (false≢true (sym (last_open ends.0 ends.1 each) ∙ ends.3))

module _ (costs : ℕ → ℕ) (steady : Type 0) (left taken clock : Option (List ℕ)) (first : Kept) where
  -- what was heard, read and written makes a session
  ends : (new : Kept) (left_new taken_new clock_new : Option (List ℕ)) (outcome : Outcome) (answered : ℕ) (read readings further written rest : List ℕ) (answers : List Answer)
      → Consumes left left_new read → Grows clock clock_new (readings ++ further) → Grows taken taken_new written
      → HasHeard costs steady first new read readings rest answers
      → IsWritten outcome read rest answers further written answered
      → IsServed costs steady first new left left_new taken taken_new clock clock_new (record { outcome = outcome; answered = answered })
  ends new left_new taken_new clock_new outcome answered read readings further written rest answers consumed ticked took h bytes = record {
    repository = h.behind.repository;
    room = h.behind.room;
    more = h.more;
    grown = h.behind.grown;
    used = h.behind.used;
    read = read;
    readings = readings ++ further;
    written = written;
    consumed = consumed;
    ticked = ticked;
    took = took;
    session = record {
      answers = answers;
      rest = rest;
      requests = h.heard.taken;
      transcript = h.heard.transcript;
      further = further;
      clock = ap (λ (t : List ℕ). t ++ further) h.heard.moments;
      bytes = bytes;
    };
    alone = h.heard.alone;
    faults = h.faults;
    steady_keeper = h.steady_keeper;
    settled = h.settled;
  }

  -- the whole, with what the outcome adds
  ends_whole : (now : Kept) (left_now left_new taken_now taken_new clock_now clock_new : Option (List ℕ)) (total answered : ℕ) (rest bytes further last : List ℕ) (outcome : Outcome)
      → IsRunning costs steady left left_now taken taken_now clock clock_now total answered rest first now
      → Consumes left_now left_new bytes → Grows clock_now clock_new further → Grows taken_now taken_new last
      → ((read : List ℕ) (answers : List Answer) → total + length bytes ≡ length read → Adds outcome read (rest ++ bytes) answers further last)
      → IsServed costs steady first now left left_new taken taken_new clock clock_new (record { outcome = outcome; answered = answered })
  ends_whole now left_now left_new taken_now taken_new clock_now clock_new total answered rest bytes further last outcome r consumed ticks grows adds =
      ends now left_new taken_new clock_new outcome answered (r.read ++ bytes) r.readings further (r.written ++ last) (rest ++ bytes) r.answers
      (Consumes-trans left left_now left_new r.read bytes r.consumed consumed)
      (Grows-then clock clock_now clock_new r.readings further r.ticked ticks)
      (Grows-then taken taken_now taken_new r.written last r.took grows)
      (hears_more costs steady first now r.read r.readings rest bytes r.answers r.heard)
      (inl (record {
        closed = λ ends. absurd (not_closed r.read (requests_of r.answers) rest r.heard.heard.taken ends);
        last = last;
        adds = adds (r.read ++ bytes) r.answers (omega (arith, r.total_is, length-append r.read bytes));
        text = ap (λ (t : List ℕ). t ++ last) r.text;
        count = r.count;
      }))

  -- a fault cut the response to the request at the front
  ends_in_answer : (steady_now : Type 0) → (steady → steady_now)
      → (now new : Kept) (left_now taken_now taken_new clock_now clock_new : Option (List ℕ)) (total answered : ℕ) (rest rest_new : List ℕ)
      → IsRunning costs steady left left_now taken taken_now clock clock_now total answered rest first now
      → Answers costs steady_now (CutsAnswer taken_now taken_new) now new clock_now clock_new rest rest_new
      → IsServed costs steady first new left left_now taken taken_new clock clock_new (record { outcome = WriteFault; answered = answered })
  ends_in_answer steady_now on now new left_now taken_now taken_new clock_now clock_new total answered rest rest_new r is =
      let a = judged_now costs steady first steady_now on now new clock_now clock_new rest rest_new (CutsAnswer taken_now taken_new) is in
      let cut = is.sends in
      ends new left_now taken_new clock_new WriteFault answered r.read (r.readings ++ is.moment ∷ []) [] (r.written ++ cut.0) rest_new (r.answers ++ a ∷ [])
      r.consumed
      (subst (λ (t : List ℕ). Grows clock clock_new t) (sym (append-nil (r.readings ++ is.moment ∷ []))) (Grows-then clock clock_now clock_new r.readings (is.moment ∷ []) r.ticked is.ticks))
      (Grows-then taken taken_now taken_new r.written cut.0 r.took cut.2)
      (hears_judged costs steady first steady_now on now new clock_now clock_new rest rest_new (CutsAnswer taken_now taken_new) r.read r.readings r.answers r.heard is)
      (inr (
        refl,
        inl (record {
          before = r.answers;
          a = a;
          split = refl;
          part = cut.0;
          cut = cut.1;
          no_more = refl;
          text = ap (λ (t : List ℕ). t ++ cut.0) r.text;
          count = r.count;
        }),
      ))

-- the last text of the two outcomes that have one
last_adds : (outcome : Outcome) (read rest : List ℕ) (answers : List Answer) (moment : ℕ) (last : List ℕ) → IsLast outcome rest moment last
    → HasLast outcome × Adds outcome read rest answers (moment ∷ []) last
last_adds Ended read rest answers moment last is = absurd is
last_adds Closed read rest answers moment last is = absurd is
last_adds (Refused e) read rest answers moment last is = (tt, (moment, is.0, refl, is.1))
last_adds CutShort read rest answers moment last is = absurd is
last_adds ReadFault read rest answers moment last is = absurd is
last_adds WriteFault read rest answers moment last is = absurd is
last_adds Spent read rest answers moment last is = absurd is
last_adds Memory read rest answers moment last is = (tt, (moment, refl, is))

module _ (costs : ℕ → ℕ) (steady : Type 0) (left taken clock : Option (List ℕ)) (first : Kept) where
  -- the session ends with the text that an outcome adds, or a fault cut it
  pub ends_closing : (now : Kept) (left_now left_new taken_now taken_new clock_now clock_new : Option (List ℕ)) (total answered : ℕ) (rest bytes : List ℕ) (moment : ℕ) (result : Outcome)
      → IsRunning costs steady left left_now taken taken_now clock clock_now total answered rest first now
      → Consumes left_now left_new bytes → Grows clock_now clock_new (moment ∷ []) → Closes taken_now taken_new (rest ++ bytes) moment result
      → IsServed costs steady first now left left_new taken taken_new clock clock_new (record { outcome = result; answered = answered })
  ends_closing now left_now left_new taken_now taken_new clock_now clock_new total answered rest bytes moment result r consumed ticks is =
      elim is.written [
        | inl all ↦
            subst (λ (o : Outcome). IsServed costs steady first now left left_new taken taken_new clock clock_new (record { outcome = o; answered = answered })) (sym all.0)
            (ends_whole costs steady left taken clock first now left_now left_new taken_now taken_new clock_now clock_new total answered rest bytes (moment ∷ []) is.last is.due r consumed ticks all.1
            (λ read answers le. (last_adds is.due read (rest ++ bytes) answers moment is.last is.is_last).1))
        | inr cut ↦
            subst (λ (o : Outcome). IsServed costs steady first now left left_new taken taken_new clock clock_new (record { outcome = o; answered = answered })) (sym cut.0)
            (ends costs steady left taken clock first now left_new taken_new clock_new WriteFault answered (r.read ++ bytes) r.readings (moment ∷ []) (r.written ++ cut.1.0) (rest ++ bytes) r.answers
            (Consumes-trans left left_now left_new r.read bytes r.consumed consumed)
            (Grows-then clock clock_now clock_new r.readings (moment ∷ []) r.ticked ticks)
            (Grows-then taken taken_now taken_new r.written cut.1.0 r.took cut.1.2)
            (hears_more costs steady first now r.read r.readings rest bytes r.answers r.heard)
            (let adds = last_adds is.due (r.read ++ bytes) (rest ++ bytes) r.answers moment is.last is.is_last in
            inr (
              refl,
              inr (record {
                open_still = not_closed r.read (requests_of r.answers) rest r.heard.heard.taken;
                outcome = is.due;
                has_last = adds.0;
                last = is.last;
                adds = adds.1;
                part = cut.1.0;
                cut = cut.1.1;
                text = ap (λ (t : List ℕ). t ++ cut.1.0) r.text;
                count = r.count;
              }),
            )))
      ]

  -- the session ends in a turn
  pub ends_turn : (steady_now : Type 0) → (steady → steady_now)
      → (now new : Kept) (left_now taken_now taken_new clock_now clock_new : Option (List ℕ)) (total answered : ℕ) (rest rest_new : List ℕ) (result : Outcome)
      → IsRunning costs steady left left_now taken taken_now clock clock_now total answered rest first now
      → EndsTurn costs steady_now taken_now taken_new clock_now clock_new rest rest_new result now new
      → IsServed costs steady first new left left_now taken taken_new clock clock_new (record { outcome = result; answered = answered })
  ends_turn steady_now on now new left_now taken_now taken_new clock_now clock_new total answered rest rest_new result r (inl cut) =
      subst (λ (o : Outcome). IsServed costs steady first new left left_now taken taken_new clock clock_new (record { outcome = o; answered = answered })) (sym cut.0)
      (ends_in_answer costs steady left taken clock first steady_now on now new left_now taken_now taken_new clock_now clock_new total answered rest rest_new r cut.1)
  ends_turn steady_now on now new left_now taken_now taken_new clock_now clock_new total answered rest rest_new result r (inr closed) =
      subst (λ (k : Kept). IsServed costs steady first k left left_now taken taken_new clock clock_new (record { outcome = result; answered = answered })) (sym closed.0)
      (ends_closing now left_now left_now taken_now taken_new clock_now clock_new total answered rest [] closed.2.0 result r (Consumes-nil left_now) closed.2.1
      (subst (λ (t : List ℕ). Closes taken_now taken_new t closed.2.0 result) (sym (append-nil rest)) closed.2.2))

  -- the session ends in a read that gave no bytes
  pub ends_read : (now : Kept) (left_now left_new taken_now clock_now : Option (List ℕ)) (total answered : ℕ) (rest : List ℕ) (outcome : Outcome)
      → IsRunning costs steady left left_now taken taken_now clock clock_now total answered rest first now
      → Consumes left_now left_new [] → ((read : List ℕ) (answers : List Answer) → total ≡ length read → Adds outcome read rest answers [] [])
      → IsServed costs steady first now left left_new taken taken_now clock clock_now (record { outcome = outcome; answered = answered })
  ends_read now left_now left_new taken_now clock_now total answered rest outcome r consumed adds =
      ends_whole costs steady left taken clock first now left_now left_new taken_now taken_now clock_now clock_now total answered rest [] [] [] outcome r consumed (Grows-none clock_now) (Grows-none taken_now)
      (λ read answers all. subst (λ (t : List ℕ). Adds outcome read t answers [] []) (sym (append-nil rest)) (adds read answers (omega (arith, all))))
