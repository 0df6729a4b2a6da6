-- The parts of one turn.
use Rattle.std.proofs.Common.{◌≡◌, ◌≢◌, ◌⊎◌, ℕ, List, [], None, Result, Ok, Err, refl, sym, subst, ap, ◌∙◌, arith, append-nil, inl, inr}
use Rattle.std.specs.Prelude.{Bool, IfErr, IfOk, IsErr, Option}
use Rattle.std.proofs.lemmas.Result.{IfErr-at_err, IfOk-at_ok}
use Rattle.http_wire.specs.declared.error.WireError.{WireError}
use Rattle.http_wire.specs.declared.error.WireError.TheVariants as wire
use Rattle.http_wire.specs.declared.request.Request.{Request}
use Rattle.http_wire.specs.Fronts.{refused, IsFront, Takes}
use Rattle.http_wire.specs.Responses.{fixed_text}
use Rattle.entry_codec.specs.declared.entry.Entry.{Entry}
use Rattle.entry_codec.specs.declared.call.Call.{Call}
use Rattle.api_rest.specs.declared.error.RestError.{RestError}
use Rattle.sysapi_serve.specs.declared.outcome.Outcome.{Outcome}
use Rattle.sysapi_serve.specs.declared.outcome.Outcome.TheVariants as outcome
use Rattle.sysapi_serve.specs.declared.turn.Instead.{Instead}
use Rattle.sysapi_serve.specs.declared.turn.Instead.TheVariants as instead
use Rattle.sysapi_serve.specs.Kept.{Kept, past, number_of}
use Rattle.sysapi_serve.specs.Texts.{text_of, fixed_for}
use Rattle.sysapi_serve.specs.Sessions.{Way, responded, full, faulty, unaccepted, unsaid, entry_for}
use Rattle.sysapi_serve.specs.Parts.{HasRoom, Moves, IsAnsweredBy, Judges, IsLast, IsOfTurn, Closes, entry_asked, status_of, read_result}

-- the bytes stay, and a front that is an error is that one
pub refused_front : (old new : List ℕ) (r : Result Request WireError) (e : WireError) → r ≡ Err e → IfErr r (λ e. (new ≡ old) × (e ≢ wire.Memory → IsFront old (refused e)))
    → (new ≡ old) × (e ≢ wire.Memory → IsFront old (refused e))
refused_front old new r e is refuses = IfErr-at_err (λ e. (new ≡ old) × (e ≢ wire.Memory → IsFront old (refused e))) is refuses

-- a front that is a request is taken
pub taken_front : (old new : List ℕ) (r : Result Request WireError) (q : Request) → r ≡ Ok q → IfOk r (λ q. Takes old q new) → Takes old q new
taken_front old new r q is takes = IfOk-at_ok (λ q. Takes old q new) is takes

-- a request that asks for no call leaves no entry
entry_none : (r : ℕ) (past : List Entry) (moment : ℕ) (asked : Result Call RestError) → IsErr asked → entry_for r past moment asked ≡ None
entry_none r past moment (Err e) is = refl
entry_none r past moment (Ok call) is = cc

-- the text that answers a request doesn't depend on its body, once it is routed
text-without_body : (r : ℕ) (past : List Entry) (request bare : Request) (moment : ℕ) (asked : Result Call RestError) (text : List ℕ) → bare ≡ record request { body = [] }
    → text ≡ text_of r past bare moment asked → text ≡ text_of r past request moment asked
text-without_body r past request bare moment (Ok call) text is told = told ∙ ap (λ (q : Request). text_of r past q moment (Ok call)) is
text-without_body r past request bare moment (Err error) text is told = told ∙ ap (λ (q : Request). text_of r past q moment (Err error)) is

-- what is kept stays where nothing is left and no call of the keeper failed
pub moves_nothing : (costs : ℕ → ℕ) (steady : Type 0) (way : Way) (k : Kept) → way ≢ faulty → Moves costs steady way None k k
moves_nothing costs steady way k isnt = record {
  history = sym (append-nil k.history);
  repository = refl;
  room = refl;
  used = omega arith;
  settled = λ no doubt. doubt;
  later = omega arith;
  risen = λ is. absurd (isnt is);
  steady_keeper = λ steady. isnt;
}

-- a request that asks for no call was answered by the text that tells why
pub answers_error : (costs : ℕ → ℕ) (steady : Type 0) (k : Kept) (request bare : Request) (moment : ℕ) (asked : Result Call RestError) (text : List ℕ) → IsErr asked → bare ≡ record request { body = [] }
    → text ≡ text_of (number_of k) (past k) bare moment asked → IsAnsweredBy costs steady k k request moment asked responded text
answers_error costs steady k request bare moment asked text err is told =
    let none : entry_asked k moment asked ≡ None = entry_none (number_of k) (past k) moment asked err in
    record {
      says = (
        text-without_body (number_of k) (past k) request bare moment asked text is told,
        subst (λ (e : Option Entry). HasRoom costs k e) (sym none) tt,
      );
      moves = subst (λ (e : Option Entry). Moves costs steady responded e k k) (sym none) (moves_nothing costs steady responded k (λ no. cc));
    }

-- what stands in place of a response is a fixed text
pub instead_answers : {T : Type 0} (bytes : T → List ℕ) (costs : ℕ → ℕ) (steady : Type 0) (request : Request) (moment : ℕ) (asked : Result Call RestError) (i : Instead) (old new : Kept)
    → Judges bytes costs steady request moment asked (Err i) old new → (way : Way) × IsAnsweredBy costs steady old new request moment asked way (fixed_for (status_of i) request moment)
instead_answers bytes costs steady request moment asked instead.Fault old new is = (faulty, is)
instead_answers bytes costs steady request moment asked instead.Full old new is = (full, is)
instead_answers bytes costs steady request moment asked instead.Memory old new (inl is) = (unaccepted, is)
instead_answers bytes costs steady request moment asked instead.Memory old new (inr is) = (unsaid, is)

-- a text that is sent is the fixed text of this status and method
pub fixed_as : (status s moment : ℕ) (close no_body b : Bool) (sent text : List ℕ) → s ≡ status → b ≡ no_body → text ≡ fixed_text s moment close b → sent ≡ text
    → sent ≡ fixed_text status moment close no_body
fixed_as status s moment close no_body b sent text same method is whole =
    whole ∙ is ∙ ap (λ (n : ℕ). fixed_text n moment close b) same ∙ ap (λ (t : Bool). fixed_text status moment close t) method

last_of_turn : (due : Outcome) (rest last : List ℕ) (moment : ℕ) → IsLast due rest moment last → IsOfTurn due
last_of_turn outcome.Ended rest last moment is = is
last_of_turn outcome.Closed rest last moment is = is
last_of_turn (outcome.Refused e) rest last moment is = tt
last_of_turn outcome.CutShort rest last moment is = is
last_of_turn outcome.ReadFault rest last moment is = is
last_of_turn outcome.WriteFault rest last moment is = tt
last_of_turn outcome.Spent rest last moment is = is
last_of_turn outcome.Memory rest last moment is = tt

-- a session is ended by a text in a way of a turn
pub closes_of_turn : (told now : Option (List ℕ)) (rest : List ℕ) (moment : ℕ) (result : Outcome) → Closes told now rest moment result → IsOfTurn result
closes_of_turn told now rest moment result is =
    elim is.written [
      | inl all ↦ subst IsOfTurn (sym all.0) (last_of_turn is.due rest is.last moment is.is_last)
      | inr cut ↦ subst IsOfTurn (sym cut.0) tt
    ]

-- such a way tells no fault of the source, nor that it ended
pub turn_reads : (result : Outcome) → IsOfTurn result → read_result result ≡ Ok tt
turn_reads outcome.Ended is = absurd is
turn_reads outcome.Closed is = absurd is
turn_reads (outcome.Refused e) is = refl
turn_reads outcome.CutShort is = absurd is
turn_reads outcome.ReadFault is = absurd is
turn_reads outcome.WriteFault is = refl
turn_reads outcome.Spent is = absurd is
turn_reads outcome.Memory is = refl

pub turn_not_ended : (result : Outcome) → IsOfTurn result → (result ≡ outcome.Ended) ⊎ (result ≡ outcome.CutShort) → ⊥
turn_not_ended result of (inl ended) = subst IsOfTurn ended of
turn_not_ended result of (inr cut) = subst IsOfTurn cut of
