use Rattle.std.proofs.Common.{◌≡◌, ◌+◌, ◌-◌, ◌++◌, ℕ, List, Ok, take, drop, length, sym, ap, subst, ◌∙◌, arith, refl}
use Rattle.std.proofs.Math.Seq.{take-add}
use Rattle.std.proofs.lemmas.List.{take_rest, length-drop}
use Rattle.std.specs.Prelude.{⊤}
use Rattle.sysapi_base.specs.Outside.{Grows}
use Rattle.sysapi_base.proofs.OutsideLemmas.{Grows-then, Passes-then, Passes-as}
use Rattle.sysapi_serve.proofs.send.send.Goals as goal

pub loop-at-preserved : goal.loop-at-preserved
loop-at-preserved g c =
    let text = c.args.text.now in
    let at = c.loop-at.at in
    let n = c.in_ok-at.field-0 in
    let i = c.loop-at.invariant in
    let taken = g.K.Sink.taken in
    let same : take at text ++ take n (take (length text - at) (drop at text)) ≡ take (at + n) text = ap (λ (t : List ℕ). take at text ++ take n t) (take_rest text at) ∙ sym (take-add at n text) in
    record {
      within = omega (arith, c.in_ok-at.ensures.bound, ap length (take_rest text at), length-drop at text);
      taken = subst (λ (t : List ℕ). Grows (taken c.args.sink.now) (taken c.write.new.self) t) same
          (Grows-then (taken c.args.sink.now) (taken c.loop-at.sink) (taken c.write.new.self) (take at text) (take n (take (length text - at) (drop at text))) i.taken c.in_ok-at.ensures.bytes);
      passed = Passes-as g.K.Sink.faults g.K.Sink.IsSteady {E = _} {U = ⊤} {F = ⊤} c.args.sink.now c.write.new.self c.write.result (Ok tt) (λ _. refl) (λ e. cc)
          (Passes-then g.K.Sink.faults g.K.Sink.IsSteady {T = ⊤} {E = ⊤} c.args.sink.now c.loop-at.sink c.write.new.self (Ok tt) c.write.result i.passed c.write.ensures.passes);
    }
