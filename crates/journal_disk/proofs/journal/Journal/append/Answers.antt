use Rattle.std.proofs.Common.{◌≡◌, ◌+◌, ◌-◌, ◌≤◌, ℕ, false, List, [], ◌∷◌, ◌++◌, length, sym, ap, ◌∙◌, subst, rules, Some}
use Rattle.std.proofs.lemmas.Result.{err_from_is_err_and}
use Rattle.journal_disk.specs.Format.{Gated, Begins, base, body, IsEither}
use Rattle.journal_disk.proofs.Moments.{at_end, weaker, run_on}
use Rattle.journal_disk.proofs.Kept as lem
use Rattle.journal_disk.proofs.journal.Journal.append.Goals as goal

-- the text failed
pub invariant_of-self : goal.invariant_of-self
invariant_of-self g c =
    let is : c.self.inside.has_doubt ≡ false = lem.doubt_of _ c.args.self.now c.self.view_is c.requires.no_doubt in
    let settled = c.self.invariant.settled is in
    let r = c.args.bytes.now in
    let front = base c.self.inside.repository c.self.invariant.records in
    let text : c.deref.result.now ≡ body r ++ 0 ∷ [] = c.deref.ensures.value ∙ c.fill.ensures.items in
    let fits : c.self.inside.used + (length r + 5) ≤ c.self.inside.room = lem.room_of _ c.args.self.now c.self.view_is (length r + 5) c.requires.room in
    let low = lem.low c.self.invariant (length r + 5) fits in
    let first = c.put_text.ensures.any_moment (front ++ settled.0 ∷ []) (lem.behind_gate c.self.invariant settled.0) settled.2 in
    lem.still_settled c.self.invariant (g.D.Disk.images c.put_text.new.disk) is
    (at_end g.D.Disk.moment g.D.Disk.images_since g.D.Disk.images g.met.D.Disk.counts_now c.self.inside.disk c.put_text.new.disk (Begins (front ++ settled.0 ∷ [])) first)

pub returns-in_err-put_text-clause-any_moment : goal.returns-in_err-put_text-clause-any_moment
returns-in_err-put_text-clause-any_moment g c =
    let is : c.self.inside.has_doubt ≡ false = lem.doubt_of _ c.args.self.now c.self.view_is c.requires.no_doubt in
    let settled = c.self.invariant.settled is in
    let r = c.args.bytes.now in
    let front = base c.self.inside.repository c.self.invariant.records in
    let text : c.deref.result.now ≡ body r ++ 0 ∷ [] = c.deref.ensures.value ∙ c.fill.ensures.items in
    let fits : c.self.inside.used + (length r + 5) ≤ c.self.inside.room = lem.room_of _ c.args.self.now c.self.view_is (length r + 5) c.requires.room in
    let low = lem.low c.self.invariant (length r + 5) fits in
    let first = c.put_text.ensures.any_moment (front ++ settled.0 ∷ []) (lem.behind_gate c.self.invariant settled.0) settled.2 in
    rw (← c.self.view_is) (λ kept told. weaker g.D.Disk.moment g.D.Disk.images_since c.self.inside.disk c.put_text.new.disk (Begins (front ++ settled.0 ∷ [])) _ (lem.begun_either c.self.invariant (g.D.Disk.reading c.self.inside.disk) (g.met.D.Disk.reads_as_image c.self.inside.disk) r c.requires.size low kept told is) first)

-- the gate failed
pub invariant_of-self-then-is_err : goal.invariant_of-self-then-is_err
invariant_of-self-then-is_err g c =
    let is : c.self.inside.has_doubt ≡ false = lem.doubt_of _ c.args.self.now c.self.view_is c.requires.no_doubt in
    let settled = c.self.invariant.settled is in
    let r = c.args.bytes.now in
    let front = base c.self.inside.repository c.self.invariant.records in
    let text : c.deref.result.now ≡ body r ++ 0 ∷ [] = c.deref.ensures.value ∙ c.fill.ensures.items in
    let fits : c.self.inside.used + (length r + 5) ≤ c.self.inside.room = lem.room_of _ c.args.self.now c.self.view_is (length r + 5) c.requires.room in
    let low = lem.low c.self.invariant (length r + 5) fits in
    let first = c.put_text.ensures.any_moment (front ++ settled.0 ∷ []) (lem.behind_gate c.self.invariant settled.0) settled.2 in
    let staged : (f : List ℕ) → g.D.Disk.images c.put_text.new.disk f → Gated front (body r ++ 0 ∷ []) f =
    λ f now. lem.gated_from front (body r ++ 0 ∷ []) settled.0 f
    (subst (λ (t : List ℕ). Begins ((front ++ settled.0 ∷ []) ++ t) f) text (c.in_ok-put_text.ensures.ok (front ++ settled.0 ∷ []) (lem.behind_gate c.self.invariant settled.0) settled.2 f now)) in
    let second = c.set_gate.ensures.any_moment front (body r ++ 0 ∷ []) (lem.last c.self.invariant) staged in
    lem.now_staged c.self.invariant (g.D.Disk.images c.set_gate.new.disk) r c.requires.size low
    (at_end g.D.Disk.moment g.D.Disk.images_since g.D.Disk.images g.met.D.Disk.counts_now c.put_text.new.disk c.set_gate.new.disk (Gated front (body r ++ 0 ∷ [])) second)

pub returns-then-is_err-clause-whole : goal.returns-then-is_err-clause-whole
returns-then-is_err-clause-whole g c =
    let is : c.self.inside.has_doubt ≡ false = lem.doubt_of _ c.args.self.now c.self.view_is c.requires.no_doubt in
    let settled = c.self.invariant.settled is in
    let r = c.args.bytes.now in
    let front = base c.self.inside.repository c.self.invariant.records in
    let text : c.deref.result.now ≡ body r ++ 0 ∷ [] = c.deref.ensures.value ∙ c.fill.ensures.items in
    let fits : c.self.inside.used + (length r + 5) ≤ c.self.inside.room = lem.room_of _ c.args.self.now c.self.view_is (length r + 5) c.requires.room in
    let low = lem.low c.self.invariant (length r + 5) fits in
    let first = c.put_text.ensures.any_moment (front ++ settled.0 ∷ []) (lem.behind_gate c.self.invariant settled.0) settled.2 in
    let staged : (f : List ℕ) → g.D.Disk.images c.put_text.new.disk f → Gated front (body r ++ 0 ∷ []) f =
    λ f now. lem.gated_from front (body r ++ 0 ∷ []) settled.0 f
    (subst (λ (t : List ℕ). Begins ((front ++ settled.0 ∷ []) ++ t) f) text (c.in_ok-put_text.ensures.ok (front ++ settled.0 ∷ []) (lem.behind_gate c.self.invariant settled.0) settled.2 f now)) in
    let second = c.set_gate.ensures.any_moment front (body r ++ 0 ∷ []) (lem.last c.self.invariant) staged in
    λ _. (lem.whole_there c.self.invariant r c.requires.size (at_end g.D.Disk.moment g.D.Disk.images_since g.D.Disk.images g.met.D.Disk.counts_now c.put_text.new.disk c.set_gate.new.disk (Gated front (body r ++ 0 ∷ [])) second))

pub returns-then-is_err-clause-any_moment : goal.returns-then-is_err-clause-any_moment
returns-then-is_err-clause-any_moment g c =
    let is : c.self.inside.has_doubt ≡ false = lem.doubt_of _ c.args.self.now c.self.view_is c.requires.no_doubt in
    let settled = c.self.invariant.settled is in
    let r = c.args.bytes.now in
    let front = base c.self.inside.repository c.self.invariant.records in
    let text : c.deref.result.now ≡ body r ++ 0 ∷ [] = c.deref.ensures.value ∙ c.fill.ensures.items in
    let fits : c.self.inside.used + (length r + 5) ≤ c.self.inside.room = lem.room_of _ c.args.self.now c.self.view_is (length r + 5) c.requires.room in
    let low = lem.low c.self.invariant (length r + 5) fits in
    let first = c.put_text.ensures.any_moment (front ++ settled.0 ∷ []) (lem.behind_gate c.self.invariant settled.0) settled.2 in
    let staged : (f : List ℕ) → g.D.Disk.images c.put_text.new.disk f → Gated front (body r ++ 0 ∷ []) f =
    λ f now. lem.gated_from front (body r ++ 0 ∷ []) settled.0 f
    (subst (λ (t : List ℕ). Begins ((front ++ settled.0 ∷ []) ++ t) f) text (c.in_ok-put_text.ensures.ok (front ++ settled.0 ∷ []) (lem.behind_gate c.self.invariant settled.0) settled.2 f now)) in
    let second = c.set_gate.ensures.any_moment front (body r ++ 0 ∷ []) (lem.last c.self.invariant) staged in
    rw (← c.self.view_is) (λ kept told.
    run_on g.D.Disk.moment g.D.Disk.images_since c.self.inside.disk c.put_text.new.disk c.set_gate.new.disk (IsEither c.self.inside.repository kept r)
    (weaker g.D.Disk.moment g.D.Disk.images_since c.self.inside.disk c.put_text.new.disk (Begins (front ++ settled.0 ∷ [])) _ (lem.begun_either c.self.invariant (g.D.Disk.reading c.self.inside.disk) (g.met.D.Disk.reads_as_image c.self.inside.disk) r c.requires.size low kept told is) first)
    (weaker g.D.Disk.moment g.D.Disk.images_since c.put_text.new.disk c.set_gate.new.disk (Gated front (body r ++ 0 ∷ [])) _ (lem.gated_either c.self.invariant (g.D.Disk.reading c.self.inside.disk) (g.met.D.Disk.reads_as_image c.self.inside.disk) r c.requires.size low kept told) second))

-- all is done
pub returns-clause-used : goal.returns-clause-used
returns-clause-used g c =
    let text : c.deref.result.now ≡ body c.args.bytes.now ++ 0 ∷ [] = c.deref.ensures.value ∙ c.fill.ensures.items in
    let n = lem.text_len c.args.bytes.now c.deref.result.now c.len.result _ c.len.ensures c.deref.ensures.len text in
    ap (λ (k : ℕ). c.self.inside.used + k) n ∙ lem.used_of _ c.args.self.now c.self.view_is (length c.args.bytes.now + 5)

pub invariant_of-self-2 : goal.invariant_of-self-2
invariant_of-self-2 g c =
    let is : c.self.inside.has_doubt ≡ false = lem.doubt_of _ c.args.self.now c.self.view_is c.requires.no_doubt in
    let settled = c.self.invariant.settled is in
    let r = c.args.bytes.now in
    let front = base c.self.inside.repository c.self.invariant.records in
    let text : c.deref.result.now ≡ body r ++ 0 ∷ [] = c.deref.ensures.value ∙ c.fill.ensures.items in
    let fits : c.self.inside.used + (length r + 5) ≤ c.self.inside.room = lem.room_of _ c.args.self.now c.self.view_is (length r + 5) c.requires.room in
    let low = lem.low c.self.invariant (length r + 5) fits in
    let first = c.put_text.ensures.any_moment (front ++ settled.0 ∷ []) (lem.behind_gate c.self.invariant settled.0) settled.2 in
    let staged : (f : List ℕ) → g.D.Disk.images c.put_text.new.disk f → Gated front (body r ++ 0 ∷ []) f =
    λ f now. lem.gated_from front (body r ++ 0 ∷ []) settled.0 f
    (subst (λ (t : List ℕ). Begins ((front ++ settled.0 ∷ []) ++ t) f) text (c.in_ok-put_text.ensures.ok (front ++ settled.0 ∷ []) (lem.behind_gate c.self.invariant settled.0) settled.2 f now)) in
    let second = c.set_gate.ensures.any_moment front (body r ++ 0 ∷ []) (lem.last c.self.invariant) staged in
    let open_now = lem.ok_of c.set_gate.result (sym c.is_err.ensures.value ∙ c.if-is_err.false) c.set_gate.ensures.ok front (body r ++ 0 ∷ []) (lem.last c.self.invariant) staged in
    let n = lem.text_len r c.deref.result.now c.len.result _ c.len.ensures c.deref.ensures.len text in
    let more : c.push.new.self.items ≡ c.self.inside.places.items ++ (c.self.inside.used - 1) ∷ [] = search rules in
    lem.now_more c.self.invariant (g.D.Disk.images c.set_gate.new.disk) r _ _ c.requires.size low (ap (λ (k : ℕ). c.self.inside.used + k) n) more open_now _ is

pub returns-clause-ok : goal.returns-clause-ok
returns-clause-ok g c =
    let is : c.self.inside.has_doubt ≡ false = lem.doubt_of _ c.args.self.now c.self.view_is c.requires.no_doubt in
    let settled = c.self.invariant.settled is in
    let r = c.args.bytes.now in
    let front = base c.self.inside.repository c.self.invariant.records in
    let text : c.deref.result.now ≡ body r ++ 0 ∷ [] = c.deref.ensures.value ∙ c.fill.ensures.items in
    let fits : c.self.inside.used + (length r + 5) ≤ c.self.inside.room = lem.room_of _ c.args.self.now c.self.view_is (length r + 5) c.requires.room in
    let low = lem.low c.self.invariant (length r + 5) fits in
    let first = c.put_text.ensures.any_moment (front ++ settled.0 ∷ []) (lem.behind_gate c.self.invariant settled.0) settled.2 in
    let staged : (f : List ℕ) → g.D.Disk.images c.put_text.new.disk f → Gated front (body r ++ 0 ∷ []) f =
    λ f now. lem.gated_from front (body r ++ 0 ∷ []) settled.0 f
    (subst (λ (t : List ℕ). Begins ((front ++ settled.0 ∷ []) ++ t) f) text (c.in_ok-put_text.ensures.ok (front ++ settled.0 ∷ []) (lem.behind_gate c.self.invariant settled.0) settled.2 f now)) in
    let second = c.set_gate.ensures.any_moment front (body r ++ 0 ∷ []) (lem.last c.self.invariant) staged in
    let open_now = lem.ok_of c.set_gate.result (sym c.is_err.ensures.value ∙ c.if-is_err.false) c.set_gate.ensures.ok front (body r ++ 0 ∷ []) (lem.last c.self.invariant) staged in
    rw (← c.self.view_is) (λ kept told f now. lem.open_has c.self.invariant (g.D.Disk.reading c.self.inside.disk) (g.met.D.Disk.reads_as_image c.self.inside.disk) r c.requires.size low kept told f (open_now f now))

pub returns-clause-any_moment : goal.returns-clause-any_moment
returns-clause-any_moment g c =
    let is : c.self.inside.has_doubt ≡ false = lem.doubt_of _ c.args.self.now c.self.view_is c.requires.no_doubt in
    let settled = c.self.invariant.settled is in
    let r = c.args.bytes.now in
    let front = base c.self.inside.repository c.self.invariant.records in
    let text : c.deref.result.now ≡ body r ++ 0 ∷ [] = c.deref.ensures.value ∙ c.fill.ensures.items in
    let fits : c.self.inside.used + (length r + 5) ≤ c.self.inside.room = lem.room_of _ c.args.self.now c.self.view_is (length r + 5) c.requires.room in
    let low = lem.low c.self.invariant (length r + 5) fits in
    let first = c.put_text.ensures.any_moment (front ++ settled.0 ∷ []) (lem.behind_gate c.self.invariant settled.0) settled.2 in
    let staged : (f : List ℕ) → g.D.Disk.images c.put_text.new.disk f → Gated front (body r ++ 0 ∷ []) f =
    λ f now. lem.gated_from front (body r ++ 0 ∷ []) settled.0 f
    (subst (λ (t : List ℕ). Begins ((front ++ settled.0 ∷ []) ++ t) f) text (c.in_ok-put_text.ensures.ok (front ++ settled.0 ∷ []) (lem.behind_gate c.self.invariant settled.0) settled.2 f now)) in
    let second = c.set_gate.ensures.any_moment front (body r ++ 0 ∷ []) (lem.last c.self.invariant) staged in
    rw (← c.self.view_is) (λ kept told.
    run_on g.D.Disk.moment g.D.Disk.images_since c.self.inside.disk c.put_text.new.disk c.set_gate.new.disk (IsEither c.self.inside.repository kept r)
    (weaker g.D.Disk.moment g.D.Disk.images_since c.self.inside.disk c.put_text.new.disk (Begins (front ++ settled.0 ∷ [])) _ (lem.begun_either c.self.invariant (g.D.Disk.reading c.self.inside.disk) (g.met.D.Disk.reads_as_image c.self.inside.disk) r c.requires.size low kept told is) first)
    (weaker g.D.Disk.moment g.D.Disk.images_since c.put_text.new.disk c.set_gate.new.disk (Gated front (body r ++ 0 ∷ [])) _ (lem.gated_either c.self.invariant (g.D.Disk.reading c.self.inside.disk) (g.met.D.Disk.reads_as_image c.self.inside.disk) r c.requires.size low kept told) second))

pub returns-in_err-put_text-clause-records : goal.returns-in_err-put_text-clause-records
returns-in_err-put_text-clause-records g c =
    let is : c.self.inside.has_doubt ≡ false = lem.doubt_of _ c.args.self.now c.self.view_is c.requires.no_doubt in
    let settled = c.self.invariant.settled is in
    let r = c.args.bytes.now in
    let front = base c.self.inside.repository c.self.invariant.records in
    let text : c.deref.result.now ≡ body r ++ 0 ∷ [] = c.deref.ensures.value ∙ c.fill.ensures.items in
    let fits : c.self.inside.used + (length r + 5) ≤ c.self.inside.room = lem.room_of _ c.args.self.now c.self.view_is (length r + 5) c.requires.room in
    let low = lem.low c.self.invariant (length r + 5) fits in
    let first = c.put_text.ensures.any_moment (front ++ settled.0 ∷ []) (lem.behind_gate c.self.invariant settled.0) settled.2 in
    let begun = at_end g.D.Disk.moment g.D.Disk.images_since g.D.Disk.images g.met.D.Disk.counts_now c.self.inside.disk c.put_text.new.disk (Begins (front ++ settled.0 ∷ [])) first in
    let failed = err_from_is_err_and c.from_residual.result c.from_residual.ensures.1 in
    rw (← c.self.view_is, failed.1) (lem.takes_none c.self.invariant (g.D.Disk.reading c.self.inside.disk) (g.met.D.Disk.reads_as_image c.self.inside.disk) (g.D.Disk.images c.put_text.new.disk) (g.D.Disk.reading c.put_text.new.disk) (g.met.D.Disk.reads_as_image c.put_text.new.disk) c.put_text.ensures.tells (λ f now. lem.begins_less front (settled.0 ∷ []) f (begun f now)))

pub returns-then-is_err-clause-records : goal.returns-then-is_err-clause-records
returns-then-is_err-clause-records g c =
    let is : c.self.inside.has_doubt ≡ false = lem.doubt_of _ c.args.self.now c.self.view_is c.requires.no_doubt in
    let settled = c.self.invariant.settled is in
    let r = c.args.bytes.now in
    let front = base c.self.inside.repository c.self.invariant.records in
    let text : c.deref.result.now ≡ body r ++ 0 ∷ [] = c.deref.ensures.value ∙ c.fill.ensures.items in
    let fits : c.self.inside.used + (length r + 5) ≤ c.self.inside.room = lem.room_of _ c.args.self.now c.self.view_is (length r + 5) c.requires.room in
    let low = lem.low c.self.invariant (length r + 5) fits in
    let first = c.put_text.ensures.any_moment (front ++ settled.0 ∷ []) (lem.behind_gate c.self.invariant settled.0) settled.2 in
    let staged : (f : List ℕ) → g.D.Disk.images c.put_text.new.disk f → Gated front (body r ++ 0 ∷ []) f =
    λ f now. lem.gated_from front (body r ++ 0 ∷ []) settled.0 f
    (subst (λ (t : List ℕ). Begins ((front ++ settled.0 ∷ []) ++ t) f) text (c.in_ok-put_text.ensures.ok (front ++ settled.0 ∷ []) (lem.behind_gate c.self.invariant settled.0) settled.2 f now)) in
    let second = c.set_gate.ensures.any_moment front (body r ++ 0 ∷ []) (lem.last c.self.invariant) staged in
    let gated = at_end g.D.Disk.moment g.D.Disk.images_since g.D.Disk.images g.met.D.Disk.counts_now c.put_text.new.disk c.set_gate.new.disk (Gated front (body r ++ 0 ∷ [])) second in
    let tells = λ (b : List ℕ) (now : g.D.Disk.reading c.set_gate.new.disk ≡ Some b). (let mid = c.set_gate.ensures.tells b now in c.put_text.ensures.tells mid.0 mid.1) in
    rw (← c.self.view_is) (lem.takes_none c.self.invariant (g.D.Disk.reading c.self.inside.disk) (g.met.D.Disk.reads_as_image c.self.inside.disk) (g.D.Disk.images c.set_gate.new.disk) (g.D.Disk.reading c.set_gate.new.disk) (g.met.D.Disk.reads_as_image c.set_gate.new.disk) tells (λ f now. lem.gated_base front (body r ++ 0 ∷ []) f (gated f now)))

pub returns-then-is_err-clause-doubted : goal.returns-then-is_err-clause-doubted
returns-then-is_err-clause-doubted g c =
    let is : c.self.inside.has_doubt ≡ false = lem.doubt_of _ c.args.self.now c.self.view_is c.requires.no_doubt in
    let settled = c.self.invariant.settled is in
    let r = c.args.bytes.now in
    let front = base c.self.inside.repository c.self.invariant.records in
    let text : c.deref.result.now ≡ body r ++ 0 ∷ [] = c.deref.ensures.value ∙ c.fill.ensures.items in
    let fits : c.self.inside.used + (length r + 5) ≤ c.self.inside.room = lem.room_of _ c.args.self.now c.self.view_is (length r + 5) c.requires.room in
    let low = lem.low c.self.invariant (length r + 5) fits in
    let first = c.put_text.ensures.any_moment (front ++ settled.0 ∷ []) (lem.behind_gate c.self.invariant settled.0) settled.2 in
    let staged : (f : List ℕ) → g.D.Disk.images c.put_text.new.disk f → Gated front (body r ++ 0 ∷ []) f =
    λ f now. lem.gated_from front (body r ++ 0 ∷ []) settled.0 f
    (subst (λ (t : List ℕ). Begins ((front ++ settled.0 ∷ []) ++ t) f) text (c.in_ok-put_text.ensures.ok (front ++ settled.0 ∷ []) (lem.behind_gate c.self.invariant settled.0) settled.2 f now)) in
    let second = c.set_gate.ensures.any_moment front (body r ++ 0 ∷ []) (lem.last c.self.invariant) staged in
    let gated = at_end g.D.Disk.moment g.D.Disk.images_since g.D.Disk.images g.met.D.Disk.counts_now c.put_text.new.disk c.set_gate.new.disk (Gated front (body r ++ 0 ∷ [])) second in
    let tells = λ (b : List ℕ) (now : g.D.Disk.reading c.set_gate.new.disk ≡ Some b). (let mid = c.set_gate.ensures.tells b now in c.put_text.ensures.tells mid.0 mid.1) in
    lem.doubt_there c.self.invariant (g.D.Disk.reading c.self.inside.disk) (g.met.D.Disk.reads_as_image c.self.inside.disk) (g.D.Disk.images c.set_gate.new.disk) (g.D.Disk.reading c.set_gate.new.disk) (g.met.D.Disk.reads_as_image c.set_gate.new.disk) tells r c.requires.size gated

pub returns-clause-records : goal.returns-clause-records
returns-clause-records g c =
    let is : c.self.inside.has_doubt ≡ false = lem.doubt_of _ c.args.self.now c.self.view_is c.requires.no_doubt in
    let settled = c.self.invariant.settled is in
    let r = c.args.bytes.now in
    let front = base c.self.inside.repository c.self.invariant.records in
    let text : c.deref.result.now ≡ body r ++ 0 ∷ [] = c.deref.ensures.value ∙ c.fill.ensures.items in
    let fits : c.self.inside.used + (length r + 5) ≤ c.self.inside.room = lem.room_of _ c.args.self.now c.self.view_is (length r + 5) c.requires.room in
    let low = lem.low c.self.invariant (length r + 5) fits in
    let first = c.put_text.ensures.any_moment (front ++ settled.0 ∷ []) (lem.behind_gate c.self.invariant settled.0) settled.2 in
    let staged : (f : List ℕ) → g.D.Disk.images c.put_text.new.disk f → Gated front (body r ++ 0 ∷ []) f =
    λ f now. lem.gated_from front (body r ++ 0 ∷ []) settled.0 f
    (subst (λ (t : List ℕ). Begins ((front ++ settled.0 ∷ []) ++ t) f) text (c.in_ok-put_text.ensures.ok (front ++ settled.0 ∷ []) (lem.behind_gate c.self.invariant settled.0) settled.2 f now)) in
    let second = c.set_gate.ensures.any_moment front (body r ++ 0 ∷ []) (lem.last c.self.invariant) staged in
    let open_now = lem.ok_of c.set_gate.result (sym c.is_err.ensures.value ∙ c.if-is_err.false) c.set_gate.ensures.ok front (body r ++ 0 ∷ []) (lem.last c.self.invariant) staged in
    let more : c.push.new.self.items ≡ c.self.inside.places.items ++ (c.self.inside.used - 1) ∷ [] = search rules in
    let tells = λ (b : List ℕ) (now : g.D.Disk.reading c.set_gate.new.disk ≡ Some b). (let mid = c.set_gate.ensures.tells b now in c.put_text.ensures.tells mid.0 mid.1) in
    rw (← c.self.view_is) (lem.takes_one c.self.invariant (g.D.Disk.reading c.self.inside.disk) (g.met.D.Disk.reads_as_image c.self.inside.disk) (g.D.Disk.images c.set_gate.new.disk) (g.D.Disk.reading c.set_gate.new.disk) (g.met.D.Disk.reads_as_image c.set_gate.new.disk) tells r c.push.new.self.items c.requires.size low more open_now)
