use Rattle.std.proofs.Common.{rules, arith, ◌≡◌, ◌≤◌, ◌^◌, ◌∙◌, sym, Some, List, ℕ, subst}
use Rattle.std.specs.Prelude.{⊤}
use Rattle.std.proofs.lemmas.Option.{MatchOption-at_some}
use Rattle.journal_disk.specs.Finding.{NextIs, IsNext}
use Rattle.journal_disk.proofs.Pieces.{no_piece}
use Rattle.journal_disk.proofs.Openings.{none_so_far, more_so_far}
use Rattle.journal_disk.proofs.opening.find.Goals as goal

pub records-init : goal.records-init
records-init g c = record {
  same = search rules;
  crash = search rules;
  moment = search rules;
  moments = search rules;
  later = search rules;
  steady = search rules;
  low = omega arith;
  number = search rules;
  holds = search (rules, no_piece);
  so_far = none_so_far (g.D.Disk.reading c.read_head.new.disk) c.in_ok-repository.repository c.new-places.result.items c.in_ok-repository.first c.new-places.ensures.items (λ b is. c.in_ok-repository.ensures.head b (sym c.read_head.ensures.same ∙ is));
}

pub records-preserved : goal.records-preserved
records-preserved g c =
    let k = c.records.invariant in
    let s = k.so_far in
    let short : c.in-Some.len ≤ 2 ^ 27 = MatchOption-at_some ⊤ (λ (n : ℕ × ℕ). n.0 ≤ 2 ^ 27) (c.in-Some.len, c.in-Some.next) c.in-Some.is c.in_ok-len.ensures.short in
    let next : (b : List ℕ) → g.D.Disk.reading c.next_record.new.disk ≡ Some b → IsNext c.records.place b c.in-Some.len c.in-Some.next =
    λ b now. subst (NextIs c.records.place b) c.in-Some.is (c.in_ok-len.ensures.next b (sym c.next_record.ensures.same ∙ now)) in
    record {
      same = c.next_record.ensures.same ∙ k.same;
      crash = λ f now. k.crash f (c.next_record.ensures.crash f now);
      moment = c.next_record.ensures.moment ∙ k.moment;
      moments = λ t f now. k.moments t f (c.next_record.ensures.moments t f now);
      later = omega (arith, k.later, c.next_record.ensures.later);
      steady = λ steady. let was = k.steady steady in let now = c.next_record.ensures.steady was.0 in (now.0, now.1 ∙ was.1);
      low = omega (arith, short);
      number = k.number;
      holds = c.in_ok-len.ensures.holds;
      so_far = more_so_far c.in_ok-repository.repository s.0 c.records.place c.in-Some.len c.in-Some.next s.3 (g.D.Disk.reading c.next_record.new.disk) c.records.places.items c.push.new.self.items c.records.gate s.1 s.2 (λ b now. s.4 b (sym c.next_record.ensures.same ∙ now)) c.records-test.true (omega arith) short next (search rules);
    }
