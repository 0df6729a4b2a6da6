use Rattle.std.proofs.Common.{rules, arith, ◌∙◌}
use Rattle.journal_disk.proofs.Fills.{fills_within, fills_more}
use Rattle.journal_disk.proofs.reading.read_all.Goals as goal

pub loop-filled-preserved : goal.loop-filled-preserved
loop-filled-preserved g c =
    let k = c.loop-filled.invariant in
    record {
      within = fills_within c.loop-filled.filled c.in_ok-n.n c.args.at c.loop-filled.into c.read.new.into c.loop-filled.into k.within c.in_ok-n.ensures.bound;
      same = search rules;
      crash = search rules;
      moment = c.read.ensures.stays.same_moment ∙ k.moment;
      moments = λ t f now. k.moments t f (c.read.ensures.stays.nothing_since t f now);
      bytes = λ b is.
          let so_far = k.bytes b is in
          let more = c.in_ok-n.ensures.bytes b (k.same ∙ is) in (
            fills_more c.loop-filled.filled c.in_ok-n.n c.args.at c.loop-filled.into c.read.new.into b k.within c.in_ok-n.ensures.bound so_far.0 more.same,
            omega (arith, so_far.1, more.within),
          );
      fits = λ i. omega (arith, c.type_inv.into i);
      later = omega (arith, k.later, c.read.ensures.passes.later);
      steady = λ steady. let was = k.steady steady in let now = c.read.ensures.passes.steady was.0 in (now.1, now.2 ∙ was.1);
    }
