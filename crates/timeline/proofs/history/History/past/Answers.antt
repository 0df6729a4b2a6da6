use Rattle.std.proofs.Common.{◌+◌, ◌-◌, ◌/◌, sym, ◌∙◌, arith}
use Rattle.timeline.proofs.Saying.{past_up_to, later_from}
use Rattle.timeline.proofs.history.History.past.Goals as goal

pub loop-low-preserved-then-is_past : goal.loop-low-preserved-then-is_past
loop-low-preserved-then-is_past g c =
    let middle = c.loop-low.low + (c.loop-low.high - c.loop-low.low) / 2 in
    record {
      order = omega arith;
      within = c.loop-low.invariant.within;
      past = past_up_to c.args.n c.args.self.now middle c.len-high.ensures.rises (omega arith) (sym c.if-is_past.true ∙ c.is_past.ensures);
      later = c.loop-low.invariant.later;
    }

pub loop-low-preserved : goal.loop-low-preserved
loop-low-preserved g c =
    let middle = c.loop-low.low + (c.loop-low.high - c.loop-low.low) / 2 in
    record {
      order = omega arith;
      within = omega arith;
      past = c.loop-low.invariant.past;
      later = later_from c.args.n c.args.self.now middle c.len-high.ensures.rises (omega arith) (sym c.if-is_past.false ∙ c.is_past.ensures);
    }
