use Rattle.std.proofs.Common.{length, arith, ap, sym, ◌∙◌}
use Rattle.ssa_turn_body.proofs.Missing.{counted-missing, present-place}
use Rattle.ssa_turn_body.proofs.found.count_missing.Goals as goal

pub loop-i-preserved-then-is_some : goal.loop-i-preserved-then-is_some
loop-i-preserved-then-is_some c =
    let fs = c.args.found.now in
    let i = c.loop-i.i in
    let some = sym c.is_some.ensures ∙ c.if-is_some.true in
    record {
      within = omega (arith, c.loop-i.invariant.within);
      counted = c.loop-i.invariant.counted ∙ ap length (sym (present-place fs i c.loop-i-test.true some));
    }

pub loop-i-preserved : goal.loop-i-preserved
loop-i-preserved c =
    let fs = c.args.found.now in
    let i = c.loop-i.i in
    let none = sym c.is_some.ensures ∙ c.if-is_some.false in
    let more = counted-missing fs i c.loop-i-test.true none in
    record {
      within = omega (arith, c.loop-i.invariant.within);
      counted = omega (arith, c.loop-i.invariant.counted, more);
    }
