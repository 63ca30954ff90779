use Rattle.std.proofs.Common.{◌≡◌, length, take, arith, ap, ◌∙◌}
use Rattle.ssa_turn_body.proofs.Ordering.{range-at, reorder-step, length-reordered}
use Rattle.ssa_turn_body.proofs.reorder.reorder.Goals as goal

pub swap-requires-clause-i_in_bounds : goal.swap-requires-clause-i_in_bounds
swap-requires-clause-i_in_bounds g c =
    let v = c.loop-i.items in
    let long : length v.items ≡ length c.args.items.now.items = ap length c.loop-i.invariant
    ∙ length-reordered c.args.items.now.items (take c.loop-i.i c.args.swaps.now) in
    let at = range-at (length c.args.items.now.items) c.args.swaps.now c.loop-i.i (0, 0) c.loop-i-test.true c.requires in
    omega (arith, at.0, long, v.ok.0)

pub swap-requires-clause-j_in_bounds : goal.swap-requires-clause-j_in_bounds
swap-requires-clause-j_in_bounds g c =
    let v = c.loop-i.items in
    let long : length v.items ≡ length c.args.items.now.items = ap length c.loop-i.invariant
    ∙ length-reordered c.args.items.now.items (take c.loop-i.i c.args.swaps.now) in
    let at = range-at (length c.args.items.now.items) c.args.swaps.now c.loop-i.i (0, 0) c.loop-i-test.true c.requires in
    omega (arith, at.1, long, v.ok.0)

pub loop-i-preserved : goal.loop-i-preserved
loop-i-preserved g c = reorder-step c.args.items.now.items c.loop-i.items.items c.swap.new.self.items c.args.swaps.now c.loop-i.i (
  0,
  0,
) c.loop-i-test.true c.loop-i.invariant c.swap.ensures.items
