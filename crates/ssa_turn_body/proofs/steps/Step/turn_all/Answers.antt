use Rattle.std.proofs.Common.{◌<◌, length, arith}
use Rattle.ssa_turn_body.proofs.Returning.{turning-step}
use Rattle.ssa_turn_body.proofs.steps.Step.turn_all.Goals as goal

pub loop-i-preserved : goal.loop-i-preserved
loop-i-preserved c =
    let v = c.loop-i.steps in
    let within : c.loop-i.i < length v.items = omega (arith, c.loop-i-test.true, c.len-i-end.ensures, c.args.steps.now.ok.0, c.loop-i.invariant.long) in
    turning-step c.args.steps.now.items c.args.node.now c.loop-i.i v.items c.loop-i.node c.index_mut-step.result.now within c.index_mut-step.ensures.value
    c.loop-i.invariant c.turn.new.self c.turn.new.node c.turn.ensures
