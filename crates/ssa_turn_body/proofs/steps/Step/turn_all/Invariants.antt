use Rattle.ssa_turn_body.proofs.Returning.{IsTurning}
use Rattle.ssa_turn_body.proofs.steps.Step.turn_all.Given as goal

abbrev pub invariant-loop-i : goal.invariant-loop-i
invariant-loop-i l = IsTurning l.fn.steps.items l.fn.node l.i l.steps.items l.node
