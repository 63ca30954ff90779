use Rattle.std.proofs.Common.{take}
use Rattle.std.specs.List.{AllZip}
use Rattle.ssa_turn_body.specs.Copies.{StepIsCopied}
use Rattle.ssa_turn_body.proofs.steps.BodySteps.copy.Given as goal

abbrev pub invariant-loop-step : goal.invariant-loop-step
invariant-loop-step l = AllZip StepIsCopied (take l.step-index l.step-items) l.steps.items
