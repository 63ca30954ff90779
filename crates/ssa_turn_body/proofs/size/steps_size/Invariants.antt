use Rattle.std.proofs.Common.{◌≡◌, ◌-◌, ◌^◌, min, take}
use Rattle.ssa_turn_body.specs.Sizes.{steps_size}
use Rattle.ssa_turn_body.proofs.size.steps_size.Given as goal

abbrev pub invariant-loop-step : goal.invariant-loop-step
invariant-loop-step l = l.size ≡ min (steps_size (take l.step-index l.steps)) (2 ^ 64 - 1)
