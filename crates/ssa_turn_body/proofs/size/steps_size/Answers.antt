use Rattle.std.proofs.Common.{◌-◌, ◌^◌, min, ap, ◌∙◌, arith}
use Rattle.std.proofs.lemmas.List.{take_all}
use Rattle.ssa_turn_body.specs.Sizes.{change_size, steps_size}
use Rattle.ssa_turn_body.specs.declared.steps.Step.{Step}
use Rattle.ssa_turn_body.proofs.Sizes.{sum-more}
use Rattle.ssa_turn_body.proofs.size.steps_size.Goals as goal

pub loop-step-preserved : goal.loop-step-preserved
loop-step-preserved c =
    sum-more (λ (s : Step). change_size s.change) c.args.steps.now c.loop-step.step-index c.step-item.result c.loop-step.size c.change_size.result
    c.saturating_add-size.result (omega arith) c.step-item.is c.loop-step.invariant c.change_size.ensures c.saturating_add-size.ensures

pub returns : goal.returns
returns c =
    c.loop-step.invariant
    ∙ ap (λ ss. min (steps_size ss) (2 ^ 64 - 1)) (take_all c.loop-step.step-index c.args.steps.now c.loop-step-test.false)
