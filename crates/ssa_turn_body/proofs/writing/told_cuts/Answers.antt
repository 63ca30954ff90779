use Rattle.ssa_turn_body.specs.Records.{cuts_in}
use Rattle.ssa_turn_body.specs.ToldValues.{path_alone, told_view}
use Rattle.ssa_turn_body.proofs.ToldSteps.{told-on}
use Rattle.ssa_turn_body.proofs.writing.told_cuts.Goals as goal

pub loop-step-preserved : goal.loop-step-preserved
loop-step-preserved c =
    told-on cuts_in path_alone c.args.steps.now c.loop-step.step-index c.step-item.result (told_view c.loop-step.told.items)
    (told_view c.push_cuts.new.told.items) c.loop-step-test.true
    c.step-item.is c.loop-step.invariant c.in_ok-push_cuts.ensures
