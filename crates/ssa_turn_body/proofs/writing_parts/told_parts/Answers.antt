use Rattle.ssa_turn_body.specs.ToldValues.{coming_json, comes_in, told_view}
use Rattle.ssa_turn_body.proofs.ToldSteps.{told-on, writable-at}
use Rattle.ssa_turn_body.proofs.writing_parts.told_parts.Goals as goal

pub loop-step-preserved : goal.loop-step-preserved
loop-step-preserved c =
    told-on comes_in coming_json c.args.steps.now c.loop-step.step-index c.step-item.result (told_view c.loop-step.told.items)
    (told_view c.push_parts.new.told.items) c.loop-step-test.true
    c.step-item.is c.loop-step.invariant c.in_ok-push_parts.ensures

pub push_parts-requires : goal.push_parts-requires
push_parts-requires c = writable-at c.args.steps.now c.loop-step.step-index c.step-item.result c.loop-step-test.true c.step-item.is c.requires
