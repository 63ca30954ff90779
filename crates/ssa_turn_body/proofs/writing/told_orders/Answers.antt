use Rattle.ssa_turn_body.specs.Records.{orders_in}
use Rattle.ssa_turn_body.specs.ToldValues.{told_view}
use Rattle.ssa_model.specs.definitions.RecordText.{order_json}
use Rattle.ssa_turn_body.proofs.ToldSteps.{told-on}
use Rattle.ssa_turn_body.proofs.writing.told_orders.Goals as goal

pub loop-step-preserved : goal.loop-step-preserved
loop-step-preserved c =
    told-on orders_in order_json c.args.steps.now c.loop-step.step-index c.step-item.result (told_view c.loop-step.told.items)
    (told_view c.push_orders.new.told.items) c.loop-step-test.true
    c.step-item.is c.loop-step.invariant c.in_ok-push_orders.ensures
