use Rattle.std.proofs.Common.{◌≡◌, take}
use Rattle.ssa_turn_body.specs.Records.{told_by, orders_in}
use Rattle.ssa_turn_body.specs.ToldValues.{as_values, told_view}
use Rattle.ssa_model.specs.definitions.RecordText.{order_json}
use Rattle.ssa_turn_body.proofs.writing.told_orders.Given as goal

abbrev pub invariant-loop-step : goal.invariant-loop-step
invariant-loop-step l = told_view l.told.items ≡ as_values order_json (told_by orders_in (take l.step-index l.steps))
