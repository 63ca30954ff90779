use Rattle.std.proofs.Common.{◌≡◌, take}
use Rattle.ssa_turn_body.specs.Records.{told_by, leaves_in}
use Rattle.ssa_turn_body.specs.ToldValues.{as_values, told_view}
use Rattle.ssa_model.specs.definitions.RecordText.{leaf_json}
use Rattle.ssa_turn_body.proofs.writing.told_leaves.Given as goal

abbrev pub invariant-loop-step : goal.invariant-loop-step
invariant-loop-step l = told_view l.told.items ≡ as_values leaf_json (told_by leaves_in (take l.step-index l.steps))
