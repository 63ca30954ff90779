use Rattle.std.proofs.Common.{◌≡◌, take}
use Rattle.ssa_turn_body.specs.Records.{told_by}
use Rattle.ssa_turn_body.specs.ToldValues.{as_values, told_view, coming_json, comes_in}
use Rattle.ssa_turn_body.proofs.writing_parts.told_parts.Given as goal

abbrev pub invariant-loop-step : goal.invariant-loop-step
invariant-loop-step l = told_view l.told.items ≡ as_values coming_json (told_by comes_in (take l.step-index l.steps))
