use Rattle.std.proofs.Common.{◌≡◌, take}
use Rattle.ssa_turn_body.specs.Records.{told_by, cuts_in}
use Rattle.ssa_turn_body.specs.ToldValues.{as_values, told_view, path_alone}
use Rattle.ssa_turn_body.proofs.writing.told_cuts.Given as goal

abbrev pub invariant-loop-step : goal.invariant-loop-step
invariant-loop-step l = told_view l.told.items ≡ as_values path_alone (told_by cuts_in (take l.step-index l.steps))
