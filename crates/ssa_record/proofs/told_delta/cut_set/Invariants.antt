use Rattle.std.proofs.Common.{take}
use Rattle.ssa_model.specs.definitions.PathMap.{empty}
use Rattle.ssa_turn_body.specs.Records.{cuts_in, told_by}
use Rattle.ssa_record.specs.Places.{told_paths}
use Rattle.ssa_record.specs.ToldEntries.{AddsPaths}
use Rattle.ssa_record.proofs.told_delta.cut_set.Given as goal

-- the paths that the changes so far cut
abbrev pub invariant-loop-step : goal.invariant-loop-step
invariant-loop-step l = AddsPaths (told_paths (told_by cuts_in (take l.step-index l.changes.steps.items))) empty l.cut
