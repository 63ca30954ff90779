use Rattle.std.proofs.Common.{◌≡◌, map, take}
use Rattle.ssa_json.specs.View.{view}
use Rattle.ssa_turn_body.specs.ToldValues.{entry_json}
use Rattle.ssa_turn_body.proofs.told_values.told_list.Given as goal

abbrev pub invariant-loop-entry : goal.invariant-loop-entry
invariant-loop-entry l = map view l.values.items ≡ map entry_json (take l.entry-index l.told)
