use Rattle.std.proofs.Common.{◌≡◌, map, take}
use Rattle.ssa_json.specs.View.{view}
use Rattle.ssa_model.specs.definitions.RecordText.{change_json}
use Rattle.ssa_turn_table.specs.Tables.{changes_view}
use Rattle.ssa_turn_table.proofs.to_json.changes_value.Given as goal

abbrev pub invariant-loop-change : goal.invariant-loop-change
invariant-loop-change l = map view l.values.items ≡ map change_json (changes_view (take l.change-index l.changed))
