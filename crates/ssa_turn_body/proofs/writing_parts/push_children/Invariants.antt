use Rattle.std.proofs.Common.{◌≡◌, ◌++◌, take}
use Rattle.ssa_path.specs.View.{path_view}
use Rattle.ssa_turn_body.specs.Records.{at_place}
use Rattle.ssa_turn_body.specs.ToldValues.{as_values, coming_json, comes_of, told_view}
use Rattle.ssa_turn_body.proofs.writing_parts.push_children.Given as goal

abbrev pub invariant-loop-i : goal.invariant-loop-i
invariant-loop-i l =
    told_view l.told.items ≡ told_view l.initial.told.items
    ++ as_values coming_json (at_place (path_view l.at) (comes_of (path_view l.order) (take l.i l.places) (take l.i l.held)))
