use Rattle.std.proofs.Common.{◌≡◌, ◌++◌, take}
use Rattle.ssa_path.specs.View.{path_view}
use Rattle.ssa_turn_body.specs.Records.{at_place}
use Rattle.ssa_turn_body.specs.ToldValues.{as_values, path_alone, singles, told_view}
use Rattle.ssa_turn_body.proofs.writing.push_paths.Given as goal

abbrev pub invariant-loop-element : goal.invariant-loop-element
invariant-loop-element l =
    told_view l.told.items ≡ told_view l.initial.told.items ++ as_values path_alone
    (at_place (path_view l.place) (singles (path_view (take l.element-index l.elements))))
