use Rattle.std.proofs.Common.{◌≡◌, take}
use Rattle.ssa_path.specs.Children.{elements}
use Rattle.ssa_path.specs.View.{path_view}
use Rattle.ssa_turn_body.specs.Found.{fresh, nones}
use Rattle.ssa_turn_body.proofs.found.missing.Given as goal

abbrev pub invariant-loop-i : goal.invariant-loop-i
invariant-loop-i l = record {
  places : l.places.items ≡ nones 0 (take l.i l.found);
  named : path_view l.elements.items ≡ fresh (take l.i l.found) (elements (take l.i l.children));
}
