use Rattle.std.proofs.Common.{◌≡◌, take}
use Rattle.ssa_path.specs.Children.{elements}
use Rattle.ssa_path.specs.View.{path_view}
use Rattle.ssa_turn_body.proofs.found.elements_of.Given as goal

abbrev pub invariant-loop-child : goal.invariant-loop-child
invariant-loop-child l = path_view l.names.items ≡ elements (take l.child-index l.children)
