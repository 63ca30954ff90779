use Rattle.std.proofs.Common.{◌≡◌, take}
use Rattle.ssa_path.specs.View.{path_view}
use Rattle.ssa_path.proofs.path.copy_elements.Given as goal

abbrev pub invariant-loop-element : goal.invariant-loop-element
invariant-loop-element l = path_view l.copies.items ≡ path_view (take l.element-index l.elements)
