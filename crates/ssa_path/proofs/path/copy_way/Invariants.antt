use Rattle.std.proofs.Common.{◌≡◌, take}
use Rattle.ssa_path.specs.Listing.{way_view}
use Rattle.ssa_path.specs.View.{path_view}
use Rattle.ssa_path.proofs.path.copy_way.Given as goal

abbrev pub invariant-loop-element : goal.invariant-loop-element
invariant-loop-element l = path_view l.elements.items ≡ way_view (take l.element-index l.way)
