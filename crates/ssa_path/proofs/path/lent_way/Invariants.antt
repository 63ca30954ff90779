use Rattle.std.proofs.Common.{◌≡◌, take}
use Rattle.ssa_path.specs.Listing.{way_view}
use Rattle.ssa_path.specs.View.{path_view}
use Rattle.ssa_path.proofs.path.lent_way.Given as goal

abbrev pub invariant-loop-element : goal.invariant-loop-element
invariant-loop-element l = way_view l.way.items ≡ path_view (take l.element-index l.elements)
