use Rattle.std.proofs.Common.{◌≡◌, take}
use Rattle.ssa_path.specs.Children.{elements}
use Rattle.ssa_path.specs.View.{path_view}
use Rattle.ssa_record.specs.Places.{items_left, maps_of}
use Rattle.ssa_record.specs.Refilled.{lent_elements}
use Rattle.ssa_record.proofs.order_after.staying.Given as goal

abbrev pub invariant-loop-element : goal.invariant-loop-element
invariant-loop-element l = lent_elements l.stays.items ≡ items_left (maps_of l.told) (path_view l.path) (elements (take l.element-index l.children))
