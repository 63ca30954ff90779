use Rattle.ssa_path.specs.View.{path_view}
use Rattle.ssa_record.specs.Places.{maps_of}
use Rattle.ssa_record.specs.Refilled.{place_told}
use Rattle.ssa_record.proofs.ItemsRead.{IsPutTo}
use Rattle.ssa_record.proofs.order_after.puts_in.Given as goal

abbrev pub invariant-loop-element : goal.invariant-loop-element
invariant-loop-element l = IsPutTo (place_told (maps_of l.told) (path_view l.path)) l.below l.element-index l.puts.items
