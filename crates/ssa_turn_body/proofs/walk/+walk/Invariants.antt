use Rattle.std.proofs.Common.{◌≡◌, ◌+◌, ◌*◌, [], drop, length}
use Rattle.std.specs.Vec.Iter.{into_iter_items}
use Rattle.ssa_path.specs.Listing.{way_view}
use Rattle.ssa_typed.specs.Rows.{below, own_content, rows}
use Rattle.ssa_turn_body.proofs.Matching.{counted}
use Rattle.ssa_turn_body.proofs.Walking.{IsWalking}
use Rattle.ssa_turn_body.proofs.walk.+walk.Given as goal

abbrev pub decreases-walk_child : goal.decreases-walk_child
decreases-walk_child l = 5 * length (rows l.from.now)

abbrev pub decreases-walk_given : goal.decreases-walk_given
decreases-walk_given l = 5 * length (rows l.from.now) + 1

abbrev pub decreases-walk_alike : goal.decreases-walk_alike
decreases-walk_alike l = 5 * length (rows l.from.now) + 1

abbrev pub decreases-walk_edit : goal.decreases-walk_edit
decreases-walk_edit l = 5 * length (rows l.from.now) + 2

abbrev pub decreases-walk_children : goal.decreases-walk_children
decreases-walk_children l = 5 * length (rows l.from.now) + 3

abbrev pub decreases-walk : goal.decreases-walk
decreases-walk l = 5 * length (rows l.from.now) + 4

abbrev pub invariant-walk_alike-loop-i : goal.invariant-walk_alike-loop-i
invariant-walk_alike-loop-i l = record {
  way : l.way.items ≡ l.fn.way.items;
  walking : IsWalking (way_view l.fn.way.items) (own_content l.from) (below l.from) l.fn.to.items (counted 0 (length l.fn.to.items)) l.fn.steps.items l.i
      (drop l.i l.to.items) [] l.steps.items;
}

abbrev pub invariant-walk_edit-loop-child : goal.invariant-walk_edit-loop-child
invariant-walk_edit-loop-child l = record {
  way : l.way.items ≡ l.fn.way.items;
  walking : IsWalking (way_view l.fn.way.items) (own_content l.from) (below l.from) l.fn.to.items l.found.items l.fn.steps.items l.i
      (into_iter_items l.child-iterator) l.held.items l.steps.items;
}
