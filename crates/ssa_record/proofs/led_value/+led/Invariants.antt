use Rattle.std.proofs.Common.{◌≡◌, ◌+◌, ◌*◌, length, take}
use Rattle.ssa_json.specs.View.{items_view, members_view}
use Rattle.ssa_path.specs.View.{path_view}
use Rattle.ssa_typed.specs.Rows.{below, rows}
use Rattle.ssa_record.specs.Places.{maps_of}
use Rattle.ssa_record.proofs.LedMembers.{AreKeptSoFar}
use Rattle.ssa_record.proofs.LedItems.{AreItemsSoFar}
use Rattle.ssa_record.proofs.led_value.+led.Given as goal

abbrev pub decreases-led_child : goal.decreases-led_child
decreases-led_child l = 8 * length (rows l.child.now.1) + 6

abbrev pub decreases-kept_members : goal.decreases-kept_members
decreases-kept_members l = 8 * length (rows l.node.now) + 3

abbrev pub decreases-led_object : goal.decreases-led_object
decreases-led_object l = 8 * length (rows l.node.now) + 4

abbrev pub decreases-led_item : goal.decreases-led_item
decreases-led_item l = 8 * length (rows l.node.now) + 2

abbrev pub decreases-led_items : goal.decreases-led_items
decreases-led_items l = 8 * length (rows l.node.now) + 3

abbrev pub decreases-led_list : goal.decreases-led_list
decreases-led_list l = 8 * length (rows l.node.now) + 4

abbrev pub decreases-led_value : goal.decreases-led_value
decreases-led_value l = 8 * length (rows l.node.now) + 5

-- the path is as it was, and the members are those of the children so far
abbrev pub invariant-kept_members-loop-child : goal.invariant-kept_members-loop-child
invariant-kept_members-loop-child l = record {
  path : l.path.items ≡ l.fn.path.items;
  kept : AreKeptSoFar (maps_of l.told) (path_view l.fn.path.items) l.node (take l.child-index (below l.node)) (members_view l.members.entries);
}

-- the path is as it was, and the items are those of the elements so far
abbrev pub invariant-led_items-loop-element : goal.invariant-led_items-loop-element
invariant-led_items-loop-element l = record {
  path : l.path.items ≡ l.fn.path.items;
  items : AreItemsSoFar (maps_of l.told) (path_view l.fn.path.items) l.node (path_view l.order) (path_view (take l.element-index l.order))
      (items_view l.items.items);
}
