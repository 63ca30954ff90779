use Rattle.std.proofs.Common.{◌≡◌, ◌+◌, ◌-◌, ◌*◌, drop, length, map}
use Rattle.std.specs.Vec.Iter.{into_iter_items}
use Rattle.ssa_path.specs.Listing.{way_view}
use Rattle.ssa_typed.specs.MergedOrder.{beside}
use Rattle.ssa_typed.specs.Rows.{below, rows}
use Rattle.ssa_turn_body.specs.Applying.{gone_below}
use Rattle.ssa_turn_body.specs.Turnovers.{none_passes, passing}
use Rattle.ssa_turn_body.proofs.Meeting.{IsMeeting}
use Rattle.ssa_turn_body.proofs.MeetingBoth.{IsBeside}
use Rattle.ssa_turn_body.proofs.over_walk.+over.Given as goal

abbrev pub decreases-over_child : goal.decreases-over_child
decreases-over_child l = 6 * length (rows l.live.now.1) + 3

abbrev pub decreases-over_given : goal.decreases-over_given
decreases-over_given l = 6 * length (rows l.live.now.1) + 4

abbrev pub decreases-over_slot : goal.decreases-over_slot
decreases-over_slot l = 6 * length (rows l.live.now.1) + 5

abbrev pub decreases-over_alike : goal.decreases-over_alike
decreases-over_alike l = 6 * length (rows l.live.now)

abbrev pub decreases-over_named : goal.decreases-over_named
decreases-over_named l = 6 * length (rows l.live.now)

abbrev pub decreases-over_items : goal.decreases-over_items
decreases-over_items l = 6 * length (rows l.live.now)

abbrev pub decreases-over_children : goal.decreases-over_children
decreases-over_children l = 6 * length (rows l.live.now) + 1

abbrev pub decreases-over : goal.decreases-over
decreases-over l = 6 * length (rows l.live.now) + 2

abbrev pub invariant-over_alike-loop-i : goal.invariant-over_alike-loop-i
invariant-over_alike-loop-i l = record {
  way : l.way.items ≡ l.fn.way.items;
  meeting : IsMeeting (way_view l.fn.way.items) (gone_below l.gone) l.live l.fn.config.items l.fn.steps.items l.i l.i none_passes l.steps.items;
  left : drop l.i l.config.items ≡ drop l.i l.fn.config.items;
}

abbrev pub invariant-over_items-loop-other : goal.invariant-over_items-loop-other
invariant-over_items-loop-other l = record {
  way : l.way.items ≡ l.fn.way.items;
  meeting : IsMeeting (way_view l.fn.way.items) (gone_below l.gone) l.live l.fn.config.items l.fn.steps.items l.i l.count (passing l.turnover) l.steps.items;
  slots : into_iter_items l.other-iterator ≡ map (beside l.fn.config.items) (drop l.i (below l.live));
}

abbrev pub invariant-over_named-loop-order : goal.invariant-over_named-loop-order
invariant-over_named-loop-order l = record {
  way : l.way.items ≡ l.fn.way.items;
  beside : IsBeside (way_view l.fn.way.items) (gone_below l.gone) l.live l.fn.config.items l.fn.steps.items l.i (drop l.i (below l.live)) l.left.items l.count
      (passing l.turnover) l.steps.items;
}

abbrev pub decreases-over_named-loop-order : goal.decreases-over_named-loop-order
decreases-over_named-loop-order l = (length l.own - l.i) + length l.left.items
