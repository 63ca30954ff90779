use Rattle.std.proofs.Common.{◌+◌, ◌-◌, ◌*◌, drop, length}
use Rattle.ssa_typed.specs.Rows.{rows, rows_below}
use Rattle.ssa_typed.proofs.Pairs.{IsOverlaid}
use Rattle.ssa_typed.proofs.Placed.{IsPlacedOver}
use Rattle.ssa_typed.proofs.Refilling.{IsRefilling}
use Rattle.ssa_typed.proofs.SideBySide.{IsOverSoFar}
use Rattle.ssa_typed.proofs.over.+over.Given as goal

abbrev pub decreases-over_alike : goal.decreases-over_alike
decreases-over_alike l = 4 * length (rows_below l.live.now) + 1

abbrev pub decreases-over_found : goal.decreases-over_found
decreases-over_found l = 4 * length (rows_below l.live.now) + 1

abbrev pub decreases-over_placed : goal.decreases-over_placed
decreases-over_placed l = 4 * length (rows_below l.live.now) + 1

abbrev pub decreases-over_beside : goal.decreases-over_beside
decreases-over_beside l = 4 * length (rows_below l.live.now) + 1

abbrev pub decreases-over_items : goal.decreases-over_items
decreases-over_items l = 4 * length (rows_below l.live.now) + 2

abbrev pub decreases-over_fields : goal.decreases-over_fields
decreases-over_fields l = 4 * length (rows_below l.live.now) + 2

abbrev pub decreases-over_node : goal.decreases-over_node
decreases-over_node l = 4 * length (rows l.live.now)

abbrev pub invariant-over_alike-loop-i : goal.invariant-over_alike-loop-i
invariant-over_alike-loop-i l =
    IsOverlaid l.live l.fn.config.items l.config.items l.i

abbrev pub invariant-over_placed-loop-i : goal.invariant-over_placed-loop-i
invariant-over_placed-loop-i l =
    IsPlacedOver l.live l.fn.config.items l.config.items l.i

abbrev pub invariant-over_found-loop-i : goal.invariant-over_found-loop-i
invariant-over_found-loop-i l =
    IsRefilling l.live l.fn.config.items l.own.items l.fill l.i-counter l.next l.merged.items

abbrev pub invariant-over_beside-loop-order : goal.invariant-over_beside-loop-order
invariant-over_beside-loop-order l =
    IsOverSoFar l.live l.fn.config.items (drop l.i l.live) l.left.items l.merged.items

abbrev pub decreases-over_beside-loop-order : goal.decreases-over_beside-loop-order
decreases-over_beside-loop-order l = (length l.live - l.i) + length l.left.items
