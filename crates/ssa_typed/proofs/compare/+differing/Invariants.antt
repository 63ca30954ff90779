use Rattle.std.proofs.Common.{◌+◌, ◌*◌, ◌-◌, length, drop}
use Rattle.ssa_typed.specs.Ordered.{lent_children}
use Rattle.ssa_typed.specs.Points.{is_in_dict}
use Rattle.ssa_typed.specs.Rows.{rows}
use Rattle.ssa_typed.proofs.Differing.{AreComparing}
use Rattle.ssa_typed.proofs.compare.+differing.Given as goal

abbrev pub decreases-push_differing : goal.decreases-push_differing
decreases-push_differing l = 7 * length (rows l.child.now.1) + 6

abbrev pub decreases-push_branches : goal.decreases-push_branches
decreases-push_branches l = 7 * length (rows l.child.now.1) + 5

abbrev pub decreases-push_items : goal.decreases-push_items
decreases-push_items l = 7 * length (rows l.child.now.1) + 4

abbrev pub decreases-differing_items : goal.decreases-differing_items
decreases-differing_items l = 7 * length (rows l.before.now) + 3

abbrev pub decreases-differing_parts : goal.decreases-differing_parts
decreases-differing_parts l = 7 * length (rows l.before.now) + 3

abbrev pub decreases-differing_below : goal.decreases-differing_below
decreases-differing_below l = 7 * length (rows l.before.now) + 2

abbrev pub decreases-differing_apart : goal.decreases-differing_apart
decreases-differing_apart l = 7 * length (rows l.before.now) + 1

abbrev pub decreases-differing_alike : goal.decreases-differing_alike
decreases-differing_alike l = 7 * length (rows l.before.now)

abbrev pub decreases-differing_beside : goal.decreases-differing_beside
decreases-differing_beside l = 7 * length (rows l.before.now)

abbrev pub invariant-differing_alike-loop-i : goal.invariant-differing_alike-loop-i
invariant-differing_alike-loop-i l = AreComparing l.scope (is_in_dict l.after) l.own l.others (drop l.i l.own) (drop l.i l.others) l.told

abbrev pub invariant-differing_beside-loop-order : goal.invariant-differing_beside-loop-order
invariant-differing_beside-loop-order l =
    AreComparing l.scope l.in_dict (lent_children l.own) (lent_children l.others) (drop l.i (lent_children l.own)) (drop l.j (lent_children l.others)) l.told

abbrev pub decreases-differing_beside-loop-order : goal.decreases-differing_beside-loop-order
decreases-differing_beside-loop-order l = (length (lent_children l.own) - l.i) + (length (lent_children l.others) - l.j)
