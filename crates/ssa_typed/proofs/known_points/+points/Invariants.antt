-- The walk beside the tries held: the children before those that are left are collected in the tries that stand beside them.
use Rattle.std.proofs.Common.{◌+◌, ◌*◌, length, drop, take}
use Rattle.ssa_typed.specs.Ordered.{lent_children}
use Rattle.ssa_typed.specs.Rows.{rows}
use Rattle.ssa_typed.specs.declared.points.Collected.TheVariants.{Points}
use Rattle.ssa_typed.proofs.Collecting.{IsCollecting}
use Rattle.ssa_typed.proofs.known_points.+points.Given as goal

abbrev pub decreases-are_points_held : goal.decreases-are_points_held
decreases-are_points_held l = 2 * length (rows l.node.now) + 1

abbrev pub decreases-are_points_below : goal.decreases-are_points_below
decreases-are_points_below l = 2 * length (rows l.node.now)

abbrev pub invariant-are_points_below-loop-i : goal.invariant-are_points_below-loop-i
invariant-are_points_below-loop-i l = IsCollecting Points l.in_dict (lent_children l.children) (drop l.i (lent_children l.children)) (take l.i l.held)
