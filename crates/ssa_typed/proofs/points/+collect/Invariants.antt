use Rattle.std.proofs.Common.{◌+◌, ◌*◌, length, drop}
use Rattle.ssa_typed.specs.Ordered.{lent_children}
use Rattle.ssa_typed.specs.Rows.{rows}
use Rattle.ssa_typed.proofs.Collecting.{IsCollecting}
use Rattle.ssa_typed.proofs.points.+collect.Given as goal

abbrev pub decreases-collect_below : goal.decreases-collect_below
decreases-collect_below l = 2 * length (rows l.node.now)

abbrev pub decreases-collect_under : goal.decreases-collect_under
decreases-collect_under l = 2 * length (rows l.node.now) + 1

abbrev pub invariant-collect_below-loop-i : goal.invariant-collect_below-loop-i
invariant-collect_below-loop-i l = IsCollecting l.what l.in_dict (lent_children l.children) (drop l.i (lent_children l.children)) l.collected.items
