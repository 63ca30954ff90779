use Rattle.std.proofs.Common.{◌+◌, ◌*◌, length, take}
use Rattle.ssa_typed.specs.Rows.{rows}
use Rattle.ssa_typed.specs.Same.{AreSame}
use Rattle.ssa_typed.proofs.Pairs.{Each}
use Rattle.ssa_typed.proofs.node.Node.+is_same.Given as goal

abbrev pub decreases-is_same : goal.decreases-is_same
decreases-is_same l = 2 * length (rows l.self.now) + 1

abbrev pub decreases-is_same_below : goal.decreases-is_same_below
decreases-is_same_below l = 2 * length (rows l.self.now)

abbrev pub invariant-is_same_below-loop-i : goal.invariant-is_same_below-loop-i
invariant-is_same_below-loop-i l = Each AreSame (take l.i l.own) (take l.i l.others)
