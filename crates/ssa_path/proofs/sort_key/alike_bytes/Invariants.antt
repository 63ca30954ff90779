use Rattle.std.proofs.Common.{◌-◌, length}
use Rattle.ssa_path.specs.Order.{BeginAlike}
use Rattle.ssa_path.proofs.sort_key.alike_bytes.Given as goal

abbrev pub invariant-loop-i : goal.invariant-loop-i
invariant-loop-i l = BeginAlike l.text l.other l.i

abbrev pub decreases-loop-i : goal.decreases-loop-i
decreases-loop-i l = length l.text - l.i
