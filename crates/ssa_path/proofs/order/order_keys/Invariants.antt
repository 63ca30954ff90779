use Rattle.std.proofs.Common.{◌-◌, length}
use Rattle.ssa_path.specs.Keys.{members_view}
use Rattle.ssa_path.proofs.Members.{IsDecidedBehind}
use Rattle.ssa_path.proofs.order.order_keys.Given as goal

abbrev pub invariant-loop-i : goal.invariant-loop-i
invariant-loop-i l = IsDecidedBehind (members_view l.keys) (members_view l.others) l.i

abbrev pub decreases-loop-i : goal.decreases-loop-i
decreases-loop-i l = length l.keys - l.i
