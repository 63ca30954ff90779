use Rattle.ssa_typed.proofs.Left.{IsTaken}
use Rattle.ssa_typed.proofs.same_ends.before_same.Given as goal

abbrev pub invariant-loop-own_len : goal.invariant-loop-own_len
invariant-loop-own_len l = IsTaken l.own l.others l.own_len l.len

abbrev pub decreases-loop-own_len : goal.decreases-loop-own_len
decreases-loop-own_len l = l.own_len
