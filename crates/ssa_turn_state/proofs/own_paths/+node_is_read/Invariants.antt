use Rattle.std.proofs.Common.{take}
use Rattle.ssa_turn_state.proofs.OwnPaths.{AreReadChildren}
use Rattle.ssa_turn_state.proofs.own_paths.+node_is_read.Given as goal

-- the first children are read
abbrev pub invariant-loop-child : goal.invariant-loop-child
invariant-loop-child l = AreReadChildren (take l.child-index l.child-items)
