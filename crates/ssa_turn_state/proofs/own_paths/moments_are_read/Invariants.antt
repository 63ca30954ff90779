use Rattle.std.proofs.Common.{take}
use Rattle.ssa_turn_state.proofs.OwnPaths.{AreDated}
use Rattle.ssa_turn_state.proofs.own_paths.moments_are_read.Given as goal

-- the first entries have moments
abbrev pub invariant-loop-entry : goal.invariant-loop-entry
invariant-loop-entry l = AreDated (take l.entry-index l.entries)
