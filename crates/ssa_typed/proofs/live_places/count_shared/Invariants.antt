use Rattle.std.proofs.Common.{length, ◌-◌}
use Rattle.ssa_typed.proofs.live_places.count_shared.Given as goal

abbrev pub decreases-loop-place : goal.decreases-loop-place
decreases-loop-place l = length l.children - l.place
