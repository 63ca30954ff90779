use Rattle.std.proofs.Common.{◌+◌, ◌*◌}
use Rattle.ssa_explain.proofs.atomic.+seek.Given as goal

abbrev pub decreases-wrong_in_member : goal.decreases-wrong_in_member
decreases-wrong_in_member l = 2 * l.levels + 1

abbrev pub decreases-wrong_in_items : goal.decreases-wrong_in_items
decreases-wrong_in_items l = 2 * l.levels + 1

abbrev pub decreases-wrong_within : goal.decreases-wrong_within
decreases-wrong_within l = 2 * l.levels
