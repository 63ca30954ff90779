use Rattle.std.proofs.Common.{length}
use Rattle.ssa_path.proofs.keys.+are_same_members.Given as goal

abbrev pub decreases-are_same_members : goal.decreases-are_same_members
decreases-are_same_members l = length l.members.now
