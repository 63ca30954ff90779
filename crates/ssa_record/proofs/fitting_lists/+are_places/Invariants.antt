use Rattle.std.proofs.Common.{length}
use Rattle.ssa_record.proofs.fitting_lists.+are_places.Given as goal

abbrev pub decreases-are_places : goal.decreases-are_places
decreases-are_places l = length l.here.now
