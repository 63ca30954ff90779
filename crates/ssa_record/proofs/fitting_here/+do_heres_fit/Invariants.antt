use Rattle.std.proofs.Common.{length}
use Rattle.ssa_record.proofs.fitting_here.+do_heres_fit.Given as goal

abbrev pub decreases-do_heres_fit : goal.decreases-do_heres_fit
decreases-do_heres_fit l = length l.here.now
