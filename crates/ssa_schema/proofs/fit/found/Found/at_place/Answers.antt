use Rattle.std.proofs.Common.{subst}
use Rattle.ssa_schema.specs.Finds.{Breaks}
use Rattle.ssa_schema.proofs.Finding.{breaks_here, breaks_none}
use Rattle.ssa_schema.proofs.fit.found.Found.at_place.Goals as goal

pub returns-in-Some : goal.returns-in-Some
returns-in-Some c faults h = breaks_here c.here.result c.in-Some.misfit faults c.here.ensures.misfit c.here.ensures.path
    (subst (λ m. Breaks m faults) c.in-Some.is h)

pub returns-in-None : goal.returns-in-None
returns-in-None c faults h = breaks_none faults (subst (λ m. Breaks m faults) c.in-None.is h)
