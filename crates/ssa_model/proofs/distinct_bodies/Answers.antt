use Rattle.ssa_model.proofs.DistinctNames.{shown_is_distinct, flat_has_distinct_atoms}
use Rattle.ssa_model.proofs.distinct_bodies.Goals as goal

pub returns : goal.returns
returns c = record { shown = shown_is_distinct; flat = flat_has_distinct_atoms }
