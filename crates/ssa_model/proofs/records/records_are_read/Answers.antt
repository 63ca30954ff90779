use Rattle.std.proofs.Common.{refl}
use Rattle.ssa_model.proofs.ReadStates.{read_states_are_met}
use Rattle.ssa_model.proofs.records.records_are_read.Goals as goal

pub returns : goal.returns
returns c = record { read = (refl, refl, refl, refl, refl); shapes = refl; others = refl; met = read_states_are_met }
