-- The sample's states have paths that are read from their texts: what the laws of reading ask is met.
use Rattle.std.proofs.Common.{refl}
use Rattle.ssa_model.specs.examples.RecordReadingRows.{record_readings, ReadStatesAreMet}
use Rattle.ssa_model.specs.examples.Rows.{new_bench}
use Rattle.ssa_model.specs.examples.FileRows.{applied_step}
use Rattle.ssa_model.proofs.ReadPaths.{read-paths-of}

-- the states before and after the sample's first apply have paths and moments that are read
pub read_states_are_met : ReadStatesAreMet
read_states_are_met = (
  record { paths = read-paths-of record_readings new_bench.timeline.first.body (tt, tt); moments = tt },
  record { paths = read-paths-of record_readings applied_step.state.body (tt, ((refl, tt), ((refl, (refl, tt)), tt))); moments = (refl, tt) },
)
