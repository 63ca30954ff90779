use Rattle.ssa_model.proofs.TakenTables.{taken_table_fits}
use Rattle.ssa_model.proofs.records.taken_table_fits.Goals as goal

pub returns : goal.returns
returns c = taken_table_fits
