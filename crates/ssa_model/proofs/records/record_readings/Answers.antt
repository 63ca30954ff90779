use Rattle.ssa_model.proofs.RecordsBack.{record_texts_have_shape, record_texts_are_read}
use Rattle.ssa_model.proofs.records.record_readings.Goals as goal

pub returns : goal.returns
returns c = record { shape = record_texts_have_shape; read = record_texts_are_read }
