use Rattle.ssa_model.proofs.OneWriting.{one_writing, set_has_one_writing, writing_is_met, order_tells}
use Rattle.ssa_model.proofs.one_writing.Goals as goal

pub returns : goal.returns
returns c = record { canonical = one_writing; set = set_has_one_writing; met = writing_is_met; order = order_tells }
