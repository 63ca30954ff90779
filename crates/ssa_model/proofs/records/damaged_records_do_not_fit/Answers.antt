use Rattle.ssa_model.proofs.FittingRows.{repeated-leaf, wrong-leaf, wrong-part, put-again, cut-key-field, cut-nothing, gone-nobody}
use Rattle.ssa_model.proofs.records.damaged_records_do_not_fit.Goals as goal

pub returns : goal.returns
returns c = record {
  repeated = repeated-leaf;
  wrong_leaf = wrong-leaf;
  wrong_part = wrong-part;
  again = put-again;
  key = cut-key-field;
  nothing = cut-nothing;
  nobody = gone-nobody;
}
