use Rattle.ssa_path.proofs.FieldsBack.{canonical-read}
use Rattle.ssa_path.proofs.fields_back.canonical_is_read.Goals as goal

pub returns : goal.returns
returns c = canonical-read
