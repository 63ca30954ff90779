use Rattle.ssa_json.proofs.ReadingBack.{compact-is-read}
use Rattle.ssa_json.proofs.write.compact_is_read.Goals as goal

pub returns : goal.returns
returns c = compact-is-read
