use Rattle.ssa_path.proofs.Readings.{stripped}
use Rattle.ssa_path.proofs.element_read.after_beginning.Goals as goal

pub returns : goal.returns
returns c = stripped c.args.beginning.now c.args.text.now c.strip_prefix.result c.strip_prefix.ensures.cases
