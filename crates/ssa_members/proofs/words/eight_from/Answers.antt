use Rattle.std.proofs.Common.{arith}
use Rattle.ssa_members.proofs.Shifted.{moved-down}
use Rattle.ssa_members.proofs.words.eight_from.Goals as goal

pub returns : goal.returns
returns c = moved-down 8 c.args.text.now c.args.i c.min-start.result c.eight_at.result c.requires (omega arith) c.min-start.ensures c.eight_at.ensures
