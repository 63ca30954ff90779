use Rattle.std.proofs.Common.{◌∙◌, sym}
use Rattle.ssa_merge.proofs.GivenUp.{union-none}
use Rattle.ssa_merge.proofs.change.joined.Goals as goal

pub returns-then-is_empty : goal.returns-then-is_empty
returns-then-is_empty c = union-none c.args.set.now c.args.other.now (sym c.is_empty.ensures ∙ c.if-is_empty.true)
