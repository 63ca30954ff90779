use Rattle.std.proofs.Common.{◌∙◌}
use Rattle.std.specs.Cmp.Lexicographic.{texts_ties}
use Rattle.ssa_turn_table.proofs.between.is_same_moment.Goals as goal

pub returns : goal.returns
returns c = c.eq.ensures ∙ texts_ties c.args.before c.args.after
