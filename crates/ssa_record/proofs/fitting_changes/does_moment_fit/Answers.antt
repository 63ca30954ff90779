use Rattle.std.proofs.Common.{not, ap, ◌∙◌}
use Rattle.std.specs.Cmp.Lexicographic.{texts_ties}
use Rattle.ssa_record.proofs.FittingEntries.{moment-decides}
use Rattle.ssa_record.proofs.fitting_changes.does_moment_fit.Goals as goal

pub returns-in-Some : goal.returns-in-Some
returns-in-Some c =
    moment-decides c.args.at c.in-Some.told c.args.change.now.at c.ne.result c.in-Some.is (c.ne.ensures ∙ ap not (texts_ties c.args.at c.in-Some.told))
