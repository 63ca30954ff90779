use Rattle.std.proofs.Common.{◌∙◌, sym}
use Rattle.ssa_model.proofs.FittingTables.{same_set-itself}
use Rattle.ssa_merge.specs.Managers.{entry_view}
use Rattle.ssa_merge.proofs.TableChanges.{acted-renewed, acted-same}
use Rattle.ssa_merge.proofs.seat.keeping.Goals as goal

pub returns-then-changed : goal.returns-then-changed
returns-then-changed c =
    acted-renewed (entry_view c.args.entry.now) c.args.entry.now.set c.args.changed c.args.at (sym c.is_empty.ensures ∙ c.if-is_empty.false)
    (same_set-itself c.args.entry.now.set) c.if-changed.true

pub returns : goal.returns
returns c =
    acted-same (entry_view c.args.entry.now) c.args.entry.now.set c.args.changed c.args.at (sym c.is_empty.ensures ∙ c.if-is_empty.false)
    (same_set-itself c.args.entry.now.set) c.if-changed.false
