use Rattle.std.proofs.Common.{map, sym}
use Rattle.ssa_merge.specs.Managers.{entry_view}
use Rattle.ssa_told.specs.Told.{told_change}
use Rattle.ssa_record.proofs.FittingEntries.{ok-so, told-decides}
use Rattle.ssa_record.proofs.fitting_changes.does_told_fit.Goals as goal

pub returns-in-Some : goal.returns-in-Some
returns-in-Some c =
    ok-so c.does_change_fit.result
    (λ b.
    told-decides (map told_change c.args.changed.now) c.args.after.now (entry_view c.args.entry.now) (told_change c.in-Some.change.now) b
    (sym c.in-Some.ensures))
    c.does_change_fit.ensures
