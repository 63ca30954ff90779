use Rattle.ssa_model.proofs.TakenTables.{taken_table_fits}
use Rattle.ssa_merge.specs.Managers.{table_view}
use Rattle.ssa_told.specs.Told.{told_table}
use Rattle.ssa_record.proofs.FittingEntries.{not-so}
use Rattle.ssa_record.proofs.told_table.table_told.Goals as goal

pub returns-then-not-branch-clause-taken : goal.returns-then-not-branch-clause-taken
returns-then-not-branch-clause-taken c = λ u takes after apart.
    let fits = taken_table_fits (told_table c.args.told) (table_view c.args.entries.now) u c.args.after.now c.args.cut.now after apart takes in
    absurd (not-so c.in_ok-does_table_fit.field-0 c.in_ok-does_table_fit.ensures c.if-not-branch.true fits)
