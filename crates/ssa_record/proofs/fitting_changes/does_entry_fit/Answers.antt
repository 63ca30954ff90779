use Rattle.std.proofs.Common.{map, sym, subst}
use Rattle.ssa_merge.specs.Managers.{entry_view}
use Rattle.ssa_record.specs.EntryTests.{ToldFits}
use Rattle.ssa_told.specs.Told.{told_change, told_table}
use Rattle.ssa_record.proofs.FittingEntries.{entry-decides, not-so, ok-so, refused}
use Rattle.ssa_record.proofs.fitting_changes.does_entry_fit.Goals as goal

pub returns-then-not-branch : goal.returns-then-not-branch
returns-then-not-branch c =
    let w = c.args.after.now in
    let e = entry_view c.args.entry.now in
    refused (λ f.
    not-so c.in_ok-does_told_fit.field-0 c.in_ok-does_told_fit.ensures c.if-not-branch.true
    (subst (λ cs. ToldFits (map told_change cs) w e) (sym c.deref.ensures.value) f.change))

pub returns : goal.returns
returns c =
    let w = c.args.after.now in
    let e = entry_view c.args.entry.now in
    let d = told_table c.args.told.now in
    let fits = c.in_ok-does_told_fit.ensures in
    let change = subst (λ cs. ToldFits (map told_change cs) w e) c.deref.ensures.value (fits.0 c.if-not-branch.false) in
    ok-so c.gives_up.result (λ b. entry-decides d w c.args.cut.now e b change) c.gives_up.ensures
