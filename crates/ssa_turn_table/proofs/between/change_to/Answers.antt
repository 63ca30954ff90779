use Rattle.std.proofs.Common.{sym, ◌∙◌}
use Rattle.ssa_merge.specs.Managers.{entry_view}
use Rattle.ssa_turn_table.specs.Changing.{owning}
use Rattle.ssa_turn_table.specs.declared.delta.EntryChange.{EntryChange}
use Rattle.ssa_turn_table.proofs.Compared.{change-made, steps-between}
use Rattle.ssa_turn_table.proofs.between.change_to.Goals as goal

pub returns-clause-change : goal.returns-clause-change
returns-clause-change c =
    let e = entry_view c.args.entry.now in
    let made : EntryChange = record { key = c.in_ok-key.key; set = c.in_ok-delta.delta; at = c.new_moment.result } in
    change-made e (owning e c.args.set.now c.args.at) made (sym c.is_unchanged.ensures ∙ c.if-is_unchanged.false) c.in_ok-key.ensures
    (steps-between c.args.entry.now.set c.args.set.now c.in_ok-delta.delta c.in_ok-delta.ensures) c.new_moment.ensures
