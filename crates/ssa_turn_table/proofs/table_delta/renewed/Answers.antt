use Rattle.std.proofs.Common.{Some, None, ap, sym, ◌∙◌}
use Rattle.std.specs.Prelude.{if◌then◌else◌}
use Rattle.ssa_merge.specs.Managers.{entry_view}
use Rattle.ssa_turn_table.specs.Changing.{owning}
use Rattle.ssa_turn_table.specs.declared.delta.EntryChange.{EntryChange}
use Rattle.ssa_turn_table.proofs.Compared.{change-made, steps-between}
use Rattle.ssa_turn_table.proofs.Staying.{moment-tells, renewed-none}
use Rattle.ssa_turn_table.proofs.table_delta.renewed.Goals as goal

pub returns-then-is_same_moment-clause-change : goal.returns-then-is_same_moment-clause-change
returns-then-is_same_moment-clause-change c = renewed-none (entry_view c.args.entry.now) c.args.at (sym c.is_same_moment.ensures ∙ c.if-is_same_moment.true)

pub returns-clause-change : goal.returns-clause-change
returns-clause-change c =
    let e = entry_view c.args.entry.now in
    let s = c.args.entry.now.set in
    let other = sym c.is_same_moment.ensures ∙ c.if-is_same_moment.false in
    let made : EntryChange = record { key = c.in_ok-key.key; set = c.set_stays.result; at = Some c.args.at } in
    change-made e (owning e s c.args.at) made (moment-tells e c.args.at ∙ other) c.in_ok-key.ensures
    (steps-between s s c.set_stays.result (c.set_stays.ensures s))
    (sym (ap (λ b. if b then None else Some c.args.at) other))

pub returns-clause-room : goal.returns-clause-room
returns-clause-room c = (c.set_stays.ensures c.args.entry.now.set).room
