use Rattle.std.proofs.Common.{List, map, ◌++◌, ap, sym, subst, ◌∙◌}
use Rattle.std.specs.Vec.Iter.{into_iter_items}
use Rattle.ssa_merge.specs.Managers.{table_view}
use Rattle.ssa_told.specs.Told.{told_change}
use Rattle.ssa_record.proofs.ToldTables.{made-more}
use Rattle.ssa_turn_table.proofs.Compared.{room-push}
use Rattle.ssa_turn_table.specs.Changing.{AllHaveRoom}
use Rattle.ssa_turn_table.specs.declared.delta.EntryChange.{EntryChange}
use Rattle.ssa_turn_table.specs.Tables.{change_view, changes_view}
use Rattle.ssa_record.proofs.told_table.changes_of_told.Goals as goal

pub loop-change-preserved : goal.loop-change-preserved
loop-change-preserved c =
    let t = table_view c.args.entries.now in
    let changed = c.loop-change.changed.items in
    let one = c.in_ok-change_of_told.field-0 in
    let made = c.in_ok-push.ensures.items in
    let before = c.loop-change.invariant in
    let steps = c.in-Some.ensures.steps in
    record {
      told =
          made-more change_view told_change changed c.push.new.self.items one c.in-Some.change (into_iter_items c.next.new.self) _
          (ap (λ xs. changes_view changed ++ map told_change xs) (sym steps.0) ∙ before.told) c.in_ok-change_of_told.ensures.change made;
      room = subst (AllHaveRoom t) (sym {A = List EntryChange} made) (room-push t changed one before.room c.in_ok-change_of_told.ensures.room.0);
    }
