use Rattle.std.proofs.Common.{ap, sym, ◌∙◌}
use Rattle.ssa_model.specs.definitions.Record.{change_of}
use Rattle.ssa_merge.specs.Managers.{entry_view, table_view}
use Rattle.ssa_merge.specs.TableChanges.{changed_entries}
use Rattle.ssa_turn_table.proofs.Compared.{own-at, told-more, room-more}
use Rattle.ssa_turn_table.proofs.LedTables.{own-changed}
use Rattle.ssa_turn_table.proofs.table_delta.changes_by.Goals as goal

pub loop-place-preserved : goal.loop-place-preserved
loop-place-preserved c =
    let es = c.args.entries.now in
    let fs = c.args.told.now in
    let i = c.loop-place.place in
    let e = c.index-entries-place.result in
    let f = c.index-told-place.result in
    let cs = c.loop-place.changed.items in
    let u = changed_entries fs (table_view es) in
    let own = own-changed es fs i e f c.requires.distinct c.requires.each c.loop-place-test.true c.index-entries-place.is c.index-told-place.is in
    let put = c.in_ok-push_change_by.ensures in
    let one = put.tells ∙ sym (ap (change_of (entry_view e)) own) in
    record {
      told = told-more u es i e cs _ put.made c.loop-place-test.true c.index-entries-place.is c.loop-place.invariant.told one put.behind;
      room =
          room-more (table_view es) u e cs _ put.made (own-at es i e c.requires.distinct c.loop-place-test.true c.index-entries-place.is) one
          put.room c.loop-place.invariant.room put.behind;
    }
