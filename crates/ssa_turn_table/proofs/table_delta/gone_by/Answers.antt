use Rattle.std.proofs.Common.{ap, sym, ◌∙◌, not}
use Rattle.ssa_merge.specs.Managers.{entry_view, table_view}
use Rattle.ssa_merge.specs.TableChanges.{changed_entries}
use Rattle.ssa_turn_table.proofs.LedTables.{own-changed, stays-among, gone-goes, gone-stays}
use Rattle.ssa_turn_table.proofs.table_delta.gone_by.Goals as goal
use Rattle.ssa_turn_table.proofs.table_delta.gone_by.Goals.{then-leaves+in_ok-copy+in_ok-push, else-leaves}

pub loop-place-preserved : goal.loop-place-preserved
loop-place-preserved c =
    let es = c.args.entries.now in
    let fs = c.args.told.now in
    let i = c.loop-place.place in
    let e = c.index-entries-place.result in
    let f = c.index-told-place.result in
    let ks = c.loop-place.gone.items in
    let u = changed_entries fs (table_view es) in
    let own = own-changed es fs i e f c.requires.distinct c.requires.each c.loop-place-test.true c.index-entries-place.is c.index-told-place.is in
    let there = stays-among u f (entry_view e) own in
    elim c.if-leaves.branch [
      | then-leaves+in_ok-copy+in_ok-push w ↦
          gone-goes u es i e ks _ _ c.loop-place-test.true c.index-entries-place.is (there ∙ ap not (sym c.leaves.ensures ∙ w.if-leaves.true))
          c.loop-place.invariant w.in_ok-copy.ensures (ap (λ v. v.items) w.gone-is ∙ w.in_ok-push.ensures.items)
      | else-leaves w ↦
          gone-stays u es i e ks _ c.loop-place-test.true c.index-entries-place.is (there ∙ ap not (sym c.leaves.ensures ∙ w.if-leaves.false))
          c.loop-place.invariant (ap (λ v. v.items) w.gone-is)
    ]
