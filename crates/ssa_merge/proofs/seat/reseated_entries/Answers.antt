use Rattle.std.proofs.Common.{◌≡◌, ◌+◌, ◌∷◌, [], filter, length, take, ap, subst, ◌∙◌}
use Rattle.std.specs.Prelude.{unwrap_or}
use Rattle.std.proofs.lemmas.List.{length-append}
use Rattle.ssa_model.specs.definitions.Table.{owned_by, reseated}
use Rattle.ssa_merge.specs.Managers.{entry_view, key_view, table_view}
use Rattle.ssa_merge.specs.Tables.{owns}
use Rattle.ssa_merge.specs.TableChanges.{changed_entries, changed_entry}
use Rattle.ssa_merge.proofs.Acting.{reseated-here, taken-more}
use Rattle.ssa_merge.proofs.TableChanges.{reseated-more}
use Rattle.ssa_merge.proofs.seat.reseated_entries.Goals as goal

pub loop-entry-preserved : goal.loop-entry-preserved
loop-entry-preserved c =
    let es = c.args.table.now in
    let i = c.loop-entry.entry-index in
    let e = c.entry-item.result in
    let a = key_view c.args.key.now in
    let told = c.args.owned.now in
    let one = reseated a (unwrap_or told (owned_by (table_view es) a)) c.args.lost.now c.args.changed c.args.at in
    let cs = c.loop-entry.changes.items in
    let pushed = c.in_ok-push.ensures.items in
    let before = c.loop-entry.invariant in
    let change =
    subst (λ s. changed_entry c.in_ok-change.change (entry_view e)
    ≡ filter owns (reseated a (unwrap_or c.loop-entry.owned e.set) s c.args.changed c.args.at (entry_view e) ∷ []))
    before.loss c.in_ok-change.ensures.change in
    let made = change ∙ ap (λ x. filter owns (x ∷ []))
    (reseated-here es i e a c.requires c.loop-entry-test.true c.entry-item.is told c.loop-entry.owned before.owned c.args.lost.now c.args.changed c.args.at) in
    let more = reseated-more es i e one cs c.in_ok-change.change c.loop-entry-test.true c.entry-item.is before.made before.each made in
    record {
      made = ap (λ ds. changed_entries ds (table_view (take (i + 1) es))) pushed ∙ more;
      each = ap length pushed ∙ length-append cs (c.in_ok-change.change ∷ []) ∙ ap (λ n. n + 1) before.each;
      loss = c.in_ok-change.ensures.same ∙ before.loss;
      owned = taken-more es i e a c.loop-entry-test.true c.entry-item.is told c.loop-entry.owned _ before.owned c.in_ok-change.ensures.taken
          c.in_ok-change.ensures.left;
    }
