use Rattle.std.proofs.Common.{◌≡◌, [], ◌++◌, ap, sym, ◌∙◌}
use Rattle.std.proofs.lemmas.List.{append-nil}
use Rattle.std.specs.List.{cons_option}
use Rattle.ssa_merge.specs.Managers.{table_view}
use Rattle.ssa_turn_table.proofs.Compared.{own-at, told-more, room-more}
use Rattle.ssa_turn_table.proofs.between.changes_between.Goals as goal
use Rattle.ssa_turn_table.proofs.between.changes_between.Goals.{in-Some+in_ok-push, in_default}

pub loop-entry-preserved : goal.loop-entry-preserved
loop-entry-preserved c =
    let es = c.args.from.now in
    let i = c.loop-entry.entry-index in
    let e = c.entry-item.result in
    let cs = c.loop-entry.changed.items in
    let o = c.in_ok-change.field-0 in
    let made : c.match-branch-2.changed.items ≡ cs ++ cons_option o [] = elim c.match-branch-2.branch [
      | in-Some+in_ok-push w ↦ ap (λ v. v.items) w.changed-is ∙ w.in_ok-push.ensures.items ∙ ap (λ p. cs ++ cons_option p []) (sym w.in-Some.is)
      | in_default w ↦ ap (λ v. v.items) w.changed-is ∙ sym (append-nil cs) ∙ ap (λ p. cs ++ cons_option p []) (sym w.in_default.is)
    ] in
    record {
      told =
          told-more (table_view c.args.to.now) es i e cs _ o c.loop-entry-test.true c.entry-item.is
          c.loop-entry.invariant.told c.in_ok-change.ensures.change made;
      room =
          room-more (table_view es) (table_view c.args.to.now) e cs _ o (own-at es i e c.requires c.loop-entry-test.true c.entry-item.is)
          c.in_ok-change.ensures.change c.in_ok-change.ensures.room c.loop-entry.invariant.room made;
    }
