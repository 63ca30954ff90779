use Rattle.std.proofs.Common.{map, not, ◌&&◌, ap, ◌∙◌}
use Rattle.std.specs.Prelude.{filter}
use Rattle.ssa_model.specs.definitions.Carry.{is_key_among}
use Rattle.ssa_merge.specs.Managers.{table_view}
use Rattle.ssa_record.specs.TableTests.{changed_keys, has_change, managers, same_keys}
use Rattle.ssa_told.specs.Told.{told_change, told_table}
use Rattle.ssa_record.proofs.FittingEntries.{not-so, off-refused, test-is}
use Rattle.ssa_record.proofs.FittingLists.{changed-decides, lists-decides, same_keys-decides}
use Rattle.ssa_turn_table.specs.Tables.{keys_view}
use Rattle.ssa_record.proofs.fitting_lists.do_lists_fit.Goals as goal

pub returns-then-are_changed : goal.returns-then-are_changed
returns-then-are_changed c =
    let d = told_table c.args.told.now in
    let t = table_view c.args.entries.now in
    let gone = test-is c.are_gone.result (same_keys d.gone (filter (is_key_among d.gone) (managers t)))
    (c.are_gone.ensures
    ∙ (λ i. same_keys (keys_view (c.deref.ensures.value i)) (filter (is_key_among (keys_view (c.deref-2.ensures.value i))) (managers t))))
    (same_keys-decides d.gone (filter (is_key_among d.gone) (managers t))) in
    let changed = changed-decides d t c.requires.distinct c.are_changed.result
    (c.are_changed.ensures
    ∙ ap (λ cs. same_keys (changed_keys (map told_change cs)) (filter (λ k. not (is_key_among d.gone k) && has_change d.changed k) (managers t)))
    c.deref-then-are_gone.ensures.value) in
    lists-decides d t c.do_heres_stand.result (gone.0 c.if-are_gone.true) (changed.0 c.if-are_changed.true) c.do_heres_stand.ensures

pub returns-else-are_changed : goal.returns-else-are_changed
returns-else-are_changed c =
    let d = told_table c.args.told.now in
    let t = table_view c.args.entries.now in
    let changed = changed-decides d t c.requires.distinct c.are_changed.result
    (c.are_changed.ensures
    ∙ ap (λ cs. same_keys (changed_keys (map told_change cs)) (filter (λ k. not (is_key_among d.gone k) && has_change d.changed k) (managers t)))
    c.deref-then-are_gone.ensures.value) in
    off-refused c.are_changed.result c.if-are_changed.false (λ f. not-so c.are_changed.result changed c.if-are_changed.false f.changed)

pub returns-else-are_gone : goal.returns-else-are_gone
returns-else-are_gone c =
    let d = told_table c.args.told.now in
    let t = table_view c.args.entries.now in
    let gone = test-is c.are_gone.result (same_keys d.gone (filter (is_key_among d.gone) (managers t)))
    (c.are_gone.ensures
    ∙ (λ i. same_keys (keys_view (c.deref.ensures.value i)) (filter (is_key_among (keys_view (c.deref-2.ensures.value i))) (managers t))))
    (same_keys-decides d.gone (filter (is_key_among d.gone) (managers t))) in
    off-refused c.are_gone.result c.if-are_gone.false (λ f. not-so c.are_gone.result gone c.if-are_gone.false f.gone)
