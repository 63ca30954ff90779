use Rattle.std.proofs.Common.{◌≡◌, length, map, sym, ap, ◌∙◌, subst}
use Rattle.ssa_merge.specs.Managers.{table_view}
use Rattle.ssa_turn_table.specs.Changing.{AllHaveRoom, AreChanges, changes_back, led_to}
use Rattle.ssa_turn_table.specs.Tables.{changes_view}
use Rattle.ssa_turn_table.proofs.Refilled.{refilled-whole}
use Rattle.ssa_turn_table.proofs.table.change_table.Goals as goal

pub returns-clause-entries : goal.returns-clause-entries
returns-clause-entries c = λ t u h.
    let same : length c.change_entries.new.entries ≡ length c.args.entries.now.items = c.change_entries.auto.entries
    ∙ ap (λ xs. length xs) c.deref_mut.ensures.value in
    let met = subst (λ (s : Type 0). s) (λ j. AreChanges t u (table_view (sym c.deref_mut.ensures.value j)) (sym c.deref_mut-2.ensures.value j)) h in
    ap table_view (refilled-whole (length c.args.entries.now.items) c.args.entries.now.items c.change_entries.new.entries (sym same) same)
    ∙ c.change_entries.ensures.entries t u met
    ∙ (λ j. map (led_to u) (table_view (c.deref_mut.ensures.value j)))

pub returns-clause-changed : goal.returns-clause-changed
returns-clause-changed c = λ t u h.
    let same : length c.change_entries.new.changed ≡ length c.args.changed.now.items = c.change_entries.auto.changed
    ∙ ap (λ xs. length xs) c.deref_mut-2.ensures.value in
    let met = subst (λ (s : Type 0). s) (λ j. AreChanges t u (table_view (sym c.deref_mut.ensures.value j)) (sym c.deref_mut-2.ensures.value j)) h in
    ap changes_view (refilled-whole c.args.changed.now.len c.args.changed.now.items c.change_entries.new.changed (c.args.changed.now.ok.0 ∙ sym same) same)
    ∙ c.change_entries.ensures.changed t u met
    ∙ (λ j. changes_back u (table_view (c.deref_mut.ensures.value j)))

pub returns-clause-room : goal.returns-clause-room
returns-clause-room c = λ t u h.
    let same : length c.change_entries.new.changed ≡ length c.args.changed.now.items = c.change_entries.auto.changed
    ∙ ap (λ xs. length xs) c.deref_mut-2.ensures.value in
    let met = subst (λ (s : Type 0). s) (λ j. AreChanges t u (table_view (sym c.deref_mut.ensures.value j)) (sym c.deref_mut-2.ensures.value j)) h in
    subst (AllHaveRoom u) (sym (refilled-whole c.args.changed.now.len c.args.changed.now.items c.change_entries.new.changed (c.args.changed.now.ok.0
    ∙ sym same) same))
    (c.change_entries.ensures.room t u met)
