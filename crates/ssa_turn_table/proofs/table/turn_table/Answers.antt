use Rattle.std.proofs.Common.{◌≤◌, length, map, sym, ap, ◌∙◌, subst, arith, vec_len, vec_capacity}
use Rattle.std.proofs.lemmas.List.{length-map}
use Rattle.ssa_model.specs.definitions.Carry.{carry_table}
use Rattle.ssa_model.specs.definitions.Record.{TableRecord}
use Rattle.ssa_model.specs.definitions.Takes.{TableTakes}
use Rattle.ssa_merge.specs.Managers.{entry_view, table_view}
use Rattle.ssa_turn_table.specs.Changing.{AllHaveRoom, changes_back, led_to}
use Rattle.ssa_turn_table.specs.Going.{AllKeysAgree}
use Rattle.ssa_turn_table.specs.Tables.{keys_view, heres_view, changes_view}
use Rattle.ssa_turn_table.specs.Turning.{table_steps}
use Rattle.ssa_turn_table.proofs.TurnedTables.{gone_told, met_of, coming_of, back_of, many_gone, many_here, few_led}
use Rattle.ssa_turn_table.proofs.table.turn_table.Goals as goal

pub change_table-requires : goal.change_table-requires
change_table-requires c =
    let t = table_view c.args.entries.now.items in
    let d = c.args.delta.now in
    let takes = c.requires.fits in
    let u = carry_table (table_steps d) t in
    (t, (u, met_of d t u takes (table_view c.take_gone.new.entries.items) (c.take_gone.ensures.entries u (gone_told d t u takes)) c.requires.room.sets))

pub insert_here-requires-clause-told : goal.insert_here-requires-clause-told
insert_here-requires-clause-told c =
    let t = table_view c.args.entries.now.items in
    let d = c.args.delta.now in
    let takes = c.requires.fits in
    let u = carry_table (table_steps d) t in
    let taken = c.take_gone.ensures.entries u (gone_told d t u takes) in
    let met = met_of d t u takes (table_view c.take_gone.new.entries.items) taken c.requires.room.sets in
    let stay = c.change_table.ensures.entries t u met ∙ ap (map (led_to u)) taken in
    (u, coming_of d t u takes (table_view c.change_table.new.entries.items) stay, c.requires.room.few)

pub returns-clause-value : goal.returns-clause-value
returns-clause-value c =
    let t = table_view c.args.entries.now.items in
    let d = c.args.delta.now in
    let takes = c.requires.fits in
    let u = carry_table (table_steps d) t in
    let taken = c.take_gone.ensures.entries u (gone_told d t u takes) in
    let met = met_of d t u takes (table_view c.take_gone.new.entries.items) taken c.requires.room.sets in
    let stay = c.change_table.ensures.entries t u met ∙ ap (map (led_to u)) taken in
    c.insert_here.ensures.entries u (coming_of d t u takes (table_view c.change_table.new.entries.items) stay)

pub returns-clause-back : goal.returns-clause-back
returns-clause-back c =
    let t = table_view c.args.entries.now.items in
    let d = c.args.delta.now in
    let takes = c.requires.fits in
    let u = carry_table (table_steps d) t in
    let taken = c.take_gone.ensures.entries u (gone_told d t u takes) in
    let met = met_of d t u takes (table_view c.take_gone.new.entries.items) taken c.requires.room.sets in
    let stay = c.change_table.ensures.entries t u met ∙ ap (map (led_to u)) taken in
    let value = c.insert_here.ensures.entries u (coming_of d t u takes (table_view c.change_table.new.entries.items) stay) in
    let back = back_of d t u takes c.change_table.new.changed.items c.swap.new.x.items c.swap-2.new.x.items
    (c.change_table.ensures.changed t u met ∙ ap (changes_back u) taken)
    (ap (λ v. keys_view v.items) c.swap.ensures.x_after ∙ c.insert_here.ensures.out)
    (ap (λ v. heres_view v.items) c.swap-2.ensures.x_after ∙ c.take_gone.ensures.out u (gone_told d t u takes)) in
    subst (λ v. TableTakes (record {
      changed = changes_view c.change_table.new.changed.items;
      gone = keys_view c.swap.new.x.items;
      here = heres_view c.swap-2.new.x.items;
    }) v t) (sym value) back

pub returns-clause-room : goal.returns-clause-room
returns-clause-room c =
    let t = table_view c.args.entries.now.items in
    let d = c.args.delta.now in
    let takes = c.requires.fits in
    let u = carry_table (table_steps d) t in
    let taken = c.take_gone.ensures.entries u (gone_told d t u takes) in
    let met = met_of d t u takes (table_view c.take_gone.new.entries.items) taken c.requires.room.sets in
    let stay = c.change_table.ensures.entries t u met ∙ ap (map (led_to u)) taken in
    let value = c.insert_here.ensures.entries u (coming_of d t u takes (table_view c.change_table.new.entries.items) stay) in
    let steps : TableRecord = record {
      changed = changes_view c.change_table.new.changed.items;
      gone = keys_view c.swap.new.x.items;
      here = heres_view c.swap-2.new.x.items;
    } in
    let out = c.take_gone.ensures.out u (gone_told d t u takes) in
    let back = back_of d t u takes c.change_table.new.changed.items c.swap.new.x.items c.swap-2.new.x.items
    (c.change_table.ensures.changed t u met ∙ ap (changes_back u) taken)
    (ap (λ v. keys_view v.items) c.swap.ensures.x_after ∙ c.insert_here.ensures.out)
    (ap (λ v. heres_view v.items) c.swap-2.ensures.x_after ∙ out) in
    let long = length-map c.args.entries.now.items entry_view in
    let most = c.are_few.ensures in
    let few = few_led steps u t back (let n : length t ≤ 64 = omega arith in n) in
    let gone = many_gone d t u takes c.take_gone.new.out.items out in
    let here = many_here d.here.items c.insert_here.new.out.items c.insert_here.ensures.out in
    let x = c.swap.ensures.x_after in
    let y = c.swap.ensures.y_after in
    let x2 = c.swap-2.ensures.x_after in
    let y2 = c.swap-2.ensures.y_after in
    record {
      few = subst (λ v. length (carry_table steps v) ≤ 64) (sym value) few;
      sets = subst (λ v. AllHaveRoom v c.change_table.new.changed.items) (sym value) (c.change_table.ensures.room t u met);
      keys = subst (λ v. AllKeysAgree v.items) (sym x2) c.take_gone.ensures.keys;
      gone_empty = ap (λ v. v.items) y ∙ c.take_gone.ensures.empty;
      gone_room = subst (λ (s : Type 0). s) (λ j. vec_len (sym x2 j) ≤ vec_capacity (sym y j))
          (omega (arith, c.take_gone.new.out.ok.0, d.gone.ok.0, d.gone.ok.1, gone, c.take_gone.ensures.room));
      here_empty = ap (λ v. v.items) y2 ∙ c.insert_here.ensures.empty;
      here_room = subst (λ (s : Type 0). s) (λ j. vec_len (sym x j) ≤ vec_capacity (sym y2 j))
          (omega (arith, c.insert_here.new.out.ok.0, d.here.ok.0, d.here.ok.1, here, c.insert_here.ensures.room));
    }
