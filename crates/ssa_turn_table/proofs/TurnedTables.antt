-- What a table is after each part of a turn, by the record of the two tables.
use Rattle.std.proofs.Common.{◌≡◌, List, [], ◌∷◌, length, Bool, true, false, not, map, Option, Some, None, option_map, ◌≤◌, refl, ap, sym, subst, cond, ◌∙◌}
use Rattle.std.proofs.Math.Bool.{not-not}
use Rattle.std.proofs.lemmas.List.{length-map}
use Rattle.std.specs.List.{cons_option}
use Rattle.std.specs.Prelude.{filter, filter_map}
use Rattle.ssa_model.specs.definitions.Table.{Entry, Table, is_in_table, entry_of, owned_by}
use Rattle.ssa_model.specs.definitions.Valid.{AllEntries, has_distinct_keys}
use Rattle.ssa_model.specs.definitions.Record.{Change, TableRecord, change_of, changes, gone_from, new_in}
use Rattle.ssa_model.specs.definitions.Takes.{TableTakes, moment_or, turned_change}
use Rattle.ssa_model.specs.laws.InPlace.{StayersAreLed}
use Rattle.ssa_model.specs.laws.RecordTurns.{TableTurns}
use Rattle.ssa_model.proofs.ManagerEntries.{entry-absent, entry-own}
use Rattle.ssa_model.proofs.Stayers.{stayers_are_led}
use Rattle.ssa_model.proofs.Tables.{distinct-filter}
use Rattle.ssa_model.proofs.Tests.{by_test, filter-kept, filter-dropped}
use Rattle.ssa_turn_table.specs.Changing.{AllHaveRoom, AreChanges, change_in, changed_back, changes_back, led_to}
use Rattle.ssa_turn_table.specs.declared.delta.EntryChange.{EntryChange}
use Rattle.ssa_merge.specs.Managers.{key_view}
use Rattle.ssa_merge.specs.declared.manager.ManagerKey.{ManagerKey as Key}
use Rattle.ssa_model.specs.definitions.Carry.{carry_table}
use Rattle.ssa_model.proofs.RecordTakes.{table_laws}
use Rattle.ssa_turn_table.specs.declared.delta.Here.{Here}
use Rattle.ssa_turn_table.specs.Tables.{changes_view, keys_view, here_view, heres_view}
use Rattle.ssa_turn_table.specs.Turning.{table_steps}
use Rattle.ssa_turn_table.specs.declared.delta.TableDelta.{TableDelta}
use Rattle.ssa_model.proofs.RecordTurns.{table_turns}
use Rattle.ssa_turn_table.specs.Coming.{AreComing}
use Rattle.ssa_turn_table.specs.Going.{is_in}
use Rattle.ssa_turn_table.proofs.Changes.{change-manager, owned-entry}

-- ---- filters

-- what gives nothing may be left out
without-none : {Y : Type 0} (f : Entry → Option Y) (q : Entry → Bool) (es : Table) → ((e : Entry) → q e ≡ false → f e ≡ None)
    → filter_map f (filter q es) ≡ filter_map f es
without-none f q [] h = refl
without-none f q (e ∷ es) h =
    let rest = without-none f q es h in
    by_test (q e)
    (λ t. ap (filter_map f) (filter-kept q e es t) ∙ ap (cons_option (f e)) rest)
    (λ off. ap (filter_map f) (filter-dropped q e es off) ∙ rest ∙ ap (λ o. cons_option o (filter_map f es)) (sym (h e off)))

-- what holds of all entries holds of those that pass
all-filter : (P : Entry → Type 0) (q : Entry → Bool) (es : Table) → AllEntries P es → AllEntries P (filter q es)
all-filter P q [] h = tt
all-filter P q (e ∷ es) h =
    let rest = all-filter P q es h.1 in
    elim (q e) as (λ b. AllEntries P (cond b (e ∷ filter q es) (filter q es))) [ true ↦ (h.0, rest) | false ↦ rest ]

-- ---- those who stay

-- an entry of no manager of the other table has no change
none-in : (u : Table) (e : Entry) → is_in u e ≡ false → change_in u e ≡ None
none-in u e off = ap (change_of e) (entry-absent u e.manager off)

-- the changes are those of the entries that stay
pub changes_stay : (t u : Table) → changes (filter (is_in u) t) u ≡ changes t u
changes_stay t u = without-none (change_in u) (is_in u) t (none-in u)

-- each entry that stays owns what its manager owns in the whole table
pub own_sets : (t u : Table) → has_distinct_keys t ≡ true → AllEntries (λ e. owned_by t e.manager ≡ e.owned) (filter (is_in u) t)
own_sets t u distinct = all-filter (λ e. owned_by t e.manager ≡ e.owned) (is_in u) t (each t (entry-own t distinct))
  where
    each : (es : Table) → AllEntries (λ e. entry_of t e.manager ≡ Some e) es → AllEntries (λ e. owned_by t e.manager ≡ e.owned) es
    each [] h = tt
    each (e ∷ es) h = (owned-entry t e.manager e h.0, each es h.1)

-- the managers of the entries that stay are distinct
pub distinct_stay : (t u : Table) → has_distinct_keys t ≡ true → has_distinct_keys (filter (is_in u) t) ≡ true
distinct_stay t u h = distinct-filter (is_in u) t h

-- the changes of a table are those of the entries that stay
pub are_changes : (t u : Table) (cs : List EntryChange) → has_distinct_keys t ≡ true → changes_view cs ≡ changes t u → AllHaveRoom t cs
    → AreChanges t u (filter (is_in u) t) cs
are_changes t u cs distinct told room = record {
  distinct = distinct_stay t u distinct;
  own = own_sets t u distinct;
  told = told ∙ sym (changes_stay t u);
  room = room;
}

-- ---- the changes of the way back

-- a change of an entry, turned by the entry alone, is turned by its table
back-of : (t u : Table) (e : Entry) (d : Change) → entry_of t e.manager ≡ Some e → change_in u e ≡ Some d → changed_back e.moment d ≡ turned_change t d
back-of t u e d own h =
    let found : entry_of t d.manager ≡ Some e = ap (entry_of t) (change-manager u e d h) ∙ own in
    λ i. record { manager = d.manager; gain = d.lose; lose = d.gain; moment = option_map (λ at. moment_or at (sym found i)) d.moment }

back-along : (t u : Table) (es : Table) → AllEntries (λ e. entry_of t e.manager ≡ Some e) es → changes_back u es ≡ map (turned_change t) (changes es u)
back-along t u [] h = refl
back-along t u (e ∷ es) h =
    let rest = back-along t u es h.1 in
    elim (change_in u e) as (λ o. change_in u e ≡ o → cons_option (option_map (changed_back e.moment) o) (changes_back u es)
    ≡ map (turned_change t) (cons_option o (changes es u))) [
      | None ↦ λ q. rest
      | Some d ↦ λ q i. back-of t u e d h.0 q i ∷ rest i
    ] refl

module _ (turns : TableTurns) (led : StayersAreLed) (d : TableRecord) (t u : Table) (takes : TableTakes d t u) where
  -- the changes that the entries that stay leave are those of the way back
  pub changes_turn : changes_back u (filter (is_in u) t) ≡ changes u t
  changes_turn =
      without-none (λ e. option_map (changed_back e.moment) (change_in u e)) (is_in u) t (λ e off. ap (option_map (changed_back e.moment)) (none-in u e off))
      ∙ back-along t u t (entry-own t takes.from)
      ∙ sym (ap (λ (r : TableRecord). r.changed) (turns t u takes.from takes.to takes.order))

  -- those who come stand with those who stay, changed, in the second table
  pub are_coming : AreComing u (map (led_to u) (filter (is_in u) t)) d.here
  are_coming = record {
    comes = λ e. not (is_in_table t e.manager);
    told = ap (λ (r : TableRecord). r.here) takes.is;
    stand = led t u takes.from takes.to takes.order ∙ (λ i. filter (λ e. sym (not-not (is_in_table t e.manager)) i) u);
  }

  -- those who are here on the way back are as many as those who are gone
  pub here_turn : length (new_in u t) ≡ length (gone_from t u)
  here_turn =
      sym (ap (λ (r : TableRecord). length r.gone) (turns u t takes.to takes.from (sym takes.order)) ∙ length-map (new_in u t) (λ h. h.1.manager))

  -- those who were here are gone
  pub gone_turn : map (λ h. h.1.manager) d.here ≡ gone_from u t
  gone_turn =
      ap (λ (r : TableRecord). map (λ h. h.1.manager) r.here) takes.is
      ∙ sym (ap (λ (r : TableRecord). r.gone) (turns t u takes.from takes.to takes.order))

-- ---- the turn

module _ (d : TableDelta) (t u : Table) (takes : TableTakes (table_steps d) t u) where
  -- the managers that the record tells as gone are those of the first table that the second has not
  pub gone_told : keys_view d.gone.items ≡ gone_from t u
  gone_told = ap (λ (r : TableRecord). r.gone) takes.is

  -- the changes are those of the entries that are left
  pub met_of : (es : Table) → es ≡ filter (is_in u) t → AllHaveRoom t d.changed.items → AreChanges t u es d.changed.items
  met_of es left room =
      subst (λ xs. AreChanges t u xs d.changed.items) (sym left)
      (are_changes t u d.changed.items takes.from (ap (λ (r : TableRecord). r.changed) takes.is) room)

  -- those who come stand with those who stay in the second table
  pub coming_of : (es : Table) → es ≡ map (led_to u) (filter (is_in u) t) → AreComing u es (heres_view d.here.items)
  coming_of es stay = subst (λ xs. AreComing u xs (heres_view d.here.items)) (sym stay) (are_coming table_turns stayers_are_led (table_steps d) t u takes)

  -- what is left of the turn says the way back
  pub back_of : (changed : List EntryChange) (gone : List Key) (here : List Here) → changes_view changed ≡ changes_back u (filter (is_in u) t)
      → keys_view gone ≡ map (λ h. h.1.manager) (heres_view d.here.items) → heres_view here ≡ new_in u t
      → TableTakes (record { changed = changes_view changed; gone = keys_view gone; here = heres_view here }) u t
  back_of changed gone here is_changed is_gone is_here =
      let all_changed = is_changed ∙ changes_turn table_turns stayers_are_led (table_steps d) t u takes in
      let all_gone = is_gone ∙ gone_turn table_turns stayers_are_led (table_steps d) t u takes in
      record {
        from = takes.to;
        to = takes.from;
        order = sym takes.order;
        is = λ i. record { changed = all_changed i; gone = all_gone i; here = is_here i };
      }

  -- those who are taken out are as many as those who are gone
  pub many_gone : (here : List Here) → heres_view here ≡ new_in u t → length here ≡ length d.gone.items
  many_gone here is =
      sym (length-map here here_view) ∙ ap (λ xs. length xs) is ∙ here_turn table_turns stayers_are_led (table_steps d) t u takes
      ∙ sym (ap (λ xs. length xs) gone_told) ∙ length-map d.gone.items key_view

-- who are put in are as many as their managers
pub many_here : (here : List Here) (gone : List Key) → keys_view gone ≡ map (λ h. h.1.manager) (heres_view here) → length gone ≡ length here
many_here here gone is =
    sym (length-map gone key_view) ∙ ap (λ xs. length xs) is ∙ length-map (heres_view here) (λ h. h.1.manager) ∙ length-map here here_view

-- a record leads to no more than the table that it leads to
pub few_led : (d : TableRecord) (t u : Table) → TableTakes d t u → length u ≤ 64 → length (carry_table d t) ≤ 64
few_led d t u takes few = subst (λ v. length v ≤ 64) (sym (table_laws d t u takes).0) few
