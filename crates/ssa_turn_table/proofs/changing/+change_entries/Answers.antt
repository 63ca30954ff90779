use Rattle.std.proofs.Common.{◌≡◌, List, ◌∷◌, Bool, true, false, None, refl, ap, sym, ◌∙◌, subst, map, rules}
use Rattle.std.specs.List.{cons_option}
use Rattle.std.specs.Prelude.{option_map}
use Rattle.ssa_model.specs.definitions.Carry.{changed_entry}
use Rattle.ssa_model.specs.definitions.Table.{Entry, Table, owned_by}
use Rattle.ssa_model.specs.definitions.Record.{Change}
use Rattle.ssa_merge.specs.Managers.{key_view, entry_view, table_view}
use Rattle.ssa_turn_set.specs.Turn.{HasRoom}
use Rattle.ssa_turn_table.specs.declared.delta.EntryChange.{EntryChange}
use Rattle.ssa_merge.specs.declared.managers.Entry as merge
use Rattle.ssa_turn_table.specs.Tables.{changes_view}
use Rattle.ssa_turn_table.specs.Changing.{AreChanges, changed_back, change_in, changes_back, is_first, led_to}
use Rattle.ssa_turn_table.proofs.Changes.{IsMet, is_met, is_passed, owned-entry}
use Rattle.ssa_turn_table.proofs.changing.+change_entries.Goals as goal

-- the premise, at the parts of both lists
at_parts : (t u : Table) (es : List merge.Entry) (e : merge.Entry) (rest : List merge.Entry) (cs : List EntryChange) (ds : List EntryChange) → es ≡ e ∷ rest
    → cs ≡ ds
    → AreChanges t u (table_view es) cs → AreChanges t u (entry_view e ∷ table_view rest) ds
at_parts t u es e rest cs ds is same h = subst (AreChanges t u (entry_view e ∷ table_view rest)) same (subst (λ xs. AreChanges t u (table_view xs) cs) is h)

-- the entry that is met, and its change
at_met : (t u : Table) (es : List merge.Entry) (e : merge.Entry) (rest : List merge.Entry) (cs : List EntryChange) (d : EntryChange) (ds : List EntryChange)
    → es ≡ e ∷ rest → cs ≡ d ∷ ds
    → (b : Bool) → b ≡ is_first (changes_view cs) (key_view e.key) → b ≡ true → AreChanges t u (table_view es) cs
    → IsMet t u (entry_view e) (table_view rest) d ds
at_met t u es e rest cs d ds is same b told first h =
    is_met t u (entry_view e) (table_view rest) d ds (at_parts t u es e rest cs (d ∷ ds) is same h)
    (ap (λ xs. is_first (changes_view xs) (key_view e.key)) (sym same) ∙ sym told ∙ first)

-- the entry that is passed
at_passed : (t u : Table) (es : List merge.Entry) (e : merge.Entry) (rest : List merge.Entry) (cs : List EntryChange) → es ≡ e ∷ rest
    → (b : Bool) → b ≡ is_first (changes_view cs) (key_view e.key) → b ≡ false → AreChanges t u (table_view es) cs → (change_in u (entry_view e) ≡ None)
    × AreChanges t u (table_view rest) cs
at_passed t u es e rest cs is b told first h = is_passed t u (entry_view e) (table_view rest) cs (at_parts t u es e rest cs cs is refl h) (sym told ∙ first)

pub turn_entry-requires-clause-fits : goal.turn_entry-requires-clause-fits
turn_entry-requires-clause-fits t c =
    (at_met _ _ _ c.in-Some.entry.now c.in-Some.rest.now _ _ _ c.in-Some.ensures.cases.0 c.in-Some-split_first_mut.ensures.cases.0 _ c.is_first.ensures
    c.if-is_first.true c.requires.1.1).led

pub turn_entry-requires-clause-room : goal.turn_entry-requires-clause-room
turn_entry-requires-clause-room t c =
    (at_met _ _ _ c.in-Some.entry.now c.in-Some.rest.now _ _ _ c.in-Some.ensures.cases.0 c.in-Some-split_first_mut.ensures.cases.0 _ c.is_first.ensures
    c.if-is_first.true c.requires.1.1).room

pub change_entries-requires : goal.change_entries-requires
change_entries-requires t c =
    let m = at_met c.requires.0 c.requires.1.0 _ c.in-Some.entry.now c.in-Some.rest.now _ _ _ c.in-Some.ensures.cases.0
    c.in-Some-split_first_mut.ensures.cases.0 _ c.is_first.ensures c.if-is_first.true c.requires.1.1 in
    (search rules, (c.requires.0, (c.requires.1.0, m.rest)))

pub change_entries-requires-else-is_first : goal.change_entries-requires-else-is_first
change_entries-requires-else-is_first t c =
    let m = at_passed c.requires.0 c.requires.1.0 _ c.in-Some.entry.now c.in-Some.rest.now _ c.in-Some.ensures.cases.0 _ c.is_first.ensures
    c.if-is_first.false c.requires.1.1 in
    (search rules, (c.requires.0, (c.requires.1.0, m.1)))

pub returns-in-Some-split_first_mut-clause-entries : goal.returns-in-Some-split_first_mut-clause-entries
returns-in-Some-split_first_mut-clause-entries t c = λ s u h.
    let m = at_met s u _ c.in-Some.entry.now c.in-Some.rest.now _ _ _ c.in-Some.ensures.cases.0 c.in-Some-split_first_mut.ensures.cases.0 _ c.is_first.ensures
    c.if-is_first.true h in
    (λ i. (c.turn_entry.ensures.entry ∙ ap (λ o. changed_entry o (entry_view c.in-Some.entry.now)) (sym m.change)) i
    ∷ c.change_entries.ensures.entries s u m.rest i)
    ∙ ap (λ es. map (led_to u) (table_view es)) (sym c.in-Some.ensures.cases.0)

pub returns-in-Some-split_first_mut-clause-changed : goal.returns-in-Some-split_first_mut-clause-changed
returns-in-Some-split_first_mut-clause-changed t c = λ s u h.
    let m = at_met s u _ c.in-Some.entry.now c.in-Some.rest.now _ _ _ c.in-Some.ensures.cases.0 c.in-Some-split_first_mut.ensures.cases.0 _ c.is_first.ensures
    c.if-is_first.true h in
    (λ i. c.turn_entry.ensures.change i ∷ c.change_entries.ensures.changed s u m.rest i)
    ∙ sym (ap (λ o. cons_option (option_map (changed_back c.in-Some.entry.now.at) o) (changes_back u (table_view c.in-Some.rest.now))) m.change)
    ∙ ap (λ es. changes_back u (table_view es)) (sym c.in-Some.ensures.cases.0)

pub returns-in-Some-split_first_mut-clause-room : goal.returns-in-Some-split_first_mut-clause-room
returns-in-Some-split_first_mut-clause-room t c = λ s u h.
    let m = at_met s u _ c.in-Some.entry.now c.in-Some.rest.now _ _ _ c.in-Some.ensures.cases.0 c.in-Some-split_first_mut.ensures.cases.0 _ c.is_first.ensures
    c.if-is_first.true h in
    let owned = ap (λ (e : Entry). e.owned) c.turn_entry.ensures.entry ∙ m.leads in
    let key = ap (λ (d : Change). d.manager) c.turn_entry.ensures.change ∙ m.key in (
      subst (HasRoom c.turn_entry.new.change.set) (owned ∙ sym (ap (owned_by u) key ∙ owned-entry u (key_view c.in-Some.entry.now.key) m.to m.there))
          c.turn_entry.ensures.room,
      c.change_entries.ensures.room s u m.rest,
    )

pub returns-else-is_first-clause-entries : goal.returns-else-is_first-clause-entries
returns-else-is_first-clause-entries t c = λ s u h.
    let m = at_passed s u _ c.in-Some.entry.now c.in-Some.rest.now _ c.in-Some.ensures.cases.0 _ c.is_first.ensures c.if-is_first.false h in
    (λ i. changed_entry (sym m.0 i) (entry_view c.in-Some.entry.now) ∷ c.change_entries-else-is_first.ensures.entries s u m.1 i)
    ∙ ap (λ es. map (led_to u) (table_view es)) (sym c.in-Some.ensures.cases.0)

pub returns-else-is_first-clause-changed : goal.returns-else-is_first-clause-changed
returns-else-is_first-clause-changed t c = λ s u h.
    let m = at_passed s u _ c.in-Some.entry.now c.in-Some.rest.now _ c.in-Some.ensures.cases.0 _ c.is_first.ensures c.if-is_first.false h in
    c.change_entries-else-is_first.ensures.changed s u m.1
    ∙ sym (ap (λ o. cons_option (option_map (changed_back c.in-Some.entry.now.at) o) (changes_back u (table_view c.in-Some.rest.now))) m.0)
    ∙ ap (λ es. changes_back u (table_view es)) (sym c.in-Some.ensures.cases.0)

pub returns-else-is_first-clause-room : goal.returns-else-is_first-clause-room
returns-else-is_first-clause-room t c = λ s u h.
    let m = at_passed s u _ c.in-Some.entry.now c.in-Some.rest.now _ c.in-Some.ensures.cases.0 _ c.is_first.ensures c.if-is_first.false h in
    c.change_entries-else-is_first.ensures.room s u m.1
