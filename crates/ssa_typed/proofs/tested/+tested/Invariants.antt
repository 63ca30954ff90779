use Rattle.std.specs.Vec.Iter.{into_iter_items}
use Rattle.ssa_model.specs.definitions.Kind.{entry_faults, field_faults}
use Rattle.ssa_model.specs.definitions.Body.{field_places, entry_places}
use Rattle.ssa_json.specs.View.{members_view}
use Rattle.ssa_schema.specs.Kinds.{kind_view, fields_view, names_view}
use Rattle.ssa_typed.proofs.Testing.{IsTesting}
use Rattle.ssa_typed.proofs.TestingItems.{IsTestingItems}
use Rattle.ssa_typed.proofs.tested.+tested.Given as goal

-- the fields so far, and the members that are left
abbrev pub invariant-tested_fields-loop-name : goal.invariant-tested_fields-loop-name
invariant-tested_fields-loop-name l =
    IsTesting (λ es. field_faults (fields_view l.fields.entries) (members_view es)) (λ es. field_places (fields_view l.fields.entries) (members_view es))
    l.fn.members.entries (into_iter_items l.name-iterator) l.children.items

-- the entries so far, and the members that are left
abbrev pub invariant-tested_entries-loop-name : goal.invariant-tested_entries-loop-name
invariant-tested_entries-loop-name l =
    IsTesting (λ es. entry_faults (kind_view l.inside) (members_view es)) (λ es. entry_places (kind_view l.inside) (members_view es))
    l.fn.members.entries (into_iter_items l.name-iterator) l.children.items

-- the items so far, and those that are left
abbrev pub invariant-tested_items-loop-item : goal.invariant-tested_items-loop-item
invariant-tested_items-loop-item l =
    IsTestingItems (names_view l.keys) (fields_view l.fields.entries) l.fn.items.items (into_iter_items l.item-iterator) l.place l.repeated l.children.items
