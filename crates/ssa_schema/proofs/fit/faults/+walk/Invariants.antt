use Rattle.std.proofs.Common.{◌≡◌, List, [], drop}
use Rattle.ssa_model.specs.definitions.Path.{Path, Element, same_element}
use Rattle.ssa_model.specs.definitions.Kind.{field_faults, entry_faults, item_faults}
use Rattle.ssa_json.specs.View.{items_view, members_view}
use Rattle.ssa_schema.specs.Kinds.{kind_view, fields_view, names_view}
use Rattle.ssa_schema.specs.Refusals.{first_of}
use Rattle.ssa_schema.specs.Repeats.{repeat_from, leading_keys}
use Rattle.ssa_schema.proofs.fit.faults.+walk.Given as goal

-- in each loop, what is left decides
abbrev pub invariant-fields_fault-loop-name : goal.invariant-fields_fault-loop-name
invariant-fields_fault-loop-name l =
    (p : Path) → first_of (field_faults (fields_view l.fields.entries) (members_view l.members.entries) p)
    ≡ first_of (field_faults (fields_view l.fields.entries) (members_view (drop l.name-index l.name-items)) p)

abbrev pub invariant-entries_fault-loop-name : goal.invariant-entries_fault-loop-name
invariant-entries_fault-loop-name l =
    (p : Path) → first_of (entry_faults (kind_view l.inside) (members_view l.members.entries) p)
    ≡ first_of (entry_faults (kind_view l.inside) (members_view (drop l.name-index l.name-items)) p)

-- and what repeats is looked for behind the items before
abbrev pub invariant-items_fault-loop-i : goal.invariant-items_fault-loop-i
invariant-items_fault-loop-i l = record {
  before : List Element;
  known : repeat_from same_element l.i before (leading_keys (names_view l.keys) (items_view (drop l.i l.items))) ≡ l.repeated;
  left : (p : Path) → first_of (item_faults (names_view l.keys) (fields_view l.fields.entries) [] (items_view l.items) p)
      ≡ first_of (item_faults (names_view l.keys) (fields_view l.fields.entries) before (items_view (drop l.i l.items)) p);
}
