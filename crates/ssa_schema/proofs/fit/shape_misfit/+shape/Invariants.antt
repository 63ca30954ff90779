use Rattle.std.proofs.Common.{◌≡◌, drop}
use Rattle.ssa_model.specs.definitions.Path.{Path}
use Rattle.ssa_model.specs.definitions.Kind.{shape_field_faults, shape_entry_faults, shape_item_faults}
use Rattle.ssa_json.specs.View.{items_view, members_view}
use Rattle.ssa_schema.specs.Kinds.{shape_view, shape_fields_view}
use Rattle.ssa_schema.specs.Refusals.{first_of}
use Rattle.ssa_schema.proofs.fit.shape_misfit.+shape.Given as goal

-- in each loop, what is left decides
abbrev pub invariant-fields_misfit-loop-name : goal.invariant-fields_misfit-loop-name
invariant-fields_misfit-loop-name l =
    (p : Path) → first_of (shape_field_faults (shape_fields_view l.fields.entries) (members_view l.members.entries) p)
    ≡ first_of (shape_field_faults (shape_fields_view l.fields.entries) (members_view (drop l.name-index l.name-items)) p)

abbrev pub invariant-entries_misfit-loop-member : goal.invariant-entries_misfit-loop-member
invariant-entries_misfit-loop-member l =
    (p : Path) → first_of (shape_entry_faults (shape_view l.inside) (members_view l.members.entries) p)
    ≡ first_of (shape_entry_faults (shape_view l.inside) (members_view (drop l.member-index l.member-items)) p)

abbrev pub invariant-items_misfit-loop-item : goal.invariant-items_misfit-loop-item
invariant-items_misfit-loop-item l =
    (p : Path) → first_of (shape_item_faults (shape_view l.inside) (items_view l.items) p)
    ≡ first_of (shape_item_faults (shape_view l.inside) (items_view (drop l.item-index l.items)) p)
