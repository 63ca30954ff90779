use Rattle.std.proofs.Common.{◌≡◌, ◌++◌, drop, map}
use Rattle.ssa_json.specs.View.{items_view}
use Rattle.ssa_schema.specs.Kinds.{scalar_kind_view}
use Rattle.ssa_schema.specs.Repeats.{row_view, value_rows}
use Rattle.ssa_schema.proofs.fit.leading.value_keys.Given as goal

-- with those of the items that are left
abbrev pub invariant-loop-item : goal.invariant-loop-item
invariant-loop-item l = map row_view l.keys.items ++ value_rows (scalar_kind_view l.wanted) (items_view (drop l.item-index l.items))
    ≡ value_rows (scalar_kind_view l.wanted) (items_view l.items)
