use Rattle.std.proofs.Common.{◌≡◌, ◌++◌, drop, map}
use Rattle.ssa_json.specs.View.{items_view}
use Rattle.ssa_schema.specs.Kinds.{names_view}
use Rattle.ssa_schema.specs.Repeats.{row_view, item_rows}
use Rattle.ssa_schema.proofs.fit.leading.item_keys.Given as goal

-- with those of the items that are left
abbrev pub invariant-loop-item : goal.invariant-loop-item
invariant-loop-item l = map row_view l.keys.items ++ item_rows (names_view l.names) (items_view (drop l.item-index l.items))
    ≡ item_rows (names_view l.names) (items_view l.items)
