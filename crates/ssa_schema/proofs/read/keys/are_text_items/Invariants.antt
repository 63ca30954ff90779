use Rattle.std.proofs.Common.{◌≡◌, drop}
use Rattle.ssa_json.specs.View.{items_view}
use Rattle.ssa_schema.specs.Words.{are_text_items}
use Rattle.ssa_schema.proofs.read.keys.are_text_items.Given as goal

-- what is left decides
abbrev pub invariant-loop-item : goal.invariant-loop-item
invariant-loop-item l = are_text_items (items_view l.items) ≡ are_text_items (items_view (drop l.item-index l.items))
