use Rattle.std.proofs.Common.{◌≡◌, ◌≤◌, length, drop}
use Rattle.ssa_json.specs.View.{items_view}
use Rattle.ssa_schema.specs.Kinds.{names_view}
use Rattle.ssa_schema.specs.Builds.{sorted_items}
use Rattle.ssa_schema.proofs.read.key_names.sorted_items.Given as goal

-- the items from here on are sorted
abbrev pub invariant-loop-left : goal.invariant-loop-left
invariant-loop-left l = record {
  within : l.left ≤ length l.items;
  sorted : names_view l.found.keys ≡ sorted_items (items_view (drop l.left l.items));
}

abbrev pub decreases-loop-left : goal.decreases-loop-left
decreases-loop-left l = l.left
