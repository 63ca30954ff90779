-- Changes that hold no more than they say: each edit changes something, and only items of a list are exchanged, no more often than there are items.
use Rattle.std.specs.Prelude.{◌≡◌, ◌≤◌, List, [], ◌∷◌, length, Bool, true, false, ◌&&◌}
use Rattle.ssa_path.specs.View.{path_view}
use Rattle.ssa_turn_body.specs.Edits.{is_idle, keeps_places}
use Rattle.ssa_turn_body.specs.Records.{are_some_items}
use Rattle.ssa_turn_body.specs.declared.change.PlaceChange.{PlaceChange}
use Rattle.ssa_turn_body.specs.declared.change.PlaceChange.TheVariants.{Leaf, Children}
use Rattle.ssa_turn_body.specs.declared.children.ChildrenEdit.{ChildrenEdit}
use Rattle.ssa_turn_body.specs.declared.children.Orders.{Orders}
use Rattle.ssa_turn_body.specs.declared.steps.Step.{Step}

-- both orders tell items of a list
abbrev pub are_items_told : Orders → Bool
are_items_told o = are_some_items (path_view o.before.items) && are_some_items (path_view o.after.items)

-- a child goes, comes or is exchanged; where any is exchanged, both orders tell items of a list, and in neither is exchanged more often than it has items
pub record IsLeanEdit (s : ChildrenEdit) : Type 0 where
  pub busy : is_idle s ≡ false
  pub items : keeps_places s ≡ false → are_items_told s.order ≡ true
  pub few_before : length s.before.items ≤ length s.order.before.items
  pub few_after : length s.after.items ≤ length s.order.after.items

abbrev pub IsLean : PlaceChange → Type 0
IsLean (Leaf s) = Unit {0}
IsLean (Children s) = IsLeanEdit s.value

abbrev pub AreLean : List Step → Type 0
AreLean [] = Unit {0}
AreLean (s ∷ ss) = IsLean s.change × AreLean ss
