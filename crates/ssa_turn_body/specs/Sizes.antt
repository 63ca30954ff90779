-- How much changes say.
use Rattle.std.specs.Prelude.{ℕ, ◌+◌, List, length}
use Rattle.std.specs.List.{sum_by}
use Rattle.ssa_path.specs.View.{path_view}
use Rattle.ssa_typed.specs.Rows.{rows}
use Rattle.ssa_turn_body.specs.Edits.{named_in}
use Rattle.ssa_turn_body.specs.Marks.{Child}
use Rattle.ssa_turn_body.specs.Records.{told_order}
use Rattle.ssa_turn_body.specs.declared.change.PlaceChange.{PlaceChange}
use Rattle.ssa_turn_body.specs.declared.change.PlaceChange.TheVariants.{Leaf, Children}
use Rattle.ssa_turn_body.specs.declared.children.ChildrenEdit.{ChildrenEdit}
use Rattle.ssa_turn_body.specs.declared.children.Orders.{Orders}
use Rattle.ssa_turn_body.specs.declared.steps.Step.{Step}

-- the places of the trees
abbrev pub trees_size : List Child → ℕ
trees_size hs = sum_by (λ h. length (rows h.1)) hs

-- the items that are told in their order
abbrev pub order_size : Orders → ℕ
order_size o = sum_by (λ e. length e.1) (told_order (path_view o.before.items) (path_view o.after.items))

-- the children that go, the items in their order, and the places of what comes
abbrev pub edit_size : ChildrenEdit → ℕ
edit_size s = length (named_in s.gone) + (order_size s.order + trees_size s.held.items)

abbrev pub change_size : PlaceChange → ℕ
change_size (Leaf s) = 1
change_size (Children s) = edit_size s.value

abbrev pub steps_size : List Step → ℕ
steps_size ss = sum_by (λ s. change_size s.change) ss
