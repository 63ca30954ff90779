-- What changes have to be so that they can be written as values: what they hold is made of trees, and each place is a small number.
use Rattle.std.specs.Prelude.{◌≡◌, ◌^◌, List, [], ◌∷◌, length, true}
use Rattle.ssa_typed.specs.Rows.{are_trees}
use Rattle.ssa_turn_body.specs.Found.{AreBelow}
use Rattle.ssa_turn_body.specs.declared.change.PlaceChange.{PlaceChange}
use Rattle.ssa_turn_body.specs.declared.change.PlaceChange.TheVariants.{Leaf, Children}
use Rattle.ssa_turn_body.specs.declared.children.ChildrenEdit.{ChildrenEdit}
use Rattle.ssa_turn_body.specs.declared.steps.Step.{Step}

-- what comes is made of trees, each with its place
pub record IsWritableEdit (s : ChildrenEdit) : Type 0 where
  pub trees : are_trees s.held.items ≡ true
  pub each : length s.held.items ≡ length s.come.places.items
  pub small : AreBelow (2 ^ 63) s.come.places.items

abbrev pub IsWritable : PlaceChange → Type 0
IsWritable (Leaf s) = Unit {0}
IsWritable (Children s) = IsWritableEdit s.value

abbrev pub AreWritable : List Step → Type 0
AreWritable [] = Unit {0}
AreWritable (s ∷ ss) = IsWritable s.change × AreWritable ss
