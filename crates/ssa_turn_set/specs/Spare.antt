-- Room for one element: the element itself.
use Rattle.std.specs.Prelude.{Bool, true, false}
use Rattle.ssa_model.specs.definitions.Path.{Element, same_element}
use Rattle.ssa_path.specs.View.{element_view}
use Rattle.ssa_turn_set.specs.declared.spare.Spare.{Spare}
use Rattle.ssa_turn_set.specs.declared.spare.Spare.TheVariants.{Nothing, Kept}

abbrev pub is_nothing : Spare → Bool
is_nothing Nothing = true
is_nothing (Kept x) = false

-- the room is that of the element
abbrev pub fits : Element → Spare → Bool
fits e Nothing = false
fits e (Kept x) = same_element e (element_view x)
