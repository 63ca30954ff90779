-- What a change of one place needs and does, of any sort.
use Rattle.ssa_model.specs.definitions.Body.{Content}
use Rattle.ssa_turn_body.specs.Marks.{Place}
use Rattle.ssa_turn_body.specs.Edits.{EditSteps, edit_steps, leaf_steps, LeafFits, LeafGives, EditFits, EditGives}
use Rattle.ssa_turn_body.specs.declared.change.PlaceChange.{PlaceChange}
use Rattle.ssa_turn_body.specs.declared.change.PlaceChange.TheVariants.{Leaf, Children}

abbrev pub ChangeFits : PlaceChange → Place → Type 0
ChangeFits (Leaf s) v = LeafFits s v
ChangeFits (Children s) v = EditFits s.value v

abbrev pub ChangeGives : PlaceChange → Place → PlaceChange → Place → Type 0
ChangeGives (Leaf s) v (Leaf t) w = LeafGives s v t w
ChangeGives (Children s) v (Children t) w = EditGives s.value v t.value w
ChangeGives _ v _ w = ⊥

-- what a change says, its room left out
pub data ChangeSteps : Type 0 where
  leaf_change : Content → ChangeSteps
  children_change : EditSteps → ChangeSteps

abbrev pub change_steps : PlaceChange → ChangeSteps
change_steps (Leaf s) = leaf_change (leaf_steps s)
change_steps (Children s) = children_change (edit_steps s.value)
