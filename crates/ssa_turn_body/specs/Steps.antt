-- Changes that are made one after the other.
use Rattle.std.specs.Prelude.{◌≡◌, List, [], ◌∷◌}
use Rattle.ssa_model.specs.definitions.Path.{Path}
use Rattle.ssa_path.specs.View.{path_view}
use Rattle.ssa_typed.specs.declared.node.Node.{Node}
use Rattle.ssa_turn_body.specs.Changes.{ChangeFits, ChangeGives, ChangeSteps, change_steps}
use Rattle.ssa_typed.specs.Nodes.{node_on}
use Rattle.ssa_turn_body.specs.Descent.{FitsIn, IsChange}
use Rattle.ssa_turn_body.specs.Marks.{seen}
use Rattle.ssa_turn_body.specs.declared.steps.Step.{Step}

-- there is a place at the path, which the change fits
abbrev pub StepFits : Step → Node → Type 0
StepFits s v = FitsIn (λ n. ChangeFits s.change (seen n)) (node_on (path_view s.path.items) v)

-- one change leads from one tree to the other, and becomes the second change
pub record StepLeads (s : Step) (v : Node) (t : Step) (w : Node) : Type 0 where
  pub path : t.path.items ≡ s.path.items
  pub change : IsChange (λ n m. ChangeGives s.change (seen n) t.change (seen m)) (path_view s.path.items) v w

-- each change fits what the ones before it leave
abbrev pub StepsFit : List Step → Node → Type 0
StepsFit [] v = Unit {0}
StepsFit (s ∷ ss) v = StepFits s v × ((t : Step) (w : Node) → StepLeads s v t w → StepsFit ss w)

abbrev pub StepsLead : List Step → Node → List Step → Node → Type 0
StepsLead [] v [] w = w ≡ v
StepsLead [] v (t ∷ ts) w = ⊥
StepsLead (s ∷ ss) v [] w = ⊥
StepsLead (s ∷ ss) v (t ∷ ts) w = (m : Node) × StepLeads s v t m × StepsLead ss m ts w

-- what a change at a path says, its room left out
abbrev pub step_says : Step → Path × ChangeSteps
step_says s = (path_view s.path.items, change_steps s.change)
