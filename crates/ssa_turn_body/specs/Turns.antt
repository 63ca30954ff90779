-- What a turn leaves.
use Rattle.std.specs.Prelude.{◌≡◌, reverse, map, true}
use Rattle.ssa_model.specs.definitions.Path.{Path}
use Rattle.ssa_typed.specs.Rows.{is_tree}
use Rattle.ssa_typed.specs.declared.node.Node.{Node}
use Rattle.ssa_turn_body.specs.Marks.{marks}
use Rattle.ssa_turn_body.specs.Steps.{StepsFit, StepsLead, step_says}
use Rattle.ssa_turn_body.specs.declared.steps.BodySteps.{BodySteps}

-- the changes lead from one tree to the other, and the steps are then those that lead back, the last first
abbrev pub IsTurned : BodySteps → Node → BodySteps → Node → Type 0
IsTurned r v s w = StepsLead r.steps.items v (reverse s.steps.items) w

-- both say the same, their room left out
abbrev pub SameSteps : BodySteps → BodySteps → Type 0
SameSteps s t = map step_says s.steps.items ≡ map step_says t.steps.items

-- a second turn leaves the tree and the steps as they were
abbrev pub TreeTurnsLeadBack : Type 0
TreeTurnsLeadBack = (s t u : BodySteps) (v w x : Node) → is_tree v ≡ true → StepsFit s.steps.items v → IsTurned s v t w → IsTurned t w u x
    → ((p : Path) → marks x p ≡ marks v p) × SameSteps u s
