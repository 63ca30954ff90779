-- What the turn of a body needs and does.
use Rattle.std.specs.Prelude.{◌≡◌, true}
use Rattle.ssa_model.specs.definitions.Body.{Body}
use Rattle.ssa_model.specs.definitions.Valid.{IsRooted}
use Rattle.ssa_typed.specs.Rows.{body_of, is_tree}
use Rattle.ssa_typed.specs.declared.node.Node.{Node}
use Rattle.ssa_turn_body.specs.Steps.{StepsFit}
use Rattle.ssa_turn_body.specs.Turns.{IsTurned, SameSteps}
use Rattle.ssa_turn_body.specs.declared.steps.BodySteps.{BodySteps}

-- the changes fit each tree of the body
abbrev pub BodyStepsFit : BodySteps → Body → Type 0
BodyStepsFit r b = (n : Node) → is_tree n ≡ true → body_of n ≡ b → StepsFit r.steps.items n

-- the changes lead from a tree of the one body to a tree of the other
pub record IsBodyTurned (r : BodySteps) (b : Body) (s : BodySteps) (c : Body) : Type 0 where
  pub before : Node
  pub after : Node
  pub tree_before : is_tree before ≡ true
  pub tree_after : is_tree after ≡ true
  pub body_before : body_of before ≡ b
  pub body_after : body_of after ≡ c
  pub turned : IsTurned r before s after

-- each body to which the changes lead is rooted
abbrev pub LeadsToRooted : BodySteps → Body → Type 0
LeadsToRooted r b = (s : BodySteps) (c : Body) → IsBodyTurned r b s c → IsRooted c

-- a second turn leaves the body and the steps as they were
abbrev pub TurnsLeadBack : Type 0
TurnsLeadBack = (s t u : BodySteps) (b c d : Body) → BodyStepsFit s b → IsBodyTurned s b t c → IsBodyTurned t c u d → (d ≡ b) × SameSteps u s
