-- Changes whose inner places come first.
use Rattle.std.specs.Prelude.{◌≡◌, List, [], ◌∷◌, true, false}
use Rattle.ssa_model.specs.definitions.Path.{Path, under}
use Rattle.ssa_path.specs.View.{path_view}
use Rattle.ssa_typed.specs.Rows.{is_tree}
use Rattle.ssa_typed.specs.declared.node.Node.{Node}
use Rattle.ssa_turn_body.specs.Steps.{StepFits, StepsFit}
use Rattle.ssa_turn_body.specs.declared.steps.Step.{Step}

-- each change fits this tree
abbrev pub AllFit : List Step → Node → Type 0
AllFit [] v = Unit {0}
AllFit (s ∷ ss) v = StepFits s v × AllFit ss v

-- none of the changes is at the path or below it
abbrev pub AreElsewhere : Path → List Step → Type 0
AreElsewhere p [] = Unit {0}
AreElsewhere p (u ∷ us) = (under p (path_view u.path.items) ≡ false) × AreElsewhere p us

-- at each place one change, and those of inner places before those of outer ones
abbrev pub AreInnerFirst : List Step → Type 0
AreInnerFirst [] = Unit {0}
AreInnerFirst (s ∷ ss) = AreElsewhere (path_view s.path.items) ss × AreInnerFirst ss

-- where each change fits the first tree, each fits what the ones before it leave
abbrev pub InnerStepsFit : Type 0
InnerStepsFit = (ss : List Step) (v : Node) → is_tree v ≡ true → AllFit ss v → AreInnerFirst ss → StepsFit ss v
