-- Changes that lead what a tree tells at and below a path to something else, and nothing besides.
use Rattle.std.specs.Prelude.{◌≡◌, List, [], ◌∷◌, ◌++◌, Bool, true, false, Some, reverse}
use Rattle.ssa_model.specs.definitions.Path.{Path, under}
use Rattle.ssa_path.specs.Children.{child_at}
use Rattle.ssa_path.specs.View.{element_view, path_view}
use Rattle.ssa_typed.specs.Over.{AreAlikeTrees}
use Rattle.ssa_typed.specs.Rows.{is_tree}
use Rattle.ssa_typed.specs.declared.node.Node.{Node}
use Rattle.ssa_turn_body.specs.Lean.{AreLean}
use Rattle.ssa_turn_body.specs.Marks.{Child, Marks, marks}
use Rattle.ssa_turn_body.specs.Once.{AreOnceMore}
use Rattle.ssa_turn_body.specs.Said.{AreTold, contents}
use Rattle.ssa_turn_body.specs.Steps.{StepsFit, StepsLead}
use Rattle.ssa_turn_body.specs.Writable.{AreWritable}
use Rattle.ssa_turn_body.specs.declared.change.PlaceChange.{PlaceChange}
use Rattle.ssa_turn_body.specs.declared.steps.Step.{Step}

-- the second tree tells this at and below the path, and elsewhere what the first does
pub record IsLeft (p : Path) (after : Marks) (v w : Node) : Type 0 where
  pub there : (q : Path) → marks w (p ++ q) ≡ after q
  pub others : (q : Path) → under p q ≡ false → marks w q ≡ marks v q

-- the changes fit each tree that tells the first at the path, and lead it to one that tells the second there
pub record IsLed (p : Path) (before after : Marks) (ss : List Step) : Type 0 where
  pub fit : (v : Node) → is_tree v ≡ true → ((q : Path) → marks v (p ++ q) ≡ before q) → StepsFit ss v
  pub lead : (v : Node) → is_tree v ≡ true → ((q : Path) → marks v (p ++ q) ≡ before q) → (ts : List Step) (w : Node) → StepsLead ss v ts w → IsLeft p after v w

-- the changes say what is other there, and what they become says the same the other way round
pub record AreSaying (p : Path) (before after : Marks) (ss : List Step) : Type 0 where
  pub told : AreTold p (contents before) (contents after) ss
  pub back : (v : Node) → is_tree v ≡ true → ((q : Path) → marks v (p ++ q) ≡ before q) → (ts : List Step) (w : Node) → StepsLead ss v ts w
      → AreTold p (contents after) (contents before) (reverse ts)

-- such changes are made and stand behind the others, say nothing twice and hold no more than they say
pub record AreLeading (p : Path) (before after : Marks) (old new : List Step) : Type 0 where
  pub made : List Step
  pub added : new ≡ old ++ made
  pub led : IsLed p before after made
  pub saying : AreSaying p before after made
  pub once : AreOnceMore p old new
  pub writable : AreWritable made
  pub lean : AreLean made

-- a change of the path is put behind the others, unless there is nothing to change
abbrev pub MayAdd : Bool → Path → PlaceChange → List Step → List Step → Type 0
MayAdd true p x old new = new ≡ old
MayAdd false p x old new = (s : Step) × (path_view s.path.items ≡ p) × (s.change ≡ x) × (new ≡ old ++ s ∷ [])

-- the child of this element, if there is one, is alike
abbrev pub IsAlikeChild : List Child → Child → Type 0
IsAlikeChild cs d = (c : Node) → child_at (element_view d.0) cs ≡ Some c → AreAlikeTrees c d.1

-- the changes lead from the child of this element to this one
abbrev pub IsChildLed : Path → List Child → Child → List Step → List Step → Type 0
IsChildLed p cs d old new = (c : Node) → child_at (element_view d.0) cs ≡ Some c → AreLeading (p ++ element_view d.0 ∷ []) (marks c) (marks d.1) old new
