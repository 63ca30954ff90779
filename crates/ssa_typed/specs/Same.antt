-- Trees that are one, and what is left of children without those that are.
use Rattle.std.specs.Prelude.{◌≡◌, ◌⊎◌, List, Option, None, Some, true}
use Rattle.ssa_model.specs.definitions.Path.{Element, Path}
use Rattle.ssa_path.specs.Children.{child_at, elements}
use Rattle.ssa_path.specs.declared.element.Elem.{Elem}
use Rattle.ssa_typed.specs.Rows.{are_apart, content_at, rows}
use Rattle.ssa_typed.specs.declared.node.Node.{Node}

-- the same stands at each path
abbrev pub AreSame : Node → Node → Type 0
AreSame n m = (p : Path) → content_at (rows m) p ≡ content_at (rows n) p

-- trees under one element that are one
pub record IsSamePair (c d : Option Node) : Type 0 where
  pub own : Node
  pub other : Node
  pub own_is : c ≡ Some own
  pub other_is : d ≡ Some other
  pub same : AreSame own other

-- of what stands under an element on both sides, all is left; or both are one, and neither is left
abbrev pub IsLeft : Option Node → Option Node → Option Node → Option Node → Type 0
IsLeft c d own other = ((own ≡ c) × (other ≡ d)) ⊎ (IsSamePair c d × (own ≡ None) × (other ≡ None))

-- children on both sides without some under one element that are one
pub record AreLeft (cs ds own others : List (Elem × Node)) : Type 0 where
  pub each : (e : Element) → IsLeft (child_at e cs) (child_at e ds) (child_at e own) (child_at e others)
  pub own_apart : are_apart (elements own) ≡ true
  pub others_apart : are_apart (elements others) ≡ true
