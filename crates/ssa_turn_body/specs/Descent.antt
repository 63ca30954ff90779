-- The place that a path leads to in a tree, and a change there.
use Rattle.std.specs.Prelude.{◌≡◌, ℕ, List, Option, Some, None, false, true, set, slice_get}
use Rattle.ssa_model.specs.definitions.Path.{Path, under}
use Rattle.ssa_typed.specs.Rows.{is_tree}
use Rattle.ssa_typed.specs.declared.node.Node.{Node}
use Rattle.ssa_typed.specs.Nodes.{node_on}
use Rattle.ssa_turn_body.specs.Marks.{Child, marks}

abbrev pub in_child : Option Child → (Node → Option Node) → Option Node
in_child None f = None
in_child (Some c) f = f c.1

-- the node at a path below the child at a place
abbrev pub node_in : Path → List Child → ℕ → Option Node
node_in p cs i = in_child (slice_get cs i) (node_on p)

-- there is a node, which fits
abbrev pub FitsIn : (Node → Type 0) → Option Node → Type 0
FitsIn fits None = ⊥
FitsIn fits (Some n) = fits n

-- there are both nodes, and the second is what is made of the first
abbrev pub GivesIn : (Node → Node → Type 0) → Option Node → Option Node → Type 0
GivesIn gives None m = ⊥
GivesIn gives (Some n) None = ⊥
GivesIn gives (Some n) (Some m) = gives n m

-- the second tree is the first with the node at the path changed and nothing else
pub record IsChange (gives : Node → Node → Type 0) (p : Path) (v w : Node) : Type 0 where
  pub inside : GivesIn gives (node_on p v) (node_on p w)
  pub outside : (q : Path) → under p q ≡ false → marks w q ≡ marks v q
  pub tree : is_tree w ≡ true

-- the second children are the first with a change in the child at the place
pub record IsChildChange (gives : Node → Node → Type 0) (p : Path) (cs : List Child) (i : ℕ) (ds : List Child) : Type 0 where
  pub child : Child
  pub after : Node
  pub here : slice_get cs i ≡ Some child
  pub left : ds ≡ set cs i (child.0, after)
  pub changed : IsChange gives p child.1 after
