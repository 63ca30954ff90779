-- The node at a path of a tree.
use Rattle.std.specs.Prelude.{[], ◌∷◌, Option, Some, None}
use Rattle.ssa_model.specs.definitions.Path.{Path}
use Rattle.ssa_path.specs.Children.{child_at}
use Rattle.ssa_typed.specs.Rows.{below}
use Rattle.ssa_typed.specs.declared.node.Node.{Node}

abbrev pub then_on : Option Node → (Node → Option Node) → Option Node
then_on None f = None
then_on (Some c) f = f c

-- the node at a path, if there is one
abbrev pub node_on : Path → Node → Option Node
node_on [] n = Some n
node_on (e ∷ p) n = then_on (child_at e (below n)) (node_on p)
