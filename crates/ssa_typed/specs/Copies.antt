-- What a copy of a tree keeps.
use Rattle.std.specs.Prelude.{◌≡◌, List, [], ◌∷◌, ◌++◌, map, Bool}
use Rattle.ssa_model.specs.definitions.Path.{Element}
use Rattle.ssa_json.specs.declared.value.Scalar.{Scalar}
use Rattle.ssa_path.specs.declared.element.Elem.{Elem}
use Rattle.ssa_path.specs.View.{element_view}
use Rattle.ssa_typed.specs.Rows.{Row, rows, is_tree}
use Rattle.ssa_typed.specs.declared.node.Leaf.TheVariants.{Scalar as ScalarOf}
use Rattle.ssa_typed.specs.declared.node.Node.{Node, Leaf as LeafOf}

-- the rows, and whether the children of each place stand well
abbrev pub kept : Node → List Row × Bool
kept n = (rows n, is_tree n)

abbrev pub kept_below : List (Elem × Node) → List (Element × (List Row × Bool))
kept_below cs = map (λ c. (element_view c.0, kept c.1)) cs

-- the node that is this scalar
abbrev pub leaf_of : Scalar → Node
leaf_of s = LeafOf (ScalarOf s)

-- one more child, a copy of a node under this element
abbrev pub AddsCopy : Element → Node → List (Elem × Node) → List (Elem × Node) → Type 0
AddsCopy e n old new = (x : Elem × Node) × (element_view x.0 ≡ e) × (kept x.1 ≡ kept n) × (new ≡ old ++ x ∷ [])
