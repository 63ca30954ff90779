-- Children that are looked up.
use Rattle.std.specs.Prelude.{◌≡◌, List, [], Bool, true, Option, None, Some}
use Rattle.ssa_model.specs.definitions.Path.{Element}
use Rattle.ssa_path.specs.Children.{child_at, elements, rises}
use Rattle.ssa_path.specs.declared.element.Elem.{Elem}
use Rattle.ssa_typed.specs.Ordered.{lent_children}
use Rattle.ssa_typed.specs.Rows.{below, is_tree}
use Rattle.ssa_typed.specs.declared.lookup.Lookup.{Lookup}
use Rattle.ssa_typed.specs.declared.lookup.Lookup.TheVariants.{AsItStands, InOrder}
use Rattle.ssa_typed.specs.declared.node.Node.{Node}

-- the child of an element
abbrev pub looked_up : Lookup → Element → Option Node
looked_up (AsItStands n) e = child_at e (below n.now)
looked_up (InOrder cs) e = child_at e (lent_children cs)

-- a tree, if there is one
abbrev pub is_tree_in : Option Node → Bool
is_tree_in None = true
is_tree_in (Some n) = is_tree n

-- what is looked up is a tree, or rises
abbrev pub stands_ready : Lookup → Bool
stands_ready (AsItStands n) = is_tree n.now
stands_ready (InOrder cs) = rises (elements (lent_children cs))

-- the children of a node, none where there is no node
abbrev pub below_in : Option Node → List (Elem × Node)
below_in None = []
below_in (Some n) = below n

-- these children are looked up
pub record LooksUp (cs : List (Elem × Node)) (l : Lookup) : Type 0 where
  pub ready : stands_ready l ≡ true
  pub same : (e : Element) → looked_up l e ≡ child_at e cs
