-- Children that are lent in an order.
use Rattle.std.specs.Prelude.{List}
use Rattle.ssa_path.specs.declared.element.Elem.{Elem}
use Rattle.ssa_typed.specs.InOrder.{referred}
use Rattle.ssa_typed.specs.declared.node.Node.{Node}
use Rattle.ssa_typed.specs.declared.ordered.Ordered.{Ordered}
use Rattle.ssa_typed.specs.declared.ordered.Ordered.TheVariants.{AsTheyStand, Sorted}

-- the children in that order
abbrev pub lent_children : Ordered → List (Elem × Node)
lent_children (AsTheyStand cs) = cs.now
lent_children (Sorted rs) = referred rs.items
