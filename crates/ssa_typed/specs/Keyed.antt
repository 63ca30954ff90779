-- Children behind the numbers of their elements.
use Rattle.std.specs.Prelude.{ℕ}
use Rattle.std.specs.declared.cmp.Ordering.{Ordering}
use Rattle.std.specs.Ordering.{nat_cmp, on, then_cmp}
use Rattle.ssa_model.specs.definitions.Path.{Element, element_cmp}
use Rattle.ssa_path.specs.declared.element.Elem.{Elem}
use Rattle.ssa_path.specs.SortKeys.{element_key}
use Rattle.ssa_path.specs.View.{element_view}
use Rattle.ssa_typed.specs.declared.node.Node.{Node}
use Rattle.ssa_typed.specs.declared.keyed.KeyedChild.{KeyedChild}

-- the child that stands behind the number
abbrev pub child_of : KeyedChild → Elem × Node
child_of k = k.child.now

-- its element
abbrev pub keyed_element : KeyedChild → Element
keyed_element k = element_view k.child.now.0

-- the order of the numbers, and of the elements where the numbers are one
abbrev pub keyed_cmp : KeyedChild → KeyedChild → Ordering
keyed_cmp = then_cmp (on (λ k. k.key) nat_cmp) (on keyed_element element_cmp)

-- the number with the child
abbrev pub keyed_view : KeyedChild → ℕ × (Elem × Node)
keyed_view k = (k.key, k.child.now)

-- a child behind the number of its element
abbrev pub behind_key : Element → ℕ → Elem × Node → ℕ × (Elem × Node)
behind_key first skip c = (element_key first skip (element_view c.0), c)
