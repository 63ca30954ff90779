-- What a tree tells at each path: the content, and the elements of the children in their order.
use Rattle.std.specs.Prelude.{◌≡◌, List, [], ◌∷◌, map, Option, Some, None, Bool, false, ◌&&◌}
use Rattle.ssa_model.specs.definitions.Body.{Content, leaf, atom, record_branch, dict_branch, list_branch}
use Rattle.ssa_model.specs.definitions.Path.{Element, Path}
use Rattle.ssa_path.specs.Children.{child_at, elements, rises}
use Rattle.ssa_path.specs.View.{element_view}
use Rattle.ssa_path.specs.declared.element.Elem.{Elem}
use Rattle.ssa_typed.specs.Rows.{below, below_of, own_content, content_of, are_apart, are_fields, are_items}
use Rattle.ssa_typed.specs.declared.node.Node.{Node, fold-Node}
use Rattle.ssa_typed.specs.declared.node.Node.TheOpen.{Node-F}

abbrev pub Mark : Type 0
Mark = Content × List Element

abbrev pub Marks : Type 0
Marks = Path → Option Mark

abbrev pub marks_in : Option Marks → Marks
marks_in None p = None
marks_in (Some f) p = f p

abbrev pub marks_step : Node-F Marks → Marks
marks_step x [] = Some (content_of x, elements (below_of x))
marks_step x (e ∷ p) = marks_in (child_at e (below_of x)) p

abbrev pub marks : Node → Marks
marks = fold-Node Marks marks_step

-- both trees tell the same
abbrev pub TellAlike : Node → Node → Type 0
TellAlike n m = (q : Path) → marks n q ≡ marks m q

-- a child of a place
abbrev pub Child : Type 0
Child = Elem × Node

-- children by their elements, each with what it tells
abbrev pub Kids : Type 0
Kids = List (Element × Marks)

abbrev pub kids : List Child → Kids
kids cs = map (λ c. (element_view c.0, marks c.1)) cs

abbrev pub names : Kids → List Element
names ks = map (λ k. k.0) ks

-- one place: its own content, and its children
abbrev pub Place : Type 0
Place = Content × Kids

abbrev pub seen : Node → Place
seen n = (own_content n, kids (below n))

-- children of these elements may stand at a place with this content
abbrev pub may_stand : Content → List Element → Bool
may_stand (leaf s) es = false
may_stand (atom v) es = false
may_stand record_branch es = rises es && are_fields es
may_stand dict_branch es = rises es && are_fields es
may_stand (list_branch os) es = are_apart es && are_items es

-- the same content, with the order of these items
abbrev pub with_order : Content → List Element → Content
with_order (leaf s) es = leaf s
with_order (atom v) es = atom v
with_order record_branch es = record_branch
with_order dict_branch es = dict_branch
with_order (list_branch os) es = list_branch es
