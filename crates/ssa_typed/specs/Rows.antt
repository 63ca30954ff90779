-- The rows of a tree: each path with its content, a place before what is below it.
use Rattle.std.specs.Prelude.{List, [], ◌∷◌, ◌++◌, map, Option, Bool, true, not, ◌&&◌}
use Rattle.std.specs.List.{list_any}
use Rattle.std.specs.FinMap.Entries.{find}
use Rattle.ssa_model.specs.definitions.Path.{Element, Path, path_cmp, same_element, is_item_element}
use Rattle.ssa_model.specs.definitions.PathMap.{from_entries}
use Rattle.ssa_model.specs.definitions.Body.{Content, leaf, atom, record_branch, dict_branch, list_branch, Body}
use Rattle.ssa_json.specs.View.{scalar_view, view}
use Rattle.ssa_path.specs.declared.element.Elem.{Elem}
use Rattle.ssa_path.specs.Children.{elements, rises}
use Rattle.ssa_path.specs.View.{element_view}
use Rattle.ssa_typed.specs.declared.node.Leaf.{Leaf}
use Rattle.ssa_typed.specs.declared.node.Leaf.TheVariants.{Scalar, Atomic}
use Rattle.ssa_typed.specs.declared.node.Node.{Node, fold-Node}
use Rattle.ssa_typed.specs.declared.node.Node.TheOpen.{Node-F}
use Rattle.ssa_typed.specs.declared.node.Node.TheViews.{out-Node}

abbrev pub Row : Type 0
Row = Path × Content

abbrev pub leaf_content : Leaf → Content
leaf_content (Scalar s) = leaf (scalar_view s)
leaf_content (Atomic v) = atom (view v)

-- each row with an element in front of its path
abbrev pub under_element : Element → List Row → List Row
under_element e [] = []
under_element e (r ∷ rs) = (e ∷ r.0, r.1) ∷ under_element e rs

abbrev pub rows_under : List (Elem × List Row) → List Row
rows_under [] = []
rows_under (c ∷ cs) = under_element (element_view c.0) c.1 ++ rows_under cs

-- what is at a place itself
abbrev pub content_of : {A : Type 0} → Node-F A → Content
content_of (Node-F.Leaf l) = leaf_content l
content_of (Node-F.Branch v) = record_branch
content_of (Node-F.Dict v) = dict_branch
content_of (Node-F.List v) = list_branch (elements v.items)

-- what is below a place
abbrev pub below_of : {A : Type 0} → Node-F A → List (Elem × A)
below_of (Node-F.Leaf l) = []
below_of (Node-F.Branch v) = v.items
below_of (Node-F.Dict v) = v.items
below_of (Node-F.List v) = v.items

abbrev pub rows_step : Node-F (List Row) → List Row
rows_step x = ([], content_of x) ∷ rows_under (below_of x)

abbrev pub rows : Node → List Row
rows = fold-Node (List Row) rows_step

-- the rows of these children
abbrev pub rows_below : List (Elem × Node) → List Row
rows_below cs = rows_under (map (λ c. (c.0, rows c.1)) cs)

abbrev pub own_content : Node → Content
own_content n = content_of (out-Node n)

-- the children, none of a leaf
abbrev pub below : Node → List (Elem × Node)
below n = below_of (out-Node n)

-- the content at a path
abbrev pub content_at : List Row → Path → Option Content
content_at rs p = find path_cmp p rs

-- the body whose tree this is
abbrev pub body_of : Node → Body
body_of n = from_entries (rows n)

-- no two of these are equal
abbrev pub are_apart : List Element → Bool
are_apart [] = true
are_apart (e ∷ es) = not (list_any (same_element e) es) && are_apart es

abbrev pub are_items : List Element → Bool
are_items [] = true
are_items (e ∷ es) = is_item_element e && are_items es

abbrev pub are_fields : List Element → Bool
are_fields [] = true
are_fields (e ∷ es) = not (is_item_element e) && are_fields es

-- The fields of a record and the entries of a Dict rise; the items of a list differ.
abbrev pub stand_well : {A : Type 0} → Node-F A → Bool
stand_well (Node-F.Leaf l) = true
stand_well (Node-F.Branch v) = rises (elements v.items) && are_fields (elements v.items)
stand_well (Node-F.Dict v) = rises (elements v.items) && are_fields (elements v.items)
stand_well (Node-F.List v) = are_apart (elements v.items) && are_items (elements v.items)

abbrev pub all_pass : List (Elem × Bool) → Bool
all_pass [] = true
all_pass (c ∷ cs) = c.1 && all_pass cs

abbrev pub tree_step : Node-F Bool → Bool
tree_step x = stand_well x && all_pass (below_of x)

-- the children of each place stand well
abbrev pub is_tree : Node → Bool
is_tree = fold-Node Bool tree_step

abbrev pub are_trees : List (Elem × Node) → Bool
are_trees cs = all_pass (map (λ c. (c.0, is_tree c.1)) cs)
