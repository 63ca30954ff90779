-- The values of trees.
use Rattle.std.specs.Prelude.{◌≡◌, List, [], ◌∷◌, true, map, Some}
use Rattle.ssa_model.specs.definitions.Json.{Json, scalar, list, object, Items, no_items, item, Members, no_members, member}
use Rattle.ssa_model.specs.definitions.Path.{Element, field, key, value, Path}
use Rattle.ssa_model.specs.definitions.PathMap.{below}
use Rattle.ssa_model.specs.definitions.Kind.{Kind}
use Rattle.ssa_model.specs.definitions.Body.{Body}
use Rattle.ssa_model.specs.definitions.Lawful.{is_ordered}
use Rattle.ssa_model.specs.definitions.Fitting.{Place, of_kind, place_at, IsBodyOf}
use Rattle.ssa_model.specs.definitions.Objects.{with_member}
use Rattle.ssa_model.specs.definitions.RecordText.{value_at_place}
use Rattle.ssa_json.specs.View.{scalar_view, view}
use Rattle.ssa_path.specs.declared.element.Elem.{Elem}
use Rattle.ssa_path.specs.View.{element_view}
use Rattle.ssa_typed.specs.declared.node.Leaf.{Leaf}
use Rattle.ssa_typed.specs.declared.node.Leaf.TheVariants.{Scalar, Atomic}
use Rattle.ssa_typed.specs.declared.node.Node.{Node, fold-Node}
use Rattle.ssa_typed.specs.declared.node.Node.TheOpen.{Node-F}
use Rattle.ssa_typed.specs.Rows.{body_of}

-- a member in front of others, where the element is a field
abbrev pub member_under : Element → Json → Members → Members
member_under (field n) v ms = member n v ms
member_under (key ks) v ms = ms
member_under (value s) v ms = ms

-- a member in its place among others, where the element is a field
abbrev pub with_member_under : Element → Json → Members → Members
with_member_under (field n) v ms = with_member n v ms
with_member_under (key ks) v ms = ms
with_member_under (value s) v ms = ms

-- one member for each child that is a field
abbrev pub members_of : List (Elem × Json) → Members
members_of [] = no_members
members_of (c ∷ cs) = member_under (element_view c.0) c.1 (members_of cs)

abbrev pub items_of : List (Elem × Json) → Items
items_of [] = no_items
items_of (c ∷ cs) = item c.1 (items_of cs)

abbrev pub leaf_value : Leaf → Json
leaf_value (Scalar s) = scalar (scalar_view s)
leaf_value (Atomic v) = view v

-- one level, with the value of each place inside
abbrev pub value_step : Node-F Json → Json
value_step (Node-F.Leaf l) = leaf_value l
value_step (Node-F.Branch v) = object (members_of v.items)
value_step (Node-F.Dict v) = object (members_of v.items)
value_step (Node-F.List v) = list (items_of v.items)

-- the value of a place with all that is below it
abbrev pub value_of : Node → Json
value_of = fold-Node Json value_step

-- THE VALUE IS WHAT STANDS THERE: of whatever kind the body is, and at whatever path the tree stands in it, the value is
-- the one that the body shows at that path.
abbrev pub IsShownThere : Node → Json → Type 0
IsShownThere n v = (kind : Kind) (place : Place) (path : Path) (whole : Body) → is_ordered kind ≡ true → IsBodyOf kind whole
    → place_at (of_kind kind) path ≡ Some place → body_of n ≡ below whole path → v ≡ value_at_place place whole path

-- the children's values
abbrev pub values_of : List (Elem × Node) → List (Elem × Json)
values_of cs = map (λ c. (c.0, value_of c.1)) cs
