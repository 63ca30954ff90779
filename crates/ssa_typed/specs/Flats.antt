-- Trees of fitting values.
use Rattle.std.specs.Prelude.{◌≡◌, List, [], ◌∷◌, ◌++◌, map, true, Some, None}
use Rattle.ssa_model.specs.definitions.Json.{Text, Scalar, Json, scalar, list, object, Items, Members}
use Rattle.ssa_model.specs.definitions.Path.{Element, value, Path}
use Rattle.ssa_model.specs.definitions.Kind.{Kind, Fields, faults, item_key, kind_of}
use Rattle.ssa_model.specs.definitions.Body.{Body, flat, leaf, record_branch, places, field_places}
use Rattle.ssa_path.specs.Children.{elements, rises}
use Rattle.ssa_path.specs.View.{element_view}
use Rattle.ssa_path.specs.declared.element.Elem.{Elem}
use Rattle.ssa_typed.specs.Rows.{Row, rows, rows_below, is_tree, are_trees, are_fields, are_items}
use Rattle.ssa_typed.specs.declared.node.Node.{Node}

-- each row with a path in front of its own
abbrev pub rows_at : Path → List Row → List Row
rows_at p rs = map (λ r. (p ++ r.0, r.1)) rs

-- ---- fitting values

abbrev pub IsObject : Json → Type 0
IsObject v = (ms : Members) × (v ≡ object ms)

abbrev pub IsList : Json → Type 0
IsList v = (vs : Items) × (v ≡ list vs)

-- the body is the flattening of the value, which fits the kind
pub record IsFlattening (k : Kind) (v : Json) (b : Body) : Type 0 where
  pub fits : faults k v [] ≡ []
  pub body : flat k v ≡ b

-- ---- what is made of them

-- the places of a member at its own path
abbrev pub member_places : Fields → Text → Json → Path → List Row
member_places fs n v p = elim (kind_of n fs) [ None ↦ [] | Some k ↦ places k v p ]

-- the tree of a value of the kind
pub record IsTreeOf (k : Kind) (v : Json) (n : Node) : Type 0 where
  pub placed : (p : Path) → rows_at p (rows n) ≡ places k v p
  pub tree : is_tree n ≡ true

-- a child under an element, with these rows from its path on
pub record IsChild (e : Element) (rows_from : Path → List Row) (c : Elem × Node) : Type 0 where
  pub element : element_view c.0 ≡ e
  pub placed : (p : Path) → rows_at p (rows c.1) ≡ rows_from p
  pub tree : is_tree c.1 ≡ true

-- an item of a set
pub record IsValue (v : Json) (c : Elem × Node) : Type 0 where
  pub own : Scalar
  pub is_own : v ≡ scalar own
  pub child : IsChild (value own) (λ p. (p, leaf own) ∷ []) c

-- an item of a map list
pub record IsItem (names : List Text) (fs : Fields) (v : Json) (c : Elem × Node) : Type 0 where
  pub own : Members
  pub is_own : v ≡ object own
  pub child : IsChild (item_key names own) (λ p. (p, record_branch) ∷ field_places fs own p) c

-- children under names that rise, with these rows from the path above them on
pub record AreNamed (rows_from : Path → List Row) (cs : List (Elem × Node)) : Type 0 where
  pub placed : (p : Path) → rows_at p (rows_below cs) ≡ rows_from p
  pub risen : rises (elements cs) ≡ true
  pub fields : are_fields (elements cs) ≡ true
  pub trees : are_trees cs ≡ true

-- items in this order, with these rows from the path above them on
pub record AreListed (order : List Element) (rows_from : Path → List Row) (cs : List (Elem × Node)) : Type 0 where
  pub placed : (p : Path) → rows_at p (rows_below cs) ≡ rows_from p
  pub order_is : elements cs ≡ order
  pub items : are_items (elements cs) ≡ true
  pub trees : are_trees cs ≡ true
