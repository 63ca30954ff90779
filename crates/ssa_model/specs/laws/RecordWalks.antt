-- The record of two bodies, member by member along the paths of a body, and below a path that both have.
use Rattle.std.specs.Prelude.{◌≡◌, ℕ, List, [], ◌∷◌, ◌++◌, true, ◌&&◌, filter, filter_map, Option, Some, None, option_map, if◌then◌else◌}
use Rattle.ssa_model.specs.definitions.Path.{Element, Path, is_item_element}
use Rattle.ssa_model.specs.definitions.PathMap.{get, has, paths, below}
use Rattle.ssa_model.specs.definitions.Kind.{Kind, is_among}
use Rattle.ssa_model.specs.definitions.Body.{Content, leaf, atom, record_branch, dict_branch, list_branch, Body, order_at}
use Rattle.ssa_model.specs.definitions.Fitting.{Place, are_distinct, IsBodyOf}
use Rattle.ssa_model.specs.definitions.Record.{BodyRecord, is_top, part_at, cuts, puts, new_leaf, new_leaves, new_order, new_orders, body_record}
use Rattle.ssa_model.specs.definitions.Carry.{carry_body}
use Rattle.ssa_model.specs.definitions.RecordText.{value_at_place}

-- ---- each member of the record is told along the paths of one body, in path order

-- the answers of a function along some paths
abbrev pub found : {X : Type 0} → (Path → Option X) → List Path → List (Path × X)
found f ps = filter_map (λ p. option_map (λ x. (p, x)) (f p)) ps

abbrev pub CutsAreFiltered : Type 0
CutsAreFiltered = (v w : Body) → paths (cuts v w) ≡ filter (is_top w) (paths v)

abbrev pub LeavesAreFiltered : Type 0
LeavesAreFiltered = (v w : Body) → (new_leaves v w).entries ≡ found (λ p. new_leaf (get v p) (get w p)) (paths v)

abbrev pub OrdersAreFiltered : Type 0
OrdersAreFiltered = (v w : Body) → (new_orders v w).entries ≡ found (λ p. new_order (get v p) (get w p)) (paths v)

abbrev pub PutsAreFiltered : Type 0
PutsAreFiltered = (v w : Body) → (puts v w).entries ≡ found (λ p. if is_top v p then Some (part_at w p) else None) (paths w)

-- ---- below a path

abbrev pub record_below : Path → BodyRecord → BodyRecord
record_below p d = record { cut = below d.cut p; leaves = below d.leaves p; order = below d.order p; put = below d.put p }

-- what the record of two bodies has below a path of both is the record of what they have there
abbrev pub RecordBelow : Type 0
RecordBelow = (v w : Body) (p : Path) → has v p ≡ true → has w p ≡ true → record_below p (body_record v w) ≡ body_record (below v p) (below w p)

-- the value of a part is the value that the body has at the part's path
abbrev pub PartIsValue : Type 0
PartIsValue = (q : Place) (w : Body) (p : Path) → value_at_place q (below w p) [] ≡ value_at_place q w p

-- ---- what a record asks of two bodies, whatever their schema

-- a scalar, an atomic value, or one of three branches
abbrev pub class_of : Content → ℕ
class_of (leaf s) = 0
class_of (atom v) = 1
class_of record_branch = 2
class_of dict_branch = 3
class_of (list_branch es) = 4

-- the root and each beginning of a path is a path, and an order names each item below its path once
pub record IsTree (v : Body) : Type 0 where
  pub root : has v [] ≡ true
  pub closed : (p : Path) (e : Element) → has v (p ++ e ∷ []) ≡ true → has v p ≡ true
  pub once : (p : Path) → are_distinct (order_at (get v p)) ≡ true
  pub items : (p : Path) (e : Element) → is_among e (order_at (get v p)) ≡ (is_item_element e && has v (p ++ e ∷ []))

-- where both have a path, they have contents of one class
abbrev pub AreAlike : Body → Body → Type 0
AreAlike v w = (p : Path) (c e : Content) → get v p ≡ Some c → get w p ≡ Some e → class_of c ≡ class_of e

abbrev pub BodiesAreTrees : Type 0
BodiesAreTrees = (kind : Kind) (v w : Body) → IsBodyOf kind v → IsBodyOf kind w → IsTree v × IsTree w × AreAlike v w

abbrev pub TreeLeads : Type 0
TreeLeads = (v w : Body) → IsTree v → IsTree w → AreAlike v w → carry_body (body_record v w) v ≡ w

-- what a tree has at a path of it is a tree
abbrev pub PartIsTree : Type 0
PartIsTree = (v : Body) (p : Path) → IsTree v → has v p ≡ true → IsTree (below v p)

-- below a path of both, the record leads to what its part below the path leads to
abbrev pub CarryBelow : Type 0
CarryBelow =
    (v w : Body) (p : Path) → IsTree v → IsTree w → AreAlike v w → has v p ≡ true → has w p ≡ true
    → below (carry_body (body_record v w) v) p ≡ carry_body (record_below p (body_record v w)) (below v p)
