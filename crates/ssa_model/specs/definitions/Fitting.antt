-- A body of a kind, told place by place: what `flat` gives of a fitting value, without the value.
use Rattle.std.specs.Prelude.{◌≡◌, List, [], ◌∷◌, ◌++◌, Bool, true, false, not, ◌&&◌, Option, Some, None, option_map, if◌then◌else◌}
use Rattle.ssa_model.specs.definitions.Json.{Text, Scalar, same_text, same_scalar}
use Rattle.ssa_model.specs.definitions.Path.{Element, field, key, value, Path, is_item_element}
use Rattle.ssa_model.specs.definitions.PathMap.{get, has}
use Rattle.ssa_model.specs.definitions.Kind as kinds
use Rattle.ssa_model.specs.definitions.Kind.{Kind, Fields, scalar_kind, atomic_of, record_of, dict_of, items_of, kind_of, is_of, is_among, shape_faults}
use Rattle.ssa_model.specs.definitions.Operations.{is_none}
use Rattle.ssa_model.specs.definitions.Body.{Content, leaf, atom, record_branch, dict_branch, list_branch, Body, order_at}

-- what a schema says of a place
pub data Place : Type 0 where
  of_kind : Kind → Place
  item_of : List Text → Fields → Place
  value_of : Scalar → Place

abbrev pub is_key_of : Option Kind → Scalar → Bool
is_key_of (Some (scalar_kind k)) s = is_of k s
is_key_of _ s = false

abbrev pub are_keys : List Text → Fields → List (Text × Scalar) → Bool
are_keys [] fs [] = true
are_keys (n ∷ ns) fs (k ∷ ks) = same_text n k.0 && (is_key_of (kind_of n fs) k.1 && are_keys ns fs ks)
are_keys _ _ _ = false

-- the place of an element below a place
abbrev pub place_below : Place → Element → Option Place
place_below (of_kind (record_of fs)) (field n) = option_map of_kind (kind_of n fs)
place_below (of_kind (dict_of k)) (field n) = Some (of_kind k)
place_below (of_kind (kinds.set_of k)) (value s) = if is_of k s then Some (value_of s) else None
place_below (of_kind (items_of ns fs)) (key ks) = if are_keys ns fs ks then Some (item_of ns fs) else None
place_below (item_of ns fs) (field n) = option_map of_kind (kind_of n fs)
place_below _ _ = None

abbrev pub place_at : Place → Path → Option Place
place_at q [] = Some q
place_at q (e ∷ p) = elim (place_below q e) [ None ↦ None | Some r ↦ place_at r p ]

abbrev pub content_fits : Place → Content → Bool
content_fits (of_kind (scalar_kind k)) (leaf s) = is_of k s
content_fits (of_kind (atomic_of s)) (atom v) = is_none (shape_faults s v [])
content_fits (of_kind (record_of fs)) record_branch = true
content_fits (of_kind (dict_of k)) dict_branch = true
content_fits (of_kind (kinds.set_of k)) (list_branch es) = true
content_fits (of_kind (items_of ns fs)) (list_branch es) = true
content_fits (item_of ns fs) record_branch = true
content_fits (value_of s) (leaf t) = same_scalar s t
content_fits _ _ = false

-- the schema has a place at the path, and the content goes there
pub record IsAt (kind : Kind) (p : Path) (c : Content) : Type 0 where
  pub place : Place
  pub there : place_at (of_kind kind) p ≡ Some place
  pub fits : content_fits place c ≡ true

abbrev pub are_distinct : List Element → Bool
are_distinct [] = true
are_distinct (e ∷ es) = not (is_among e es) && are_distinct es

-- the scalar that a key has under a name
abbrev pub scalar_of : Text → List (Text × Scalar) → Option Scalar
scalar_of n [] = None
scalar_of n (k ∷ ks) = if same_text n k.0 then Some k.1 else scalar_of n ks

pub record IsBodyOf (kind : Kind) (body : Body) : Type 0 where
  pub root : has body [] ≡ true
  pub closed : (p : Path) (e : Element) → has body (p ++ e ∷ []) ≡ true → has body p ≡ true
  pub fits : (p : Path) (c : Content) → get body p ≡ Some c → IsAt kind p c
  -- the order at a path names each item below it once, and nothing else
  pub once : (p : Path) → are_distinct (order_at (get body p)) ≡ true
  -- an item has its key fields
  pub keys : (p : Path) (ks : List (Text × Scalar)) (n : Text) (s : Scalar) → scalar_of n ks ≡ Some s → has body (p ++ key ks ∷ []) ≡ true
      → get body ((p ++ key ks ∷ []) ++ field n ∷ []) ≡ Some (leaf s)
  pub items : (p : Path) (e : Element) → is_among e (order_at (get body p)) ≡ (is_item_element e && has body (p ++ e ∷ []))
