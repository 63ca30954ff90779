-- Bodies of objects: what a fitting value says, its points, comparison and the joining of two bodies.
use Rattle.std.specs.Prelude.{List, [], ◌∷◌, ◌++◌, Bool, true, false, not, ◌&&◌, ◌||◌, filter, Option, Some, None, if◌then◌else◌, option_map, codes}
use Rattle.std.specs.List.{list_any}
use Rattle.ssa_model.specs.definitions.Json.{Text, Scalar, Json, scalar, list, object, Items, no_items, item, Members, no_members, member, same_text, same_scalar, same_json}
use Rattle.ssa_model.specs.definitions.Path.{Element, field, value, Path, under, is_root, parent, is_item}
use Rattle.ssa_model.specs.definitions.PathMap.{PathMap, PathSet, from_entries, get, has, paths, map_of, set_of}
use Rattle.ssa_model.specs.definitions.Kind as kinds
use Rattle.ssa_model.specs.definitions.Kind.{Kind, Fields, scalar_kind, atomic_of, record_of, dict_of, items_of, kind_of, item_key, is_among}

-- What stands at a place: a scalar, an atomic value, or a branch. A list has the order of its items.
pub data Content : Type 0 where
  leaf : Scalar → Content
  atom : Json → Content
  record_branch : Content
  dict_branch : Content
  list_branch : List Element → Content

abbrev pub Body : Type 0
Body = PathMap Content

-- ---- the body of a value

abbrev pub value_order : Items → List Element
value_order no_items = []
value_order (item (scalar s) vs) = value s ∷ value_order vs
value_order (item _ vs) = value_order vs

abbrev pub key_order : List Text → Items → List Element
key_order names no_items = []
key_order names (item (object ms) vs) = item_key names ms ∷ key_order names vs
key_order names (item _ vs) = key_order names vs

-- each place at and below p, outside atomic values, with its content
abbrev mutual
  pub places : Kind → Json → Path → List (Path × Content)
  places (scalar_kind k) (scalar s) p = (p, leaf s) ∷ []
  places (atomic_of s) v p = (p, atom v) ∷ []
  places (record_of fs) (object ms) p = (p, record_branch) ∷ field_places fs ms p
  places (dict_of k) (object ms) p = (p, dict_branch) ∷ entry_places k ms p
  places (kinds.set_of k) (list vs) p = (p, list_branch (value_order vs)) ∷ value_places vs p
  places (items_of names fs) (list vs) p = (p, list_branch (key_order names vs)) ∷ item_places names fs vs p
  places _ _ p = []

  pub field_places : Fields → Members → Path → List (Path × Content)
  field_places fs no_members p = []
  field_places fs (member n v ms) p = elim (kind_of n fs) [ None ↦ [] | Some k ↦ places k v (p ++ field n ∷ []) ] ++ field_places fs ms p

  pub entry_places : Kind → Members → Path → List (Path × Content)
  entry_places k no_members p = []
  entry_places k (member n v ms) p = places k v (p ++ field n ∷ []) ++ entry_places k ms p

  pub value_places : Items → Path → List (Path × Content)
  value_places no_items p = []
  value_places (item (scalar s) vs) p = (p ++ value s ∷ [], leaf s) ∷ value_places vs p
  value_places (item _ vs) p = value_places vs p

  pub item_places : List Text → Fields → Items → Path → List (Path × Content)
  item_places names fs no_items p = []
  item_places names fs (item (object ms) vs) p =
      let at = p ++ item_key names ms ∷ [] in
      (at, record_branch) ∷ (field_places fs ms at ++ item_places names fs vs p)
  item_places names fs (item _ vs) p = item_places names fs vs p

abbrev pub is_empty_object : Json → Bool
is_empty_object (object no_members) = true
is_empty_object _ = false

abbrev pub without_empty_metadata : Members → Members
without_empty_metadata no_members = no_members
without_empty_metadata (member n v ms) = if same_text n (codes "metadata") && is_empty_object v then ms else member n v (without_empty_metadata ms)

-- the body of a fitting value of the root's kind
abbrev pub flat : Kind → Json → Body
flat k (object ms) = from_entries (places k (object (without_empty_metadata ms)) [])
flat k v = from_entries (places k v [])

-- ---- points

abbrev pub is_leaf : Option Content → Bool
is_leaf (Some (leaf s)) = true
is_leaf (Some (atom v)) = true
is_leaf _ = false

abbrev pub is_dict : Option Content → Bool
is_dict (Some dict_branch) = true
is_dict _ = false

abbrev pub strictly_under : Path → Path → Bool
strictly_under g p = under g p && not (under p g)

abbrev pub is_bare : Body → Path → Bool
is_bare b p = not (list_any (strictly_under p) (paths b))

-- a leaf, an item of a list, an entry of a Dict, or a branch with nothing below
abbrev pub is_point : Body → Path → Bool
is_point b p = not (is_root p) && (is_leaf (get b p) || (is_item p || (is_dict (get b (parent p)) || is_bare b p)))

abbrev pub points : Body → PathSet
points b = set_of (paths b) (is_point b)

abbrev pub is_ownable : Body → Path → Bool
is_ownable b [] = false
is_ownable b (field n ∷ []) = has b (field n ∷ []) && not (same_text n (codes "metadata"))
is_ownable b p = has b p

-- ---- comparison

abbrev pub is_other_leaf : Option Content → Option Content → Bool
is_other_leaf (Some (leaf a)) (Some (leaf b)) = not (same_scalar a b)
is_other_leaf (Some (atom a)) (Some (atom b)) = not (same_json a b)
is_other_leaf _ _ = false

abbrev pub added : Body → Body → PathSet
added before after = set_of (paths (points after)) (λ p. not (has before p))

abbrev pub modified : Body → Body → PathSet
modified before after = set_of (paths before) (λ p. is_other_leaf (get before p) (get after p))

abbrev pub removed : Body → Body → PathSet
removed before after = set_of (paths before) (λ p. not (has after p))

-- ---- one body over another

-- At each place of an element that moves the next of these; the others stay at their places; behind them what is left of these.
abbrev pub laid : (Element → Bool) → List Element → List Element → List Element
laid moves [] fs = fs
laid moves (e ∷ es) fs = if moves e then (elim fs [ [] ↦ laid moves es [] | f ∷ rest ↦ f ∷ laid moves es rest ]) else e ∷ laid moves es fs

-- The order of the first, with the elements of both in the second's order at the places of such; then what the second alone has, in its order.
abbrev pub joined : List Element → List Element → List Element
joined es fs = laid (λ e. is_among e fs) es (filter (λ f. is_among f es) fs ++ filter (λ f. not (is_among f es)) fs)

-- the items of a list, and nothing elsewhere
abbrev pub order_at : Option Content → List Element
order_at (Some (list_branch es)) = es
order_at _ = []

abbrev pub over_content : Option Content → Option Content → Option Content
over_content b None = b
over_content b (Some (list_branch es)) = Some (list_branch (joined (order_at b) es))
over_content b (Some c) = Some c

abbrev pub over : Body → Body → Body
over live config = map_of (paths live ++ paths config) (λ p. over_content (get live p) (get config p))

-- ---- a part of a body

-- the content, with the items that stay
abbrev pub restricted_content : (Path → Bool) → Path → Content → Content
restricted_content stays p (leaf s) = leaf s
restricted_content stays p (atom v) = atom v
restricted_content stays p record_branch = record_branch
restricted_content stays p dict_branch = dict_branch
restricted_content stays p (list_branch es) = list_branch (filter (λ e. stays (p ++ e ∷ [])) es)

abbrev pub restricted : Body → (Path → Bool) → Body
restricted b stays = map_of (paths b) (λ p. if stays p then option_map (restricted_content stays p) (get b p) else None)
