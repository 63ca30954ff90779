-- Kinds of values, and the faults of a value.
use Rattle.std.specs.Prelude.{List, [], ◌∷◌, ◌++◌, Bool, true, false, not, Option, Some, None, if◌then◌else◌}
use Rattle.std.specs.List.{list_any}
use Rattle.ssa_model.specs.definitions.Json.{Text, Scalar, text, whole, truth, Json, scalar, list, object, Items, no_items, item, Members, no_members, member, member_of, same_text}
use Rattle.ssa_model.specs.definitions.Path.{Element, field, key, value, Path, same_element}

pub data ScalarKind : Type 0 where
  texts : ScalarKind
  wholes : ScalarKind
  truths : ScalarKind

-- what may stand in an atomic value
mutual
  pub data Shape : Type 0 where
    scalar_shape : ScalarKind → Shape
    record_shape : ShapeFields → Shape
    dict_shape : Shape → Shape
    list_shape : Shape → Shape

  pub data ShapeFields : Type 0 where
    no_shape_fields : ShapeFields
    shape_field : Text → Shape → ShapeFields → ShapeFields

mutual
  pub data Kind : Type 0 where
    scalar_kind : ScalarKind → Kind
    atomic_of : Shape → Kind
    record_of : Fields → Kind
    dict_of : Kind → Kind
    set_of : ScalarKind → Kind
    -- the names of the key fs rise by bytes
    items_of : List Text → Fields → Kind

  pub data Fields : Type 0 where
    no_fields : Fields
    kind_field : Text → Kind → Fields → Fields

abbrev pub kind_of : Text → Fields → Option Kind
kind_of n no_fields = None
kind_of n (kind_field m k rest) = if same_text n m then Some k else kind_of n rest

abbrev pub shape_of : Text → ShapeFields → Option Shape
shape_of n no_shape_fields = None
shape_of n (shape_field m s rest) = if same_text n m then Some s else shape_of n rest

abbrev pub is_of : ScalarKind → Scalar → Bool
is_of texts (text t) = true
is_of wholes (whole z) = true
is_of truths (truth b) = true
is_of _ _ = false

-- ---- keys of vs

abbrev pub cons_scalar : Text → Option Json → List (Text × Scalar) → List (Text × Scalar)
cons_scalar n (Some (scalar s)) ks = (n, s) ∷ ks
cons_scalar n _ ks = ks

abbrev pub key_scalars : List Text → Members → List (Text × Scalar)
key_scalars [] ms = []
key_scalars (n ∷ ns) ms = cons_scalar n (member_of n ms) (key_scalars ns ms)

-- the element of an item with these ms
abbrev pub item_key : List Text → Members → Element
item_key names ms = key (key_scalars names ms)

-- ---- faults

pub data BodyFault : Type 0 where
  unknown_field : BodyFault
  wrong_type : BodyFault
  missing_key : BodyFault
  duplicate_item : BodyFault

-- a fault of a value, and the path where it is
pub record FaultAt : Type 0 where
  pub fault : BodyFault
  pub path : Path

abbrev pub fault_at : BodyFault → Path → FaultAt
fault_at f p = record { fault = f; path = p }

abbrev pub fault_unless : Bool → BodyFault → Path → List FaultAt
fault_unless b f p = if b then [] else fault_at f p ∷ []

-- the first list, or the second where that is empty
abbrev pub or_else : {X : Type 0} → List X → List X → List X
or_else [] ys = ys
or_else (x ∷ xs) ys = x ∷ xs

abbrev mutual
  pub shape_faults : Shape → Json → Path → List FaultAt
  shape_faults (scalar_shape k) (scalar s) p = fault_unless (is_of k s) wrong_type p
  shape_faults (record_shape fs) (object ms) p = shape_field_faults fs ms p
  shape_faults (dict_shape s) (object ms) p = shape_entry_faults s ms p
  shape_faults (list_shape s) (list vs) p = shape_item_faults s vs p
  shape_faults _ _ p = fault_at wrong_type p ∷ []

  pub shape_field_faults : ShapeFields → Members → Path → List FaultAt
  shape_field_faults fs no_members p = []
  shape_field_faults fs (member n v rest) p =
      elim (shape_of n fs) [ None ↦ fault_at unknown_field p ∷ [] | Some s ↦ shape_faults s v p ] ++ shape_field_faults fs rest p

  pub shape_entry_faults : Shape → Members → Path → List FaultAt
  shape_entry_faults s no_members p = []
  shape_entry_faults s (member n v rest) p = shape_faults s v p ++ shape_entry_faults s rest p

  pub shape_item_faults : Shape → Items → Path → List FaultAt
  shape_item_faults s no_items p = []
  shape_item_faults s (item v rest) p = shape_faults s v p ++ shape_item_faults s rest p

-- a key field is there and of its kind
abbrev pub key_field_fault : Option Kind → Option Json → Path → List FaultAt
key_field_fault (Some (scalar_kind k)) (Some (scalar s)) p = fault_unless (is_of k s) wrong_type p
key_field_fault _ (Some v) p = fault_at wrong_type p ∷ []
key_field_fault _ None p = fault_at missing_key p ∷ []

abbrev pub key_faults : List Text → Fields → Members → Path → List FaultAt
key_faults [] fs ms p = []
key_faults (n ∷ ns) fs ms p = key_field_fault (kind_of n fs) (member_of n ms) p ++ key_faults ns fs ms p

abbrev pub is_among : Element → List Element → Bool
is_among e es = list_any (same_element e) es

-- all faults of a value at a path, in the order of the walk
abbrev mutual
  pub faults : Kind → Json → Path → List FaultAt
  faults (scalar_kind k) (scalar s) p = fault_unless (is_of k s) wrong_type p
  faults (atomic_of s) v p = shape_faults s v p
  faults (record_of fs) (object ms) p = field_faults fs ms p
  faults (dict_of k) (object ms) p = entry_faults k ms p
  faults (set_of k) (list vs) p = value_faults k [] vs p
  faults (items_of names fs) (list vs) p = item_faults names fs [] vs p
  faults _ _ p = fault_at wrong_type p ∷ []

  pub field_faults : Fields → Members → Path → List FaultAt
  field_faults fs no_members p = []
  field_faults fs (member n v rest) p =
      elim (kind_of n fs) [ None ↦ fault_at unknown_field (p ++ field n ∷ []) ∷ [] | Some k ↦ faults k v (p ++ field n ∷ []) ] ++ field_faults fs rest p

  pub entry_faults : Kind → Members → Path → List FaultAt
  entry_faults k no_members p = []
  entry_faults k (member n v rest) p = faults k v (p ++ field n ∷ []) ++ entry_faults k rest p

  pub value_faults : ScalarKind → List Element → Items → Path → List FaultAt
  value_faults k earlier no_items p = []
  value_faults k earlier (item (scalar s) rest) p =
      or_else (fault_unless (is_of k s) wrong_type p) (fault_unless (not (is_among (value s) earlier)) duplicate_item (p ++ value s ∷ []))
      ++ value_faults k (value s ∷ earlier) rest p
  value_faults k earlier (item v rest) p = fault_at wrong_type p ∷ value_faults k earlier rest p

  pub item_faults : List Text → Fields → List Element → Items → Path → List FaultAt
  item_faults names fs earlier no_items p = []
  item_faults names fs earlier (item (object ms) rest) p =
      let k = item_key names ms in
      or_else (key_faults names fs ms p)
      (if is_among k earlier then fault_at duplicate_item (p ++ k ∷ []) ∷ [] else field_faults fs ms (p ++ k ∷ []))
      ++ item_faults names fs (k ∷ earlier) rest p
  item_faults names fs earlier (item v rest) p = fault_at wrong_type p ∷ item_faults names fs earlier rest p
