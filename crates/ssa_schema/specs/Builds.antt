-- The shapes and kinds of schemas, level by level.
use Rattle.std.specs.Prelude.{ℕ, List, [], None, Some, codes, if◌then◌else◌}
use Rattle.ssa_model.specs.definitions.Json.{Text, Json, Items, no_items, item, Members, member_of, as_text}
use Rattle.ssa_model.specs.definitions.Kind.{Shape, scalar_shape, record_shape, dict_shape, list_shape, no_shape_fields, Kind, scalar_kind, record_of, dict_of, set_of, items_of}
use Rattle.ssa_model.specs.definitions.Schema.{is_array_type, is_object_type, list_type_is, scalar_kind_of, shape_fields, kind_fields, property_members, item_members, key_names, sorted_texts, with_text, shape_of_schema, kind_of_schema}

-- where so many levels are left
unfoldable pub shape_at : ℕ → Json → Shape
shape_at = shape_of_schema

unfoldable pub kind_at : ℕ → Json → Kind
kind_at = kind_of_schema

-- ---- shapes, where so many levels are left below

abbrev pub list_shape_at : ℕ → Members → Shape
list_shape_at levels ms = elim (member_of (codes "items") ms) [ None ↦ record_shape no_shape_fields | Some v ↦ list_shape (shape_at levels v) ]

abbrev pub fields_shape_at : ℕ → Members → Shape
fields_shape_at levels ms =
    elim (member_of (codes "additionalProperties") ms) [
      | None ↦ record_shape (shape_fields (shape_at levels) (property_members ms))
      | Some v ↦ dict_shape (shape_at levels v)
    ]

abbrev pub object_shape : ℕ → Members → Shape
object_shape levels ms = if is_array_type ms then list_shape_at levels
    ms else (if is_object_type ms then fields_shape_at levels ms else scalar_shape (scalar_kind_of ms))

-- ---- kinds of what is not atomic, where so many levels are left below

abbrev pub list_kind_at : ℕ → Members → Kind
list_kind_at levels ms =
    if list_type_is (codes "set") ms then set_of (scalar_kind_of (item_members ms))
    else items_of (sorted_texts (key_names ms)) (kind_fields (kind_at levels) (property_members (item_members ms)))

abbrev pub fields_kind_at : ℕ → Members → Kind
fields_kind_at levels ms =
    elim (member_of (codes "additionalProperties") ms) [
      | None ↦ record_of (kind_fields (kind_at levels) (property_members ms))
      | Some v ↦ dict_of (kind_at levels v)
    ]

abbrev pub merged_kind : ℕ → Members → Kind
merged_kind levels ms = if is_array_type ms then list_kind_at levels
    ms else (if is_object_type ms then fields_kind_at levels ms else scalar_kind (scalar_kind_of ms))

-- the texts among the items, sorted
abbrev pub sorted_items : Items → List Text
sorted_items no_items = []
sorted_items (item v vs) = elim (as_text v) [ None ↦ sorted_items vs | Some t ↦ with_text t (sorted_items vs) ]
