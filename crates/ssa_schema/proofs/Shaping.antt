-- Laws of building shapes.
use Rattle.std.proofs.Common.{◌≡◌, ℕ, zero, suc, List, [], ◌∷◌, map, String, Global, string_bytes, refl, ap, ◌∙◌, rules}
use Rattle.ssa_members.specs.Members.{Members as Entries}
use Rattle.ssa_model.specs.definitions.Json.{Text, Json, scalar, list, object, Scalar, Items, Members}
use Rattle.ssa_model.specs.definitions.Kind as model
use Rattle.ssa_model.specs.definitions.Schema.{shape_fields}
use Rattle.ssa_json.specs.View.{view, members_view}
use Rattle.ssa_json.proofs.Converting.{Found}
use Rattle.ssa_schema.specs.Kinds.{shape_view, shape_fields_view}
use Rattle.ssa_schema.specs.Builds.{shape_at, object_shape}
use Rattle.ssa_schema.proofs.Made.{named, asked}
use Rattle.ssa_schema.specs.declared.kind.Shape as shape

-- ---- one level

-- where no level is left, the shape is a record without fields
pub shape_at_none : (v : Json) → shape_at zero v ≡ model.record_shape model.no_shape_fields
unfolding shape_at
shape_at_none v = refl

-- a list is no schema: its shape is a record without fields
pub shape_at_list : (n : ℕ) (vs : Items) → shape_at (suc n) (list vs) ≡ model.record_shape model.no_shape_fields
unfolding shape_at
shape_at_list n vs = refl

-- a scalar is no schema: its shape is a record without fields
pub shape_at_scalar : (n : ℕ) (s : Scalar) → shape_at (suc n) (scalar s) ≡ model.record_shape model.no_shape_fields
unfolding shape_at
shape_at_scalar n s = refl

-- the shape of an object goes by its type
pub shape_at_object : (n : ℕ) (ms : Members) → shape_at (suc n) (object ms) ≡ object_shape n ms
unfolding shape_at
shape_at_object n ms = refl

-- ---- views

-- the shape of a record is seen as a record of the map's fields
pub shape_view-Record : (m : Entries shape.Shape) → shape_view (shape.Record m) ≡ model.record_shape (shape_fields_view m.entries)
shape_view-Record m = search (rules, shape.the_lemmas)

-- where the map is empty, it is a record without fields
pub shape_view-none : (m : Entries shape.Shape) → m.entries ≡ [] → shape_view (shape.Record m) ≡ model.record_shape model.no_shape_fields
shape_view-none m none = shape_view-Record m ∙ ap (λ es. model.record_shape (shape_fields_view es)) none

-- ---- fields by name

fields_of : List (Text × model.Shape) → model.ShapeFields
fields_of [] = model.no_shape_fields
fields_of (x ∷ xs) = model.shape_field x.0 x.1 (fields_of xs)

made_fields : (ms : List (String Global × shape.Shape)) → shape_fields_view ms ≡ fields_of (map (named shape_view) ms)
unfolding fields_of
made_fields [] = refl
made_fields (m ∷ ms) = ap (model.shape_field (string_bytes m.0) (shape_view m.1)) (made_fields ms)

asked_fields : (n : ℕ) (es : List Found) → fields_of (map (asked (shape_at n)) es) ≡ shape_fields (shape_at n) (members_view es)
unfolding fields_of
asked_fields n [] = refl
asked_fields n (e ∷ es) = ap (model.shape_field (string_bytes e.0) (shape_at n (view e.1))) (asked_fields n es)

-- where a shape was made of each property, the map's fields are those of the properties
pub fields-made : (n : ℕ) (ms : List (String Global × shape.Shape)) (es : List Found) → map (named shape_view) ms ≡ map (asked (shape_at n)) es
    → shape_fields_view ms ≡ shape_fields (shape_at n) (members_view es)
fields-made n ms es same = made_fields ms ∙ ap fields_of same ∙ asked_fields n es
