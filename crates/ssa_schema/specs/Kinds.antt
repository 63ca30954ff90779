-- What kinds are.
use Rattle.std.specs.Prelude.{ℕ, List, [], ◌∷◌, map, String, string_bytes}
use Rattle.std.specs.declared.alloc.Global.{Global}
use Rattle.ssa_model.specs.definitions.Kind as model
use Rattle.ssa_schema.specs.declared.kind.ScalarKind.{ScalarKind}
use Rattle.ssa_schema.specs.declared.kind.ScalarKind.TheVariants.{Text, Whole, Truth}
use Rattle.ssa_schema.specs.declared.kind.Shape.{Shape, fold-Shape}
use Rattle.ssa_schema.specs.declared.kind.Shape.TheOpen.{Shape-F}
use Rattle.ssa_schema.specs.declared.kind.Kind.{Kind, fold-Kind}
use Rattle.ssa_schema.specs.declared.kind.Kind.TheOpen.{Kind-F}

abbrev pub scalar_kind_view : ScalarKind → model.ScalarKind
scalar_kind_view Text = model.texts
scalar_kind_view Whole = model.wholes
scalar_kind_view Truth = model.truths

abbrev pub shape_fields_of : List (String Global × model.Shape) → model.ShapeFields
shape_fields_of [] = model.no_shape_fields
shape_fields_of (f ∷ fs) = model.shape_field (string_bytes f.0) f.1 (shape_fields_of fs)

-- one level, with each shape inside already seen
abbrev pub shape_step : Shape-F model.Shape → model.Shape
shape_step (Shape-F.Scalar k) = model.scalar_shape (scalar_kind_view k)
shape_step (Shape-F.Record fs) = model.record_shape (shape_fields_of fs.entries)
shape_step (Shape-F.Dict s) = model.dict_shape s.value
shape_step (Shape-F.List s) = model.list_shape s.value

abbrev pub shape_view : Shape → model.Shape
shape_view = fold-Shape model.Shape shape_step

abbrev pub shape_fields_view : List (String Global × Shape) → model.ShapeFields
shape_fields_view fs = shape_fields_of (map (λ f. (f.0, shape_view f.1)) fs)

abbrev pub fields_of : List (String Global × model.Kind) → model.Fields
fields_of [] = model.no_fields
fields_of (f ∷ fs) = model.kind_field (string_bytes f.0) f.1 (fields_of fs)

-- one level, with each kind inside already seen
abbrev pub kind_step : Kind-F model.Kind → model.Kind
kind_step (Kind-F.Scalar k) = model.scalar_kind (scalar_kind_view k)
kind_step (Kind-F.AtomicOf s) = model.atomic_of (shape_view s)
kind_step (Kind-F.Record fs) = model.record_of (fields_of fs.entries)
kind_step (Kind-F.Dict k) = model.dict_of k.value
kind_step (Kind-F.SetOf k) = model.set_of (scalar_kind_view k)
kind_step (Kind-F.ItemsOf keys fields) = model.items_of (map string_bytes keys.items) (fields_of fields.entries)

abbrev pub kind_view : Kind → model.Kind
kind_view = fold-Kind model.Kind kind_step

abbrev pub fields_view : List (String Global × Kind) → model.Fields
fields_view fs = fields_of (map (λ f. (f.0, kind_view f.1)) fs)

-- the names of a list of texts of the program
abbrev pub names_view : List (String Global) → List (List ℕ)
names_view = map string_bytes
