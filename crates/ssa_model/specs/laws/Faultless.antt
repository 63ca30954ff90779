-- Values without faults, at whatever path, and their parts.
use Rattle.std.specs.Prelude.{◌≡◌, List, [], Some}
use Rattle.ssa_model.specs.definitions.Json.{Text, Scalar, Json, scalar, object, Items, Members}
use Rattle.ssa_model.specs.definitions.Path.{Path}
use Rattle.ssa_model.specs.definitions.Kind.{ScalarKind, Kind, Fields, faults, field_faults, entry_faults, value_faults, item_faults, key_faults, kind_of}

abbrev pub Fits : Kind → Json → Type 0
Fits k v = (p : Path) × (faults k v p ≡ [])

abbrev pub FieldsFit : Fields → Members → Type 0
FieldsFit fs ms = (p : Path) × (field_faults fs ms p ≡ [])

abbrev pub EntriesFit : Kind → Members → Type 0
EntriesFit k ms = (p : Path) × (entry_faults k ms p ≡ [])

abbrev pub ValuesFit : ScalarKind → Items → Type 0
ValuesFit k vs = (p : Path) × (value_faults k [] vs p ≡ [])

abbrev pub ItemsFit : List Text → Fields → Items → Type 0
ItemsFit names fs vs = (p : Path) × (item_faults names fs [] vs p ≡ [])

abbrev pub KeysFit : List Text → Fields → Members → Type 0
KeysFit names fs ms = (p : Path) × (key_faults names fs ms p ≡ [])

-- the member has a field, and fits it
abbrev pub MemberFits : Fields → Text → Json → Type 0
MemberFits fs n v = (k : Kind) × ((kind_of n fs ≡ Some k) × Fits k v)

-- the item of a map list is an object that has the key fields, and fits them
abbrev pub ItemFits : List Text → Fields → Json → Type 0
ItemFits names fs v = (ms : Members) × ((v ≡ object ms) × (KeysFit names fs ms × FieldsFit fs ms))

-- the value is a scalar
abbrev pub IsScalar : Json → Type 0
IsScalar v = (s : Scalar) × (v ≡ scalar s)
