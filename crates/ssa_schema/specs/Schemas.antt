-- What reading a schema answers.
use Rattle.std.specs.Prelude.{◌≡◌, Result, Ok, Err}
use Rattle.ssa_model.specs.definitions.Json.{Json}
use Rattle.ssa_model.specs.definitions.Kind as kinds
use Rattle.ssa_model.specs.definitions.Schema as model
use Rattle.ssa_schema.specs.Kinds.{kind_view}
use Rattle.ssa_schema.specs.declared.kind.Kind.{Kind}
use Rattle.ssa_schema.specs.declared.fault.SchemaFault.{SchemaFault}
use Rattle.ssa_schema.specs.declared.fault.SchemaFault.TheVariants.{SchemaKeyword, SchemaShape, SchemaKeys, SchemaDepth, OutOfMemory}
use Rattle.ssa_schema.specs.declared.read.refusal.Refusal.{Refusal}
use Rattle.ssa_schema.specs.declared.read.refusal.Refusal.TheVariants.{Keyword, Shape, Keys, Depth}

-- the kind of the root, or the first fault
unfoldable pub schema_reading : Json → Result kinds.Kind model.SchemaFault
schema_reading = model.read_schema

-- the fault is the one that is told; want of memory says nothing
abbrev pub Faults : {A : Type 0} → SchemaFault → Result A model.SchemaFault → Type 0
Faults SchemaKeyword r = r ≡ Err model.schema_keyword
Faults SchemaShape r = r ≡ Err model.schema_shape
Faults SchemaKeys r = r ≡ Err model.schema_keys
Faults SchemaDepth r = r ≡ Err model.schema_depth
Faults OutOfMemory r = Unit {0}

abbrev pub fault_of : Refusal → SchemaFault
fault_of Keyword = SchemaKeyword
fault_of Shape = SchemaShape
fault_of Keys = SchemaKeys
fault_of Depth = SchemaDepth

-- the kind is the one that is read
abbrev pub ReadsKind : Result Kind SchemaFault → Result kinds.Kind model.SchemaFault → Type 0
ReadsKind (Ok k) r = r ≡ Ok (kind_view k)
ReadsKind (Err fault) r = Faults fault r

-- the schema is what was given, with the kind that is read
abbrev pub ReadsSchema : Result model.Schema SchemaFault → Json → Result kinds.Kind model.SchemaFault → Type 0
ReadsSchema (Ok s) v r = (s.source ≡ v) × (r ≡ Ok s.kind)
ReadsSchema (Err fault) v r = Faults fault r
