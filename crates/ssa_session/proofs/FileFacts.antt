-- Faults of files, from the faults of their parts.
use Rattle.std.proofs.Common.{ℕ, ◌≡◌, refl, ap, ◌∙◌}
use Rattle.std.specs.Prelude.{Result, Ok, Err}
use Rattle.ssa_model.specs.definitions.Json.{Text, Json, object}
use Rattle.ssa_model.specs.definitions.Kind.{Kind}
use Rattle.ssa_model.specs.definitions.Schema as schemas
use Rattle.ssa_model.specs.definitions.Schema.{read_schema, schema_keyword, schema_shape, schema_keys, schema_depth, Schema}
use Rattle.ssa_model.specs.definitions.History.{Bench}
use Rattle.ssa_model.specs.definitions.Answers as answers
use Rattle.ssa_model.specs.definitions.Files as model
use Rattle.ssa_model.specs.definitions.Files.{bench_with_file, bench_or_fault, of_object, of_schema, schema_of, schema_of_file, value_of_file}
use Rattle.ssa_json.specs.Readings.{readings}
use Rattle.ssa_schema.specs.Schemas.{Faults}
use Rattle.ssa_schema.specs.declared.fault.SchemaFault.{SchemaFault}
use Rattle.ssa_schema.specs.declared.fault.SchemaFault.TheVariants as schema
use Rattle.ssa_answers.specs.Faults.{IsGiven}
use Rattle.ssa_answers.specs.declared.fault.Fault as engine
use Rattle.ssa_answers.specs.declared.fault.Fault.TheVariants as bench
use Rattle.ssa_session.specs.Files.{IsGivenFile, object_fault, schema_fault}

-- ---- a schema file

abbrev kind_or_fault : Json → Result Kind schemas.SchemaFault → Result Schema model.FileFault
kind_or_fault v r = elim r [ Ok kind ↦ Ok (record { source = v; kind = kind }) | Err f ↦ Err (of_schema f) ]

by-value : (bytes : Text) (v : Json) (r : Result Kind schemas.SchemaFault) → value_of_file readings bytes ≡ Ok v → read_schema v ≡ r
    → schema_of_file readings bytes ≡ kind_or_fault v r
by-value bytes v r is e = ap (λ x. elim x [ Ok w ↦ schema_of w | Err f ↦ Err f ]) is ∙ ap (kind_or_fault v) e

-- a schema that is refused is the fault of its file
pub schema-refused : (f : SchemaFault) (bytes : Text) (v : Json) → value_of_file readings bytes ≡ Ok v → Faults f (read_schema v)
    → IsGivenFile {A = Schema} (Err (schema_fault f)) (schema_of_file readings bytes)
schema-refused schema.SchemaKeyword bytes v is h = (of_schema schema_keyword, by-value bytes v _ is h, refl)
schema-refused schema.SchemaShape bytes v is h = (of_schema schema_shape, by-value bytes v _ is h, refl)
schema-refused schema.SchemaKeys bytes v is h = (of_schema schema_keys, by-value bytes v _ is h, refl)
schema-refused schema.SchemaDepth bytes v is h = (of_schema schema_depth, by-value bytes v _ is h, refl)
schema-refused schema.OutOfMemory bytes v is h = tt

-- ---- an object file

by-object : (depth : ℕ) (s : Schema) (bytes : Text) (v : Json) (r : Result Bench answers.Fault) → value_of_file readings bytes ≡ Ok v
    → answers.bench_with readings depth s v ≡ r → bench_with_file readings depth s bytes ≡ bench_or_fault r
by-object depth s bytes v r is e = ap (λ x. elim x [ Ok w ↦ bench_or_fault (answers.bench_with readings depth s w) | Err f ↦ Err f ]) is ∙ ap bench_or_fault e

-- an object that is refused is the fault of its file
pub object-refused : (f : engine.Fault) (depth : ℕ) (s : Schema) (bytes : Text) (v : Json) → value_of_file readings bytes ≡ Ok v
    → IsGiven {A = Bench} (Err f) (answers.bench_with readings depth s v)
    → IsGivenFile {A = Bench} (Err (object_fault f)) (bench_with_file readings depth s bytes)
object-refused bench.OutOfMemory depth s bytes v is h = tt
object-refused _ depth s bytes v is h = (of_object h.0, by-object depth s bytes v _ is h.1, (h.0, refl, h.2))
