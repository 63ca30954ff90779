-- Which fault of a file is told, results that a file's fault may refuse, and what telling a fault writes.
use Rattle.std.specs.Prelude.{◌≡◌, ℕ, List, [], ◌∷◌, ◌++◌, ◌⊎◌, Option, Result, Ok, Err}
use Rattle.std.specs.Io.KnownBytes.{Appends}
use Rattle.ssa_model.specs.definitions.Json as json_model
use Rattle.ssa_model.specs.definitions.Json.{Text}
use Rattle.ssa_model.specs.definitions.Readings.{not_json, null_value, number_outside}
use Rattle.ssa_model.specs.definitions.Schema.{schema_keyword, schema_shape, schema_keys, schema_depth}
use Rattle.ssa_model.specs.definitions.Answers as answers
use Rattle.ssa_model.specs.definitions.Files as model
use Rattle.ssa_model.specs.definitions.Lines.{line_feed}
use Rattle.ssa_model.specs.definitions.Session.{out_of_memory_text}
use Rattle.ssa_model.specs.definitions.Files.{too_long, unread, of_schema, of_object, file_fault_text}
use Rattle.ssa_json.specs.Devices.{AppendsPart}
use Rattle.ssa_json.specs.View.{view}
use Rattle.ssa_json.specs.declared.source.DeviceFault.{DeviceFault}
use Rattle.ssa_json.specs.declared.value.Json as values
use Rattle.ssa_json.specs.declared.fault.JsonFault.{JsonFault}
use Rattle.ssa_json.specs.declared.fault.JsonFault.TheVariants as json
use Rattle.ssa_schema.specs.declared.fault.SchemaFault.{SchemaFault}
use Rattle.ssa_schema.specs.declared.fault.SchemaFault.TheVariants as schema
use Rattle.ssa_answers.specs.Faults.{IsFault}
use Rattle.ssa_answers.specs.declared.fault.Fault as engine
use Rattle.ssa_answers.specs.declared.fault.Fault.TheVariants as bench
use Rattle.ssa_session.specs.declared.files.Ending.{Ending}
use Rattle.ssa_session.specs.declared.files.Ending.TheVariants as ending
use Rattle.ssa_session.specs.declared.files.FileFault.{FileFault}
use Rattle.ssa_session.specs.declared.files.FileFault.TheVariants.{Json, Schema, Object, OutOfMemory}

-- The fault is the given one.
abbrev pub IsFileFault : FileFault → model.FileFault → Type 0
IsFileFault (Json json.TooLong) g = g ≡ too_long
IsFileFault (Json json.NotJson) g = g ≡ unread not_json
IsFileFault (Json json.NullValue) g = g ≡ unread null_value
IsFileFault (Json json.NumberOutside) g = g ≡ unread number_outside
IsFileFault (Json json.OutOfMemory) g = ⊥
IsFileFault (Schema schema.SchemaKeyword) g = g ≡ of_schema schema_keyword
IsFileFault (Schema schema.SchemaShape) g = g ≡ of_schema schema_shape
IsFileFault (Schema schema.SchemaKeys) g = g ≡ of_schema schema_keys
IsFileFault (Schema schema.SchemaDepth) g = g ≡ of_schema schema_depth
IsFileFault (Schema schema.OutOfMemory) g = ⊥
IsFileFault (Object f) g = (h : answers.Fault) × (g ≡ of_object h) × IsFault f h
IsFileFault OutOfMemory g = ⊥

-- The result is the given one; of want of memory nothing is said.
abbrev pub IsGivenFile : {A : Type 0} → Result A FileFault → Result A model.FileFault → Type 0
IsGivenFile (Ok a) given = given ≡ Ok a
IsGivenFile (Err OutOfMemory) given = Unit {0}
IsGivenFile (Err f) given = (g : model.FileFault) × (given ≡ Err g) × IsFileFault f g

-- what is told of a fault of one of the parts
abbrev pub json_fault : JsonFault → FileFault
json_fault json.OutOfMemory = OutOfMemory
json_fault f = Json f

abbrev pub schema_fault : SchemaFault → FileFault
schema_fault schema.OutOfMemory = OutOfMemory
schema_fault f = Schema f

abbrev pub object_fault : engine.Fault → FileFault
object_fault bench.OutOfMemory = OutOfMemory
object_fault f = Object f

-- The same of a value.
abbrev pub IsGivenValue : Result values.Json FileFault → Result json_model.Json model.FileFault → Type 0
IsGivenValue (Ok v) given = given ≡ Ok (view v)
IsGivenValue (Err f) given = IsGivenFile {A = json_model.Json} (Err f) given

-- the line tells the fault; want of memory has no line of its own
abbrev pub IsTold : FileFault → Text → Type 0
IsTold (Json json.OutOfMemory) line = ⊥
IsTold (Schema schema.OutOfMemory) line = ⊥
IsTold (Object bench.OutOfMemory) line = ⊥
IsTold OutOfMemory line = ⊥
IsTold f line = (g : model.FileFault) → IsFileFault f g → line ≡ file_fault_text g

-- so much is written of the line that tells of want of memory
abbrev pub TellsWant : (List ℕ → Type 0) → Type 0
TellsWant Writes = Writes (out_of_memory_text ++ line_feed ∷ [])

-- What telling a fault writes: its line, where it refuses, or the line of want of memory; where the device fails, a beginning of one of them.
abbrev pub IsTelling : FileFault → Option (List ℕ) → Option (List ℕ) → Result Ending DeviceFault → Type 0
IsTelling f old new (Ok ending.Refused) = (line : List ℕ) × IsTold f line × Appends old new (line ++ line_feed ∷ [])
IsTelling f old new (Ok ending.OutOfMemory) = TellsWant (Appends old new)
IsTelling f old new (Err fault) = ((line : List ℕ) × IsTold f line × AppendsPart old new (line ++ line_feed ∷ [])) ⊎ TellsWant (AppendsPart old new)
