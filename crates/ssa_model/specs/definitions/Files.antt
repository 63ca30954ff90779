-- What a schema file and an object file say: a bench, or the first fault.
use Rattle.std.specs.Prelude.{ℕ, Result, Ok, Err, if◌then◌else◌, nat_lt, length}
use Rattle.ssa_model.specs.definitions.Json.{Text, Json, compact}
use Rattle.ssa_model.specs.definitions.Limits.{most_input_bytes, most_past}
use Rattle.ssa_model.specs.definitions.Schema.{SchemaFault, read_schema, Schema}
use Rattle.ssa_model.specs.definitions.History.{Bench}
use Rattle.ssa_model.specs.definitions.Readings.{ReadFault, Readings}
use Rattle.ssa_model.specs.definitions.Answers as answers
use Rattle.ssa_model.specs.definitions.Faults as code
use Rattle.ssa_model.specs.definitions.Faults.{Code, read_fault_code, schema_fault_code, fault_code}
use Rattle.ssa_model.specs.definitions.Replies.{fault_json, fault_reply}

-- why a file is refused
pub data FileFault : Type 0 where
  too_long : FileFault
  unread : ReadFault → FileFault
  of_schema : SchemaFault → FileFault
  of_object : answers.Fault → FileFault

abbrev pub file_fault_code : FileFault → Code
file_fault_code too_long = code.too_long
file_fault_code (unread f) = read_fault_code f
file_fault_code (of_schema f) = schema_fault_code f
file_fault_code (of_object f) = fault_code f

abbrev pub file_fault_json : FileFault → Json
file_fault_json (of_object f) = fault_reply f
file_fault_json f = fault_json (file_fault_code f)

-- the line that tells of the fault, without its line feed
abbrev pub file_fault_text : FileFault → Text
file_fault_text f = compact (file_fault_json f)

abbrev pub value_or_fault : Result Json ReadFault → Result Json FileFault
value_or_fault (Ok v) = Ok v
value_or_fault (Err f) = Err (unread f)

-- the schema that a value is
abbrev pub schema_of : Json → Result Schema FileFault
schema_of v = elim (read_schema v) [ Ok kind ↦ Ok (record { source = v; kind = kind }) | Err f ↦ Err (of_schema f) ]

abbrev pub bench_or_fault : Result Bench answers.Fault → Result Bench FileFault
bench_or_fault (Ok bench) = Ok bench
bench_or_fault (Err f) = Err (of_object f)

module _ (readings : Readings) where
  -- the value that a file's bytes are
  abbrev pub value_of_file : Text → Result Json FileFault
  value_of_file bytes = if nat_lt most_input_bytes (length bytes) then Err too_long else value_or_fault (readings.value bytes)

  -- the schema of a schema file
  abbrev pub schema_of_file : Text → Result Schema FileFault
  schema_of_file bytes = elim (value_of_file bytes) [ Ok v ↦ schema_of v | Err f ↦ Err f ]

  -- the bench of an object file under the schema, of this depth
  abbrev pub bench_with_file : ℕ → Schema → Text → Result Bench FileFault
  bench_with_file depth schema bytes =
      elim (value_of_file bytes) [ Ok v ↦ bench_or_fault (answers.bench_with readings depth schema v) | Err f ↦ Err f ]

  -- that of the greatest depth
  abbrev pub bench_of_file : Schema → Text → Result Bench FileFault
  bench_of_file = bench_with_file most_past
