-- What is taken from one line of a bench file of records, in a state whose paths, moments and sets are read back: the line of a move
-- is taken as the move, and any other value as its fault.
use Rattle.std.specs.Prelude.{◌≡◌, true, false, Ok, Err, codes}
use Rattle.ssa_model.specs.definitions.Json.{Json, member_at}
use Rattle.ssa_model.specs.definitions.Readings.{Readings}
use Rattle.ssa_model.specs.definitions.Kind.{Kind}
use Rattle.ssa_model.specs.definitions.Commands.{value_in}
use Rattle.ssa_model.specs.definitions.Entries.{version_in}
use Rattle.ssa_model.specs.definitions.Objects.{is_identity}
use Rattle.ssa_model.specs.definitions.Lawful.{IsSchemaKind}
use Rattle.ssa_model.specs.definitions.MemberNames.{has_rising_names}
use Rattle.ssa_model.specs.definitions.Operations.{State}
use Rattle.ssa_model.specs.definitions.History.{Label, Bench}
use Rattle.ssa_model.specs.definitions.Valid.{AllEntries, IsValidState, KeepsOrder}
use Rattle.ssa_model.specs.definitions.BenchFile.{IsReadBack, IsLabel}
use Rattle.ssa_model.specs.definitions.Record.{record_of}
use Rattle.ssa_model.specs.definitions.RecordText.{record_json}
use Rattle.ssa_model.specs.definitions.RecordReading.{HasReadPaths, IsReadState}
use Rattle.ssa_model.specs.definitions.RecordedBench.{record_line}
use Rattle.ssa_model.specs.definitions.BenchOfStates.{said_label}
use Rattle.ssa_model.specs.definitions.BenchFaults.{no_move_text, record_does_not_fit, is_move_shape, value_move}

-- a valid state whose paths, moments and sets are read back
pub record IsReadBackState (readings : Readings) (kind : Kind) (v : State) : Type 0 where
  pub valid : IsValidState kind v
  pub paths : HasReadPaths readings v.body
  pub table : AllEntries (IsReadBack readings) v.table

-- what a bench tells of the lines of its file: its kind is that of a schema, and its identity has its parts
pub record TellsLines (bench : Bench) : Type 0 where
  pub accepted : IsSchemaKind bench.schema.kind
  pub named : is_identity bench.identity ≡ true

-- the value of a line's record is that of two states
abbrev pub IsRecordLineOf : Bench → Json → State → State → Type 0
IsRecordLineOf bench j v w = value_in (member_at (codes "record") j) ≡ record_json (version_in bench.identity.version) bench.schema.kind (record_of v w)

-- the line of a move between two such states is taken as that move
abbrev pub LineIsMove : Type 0
LineIsMove =
    (readings : Readings) (bench : Bench) (label : Label) (v w : State)
    → TellsLines bench → IsLabel readings label → IsReadBackState readings bench.schema.kind v → IsReadBackState readings bench.schema.kind w
    → KeepsOrder v.table w.table → value_move readings bench v (record_line bench label v w) ≡ Ok (label, w)

-- a value that has not the shape of a line is told so
abbrev pub ShapelessIsNoMove : Type 0
ShapelessIsNoMove =
    (readings : Readings) (bench : Bench) (v : State) (j : Json)
    → TellsLines bench → IsReadBackState readings bench.schema.kind v → is_move_shape readings j ≡ false → value_move readings bench v j ≡ Err no_move_text

-- one that has it, with a record that is none from its state to a valid one that is read, is told so
abbrev pub MisfitIsTold : Type 0
MisfitIsTold =
    (readings : Readings) (bench : Bench) (v : State) (j : Json)
    → TellsLines bench → IsReadBackState readings bench.schema.kind v → is_move_shape readings j ≡ true
    → ((w : State) → IsValidState bench.schema.kind w → KeepsOrder v.table w.table → IsReadState readings w → IsRecordLineOf bench j v w → ⊥)
    → value_move readings bench v j ≡ Err record_does_not_fit

-- a value of the shape, whose names rise, is the line of the label and the record that its members say
abbrev pub LineOfParts : Type 0
LineOfParts =
    (readings : Readings) (bench : Bench) (label : Label) (v w : State) (j : Json)
    → is_move_shape readings j ≡ true → has_rising_names j ≡ true
    → said_label (value_in (member_at (codes "command") j)) ≡ label → IsRecordLineOf bench j v w
    → (j ≡ record_line bench label v w) × IsLabel readings label
