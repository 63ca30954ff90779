-- A bench file of records is taken as the bench of which it is the file, where there is one.
use Rattle.std.specs.Prelude.{◌≡◌, true, Some, None}
use Rattle.ssa_model.specs.definitions.Json.{Text}
use Rattle.ssa_model.specs.definitions.Readings.{Readings}
use Rattle.ssa_model.specs.definitions.Operations.{State}
use Rattle.ssa_model.specs.definitions.History.{Label, Bench}
use Rattle.ssa_model.specs.definitions.BenchText.{Format, format_number}
use Rattle.ssa_model.specs.definitions.Valid.{IsValidState}
use Rattle.ssa_model.specs.definitions.BenchFile.{IsLabel}
use Rattle.ssa_model.specs.definitions.Formats.{IsFile}
use Rattle.ssa_model.specs.definitions.Objects.{is_identity}
use Rattle.ssa_model.specs.definitions.RecordReading.{IsReadState}
use Rattle.ssa_model.specs.definitions.RecordedBench.{record_line, recorded_text}
use Rattle.ssa_model.specs.definitions.BenchOfRecords.{recorded_bench_in, record_format}
use Rattle.ssa_model.specs.definitions.BenchFaults.{recorded_fault, record_does_not_fit, is_move_shape}

-- the format is one of records
abbrev pub IsOfRecords : Format → Type 0
IsOfRecords f = record_format (format_number f) ≡ Some f

-- the file of a bench is taken as that bench
abbrev pub RecordedFilesAreTaken : Type 0
RecordedFilesAreTaken =
    (readings : Readings) (f : Format) (t : Text) (bench : Bench) → IsOfRecords f → IsFile readings f t bench → recorded_bench_in readings t ≡ Some bench

-- a text that is taken is the text of what it is taken as, in one of the formats of records
abbrev pub TakenIsRecordedText : Type 0
TakenIsRecordedText =
    (readings : Readings) (t : Text) (bench : Bench) → recorded_bench_in readings t ≡ Some bench → (f : Format) × IsOfRecords f × (t ≡ recorded_text f bench)

-- a text that tells of a record that doesn't fit is refused
abbrev pub MisfitIsRefused : Type 0
MisfitIsRefused = (readings : Readings) (t : Text) → recorded_fault readings t ≡ record_does_not_fit → recorded_bench_in readings t ≡ None

-- a line of two valid states has the shape of a line
abbrev pub MovesHaveShape : Type 0
MovesHaveShape =
    (readings : Readings) (bench : Bench) (label : Label) (v w : State)
    → is_identity bench.identity ≡ true → IsLabel readings label → IsValidState bench.schema.kind v → IsValidState bench.schema.kind w
    → IsReadState readings v → IsReadState readings w → is_move_shape readings (record_line bench label v w) ≡ true
