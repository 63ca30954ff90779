-- A bench file of whole states is taken as the bench of which it is the file, where there is one.
use Rattle.std.specs.Prelude.{◌≡◌, ◌≤◌, Some, length}
use Rattle.std.specs.List.{All}
use Rattle.ssa_model.specs.definitions.Limits.{most_bench_bytes}
use Rattle.ssa_model.specs.definitions.Json.{Text}
use Rattle.ssa_model.specs.definitions.Readings.{Readings}
use Rattle.ssa_model.specs.definitions.History.{Bench}
use Rattle.ssa_model.specs.definitions.BenchText.{states, bench_values, bench_text}
use Rattle.ssa_model.specs.definitions.BenchFile.{IsSpelled, IsValidBench}
use Rattle.ssa_model.specs.definitions.Formats.{CanTell}
use Rattle.ssa_model.specs.definitions.BenchOfStates.{bench_in}

-- the text of a valid bench of which the format can tell, each line of which is read, is taken as that bench
abbrev pub BenchFilesAreTaken : Type 0
BenchFilesAreTaken =
    (readings : Readings) (bench : Bench)
    → IsValidBench readings bench → CanTell states bench → length (bench_text bench) ≤ most_bench_bytes
    → All (IsSpelled readings) (bench_values bench)
    → bench_in readings (bench_text bench) ≡ Some bench

-- a text that is taken is the text of what it is taken as
abbrev pub TakenIsItsText : Type 0
TakenIsItsText = (readings : Readings) (t : Text) (bench : Bench) → bench_in readings t ≡ Some bench → t ≡ bench_text bench
