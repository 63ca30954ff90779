-- A bench file is taken as the bench of which it is the file, in whatever format.
use Rattle.std.specs.Prelude.{◌≡◌, Some}
use Rattle.ssa_model.specs.definitions.Json.{Text}
use Rattle.ssa_model.specs.definitions.Readings.{Readings}
use Rattle.ssa_model.specs.definitions.History.{Bench}
use Rattle.ssa_model.specs.definitions.BenchText.{Format}
use Rattle.ssa_model.specs.definitions.BenchFile.{IsValidBench}
use Rattle.ssa_model.specs.definitions.Formats.{IsFile}
use Rattle.ssa_model.specs.definitions.RecordedBench.{HasReadHistory}
use Rattle.ssa_model.specs.definitions.BenchOfFile.{file_bench_in}

-- the file of a bench, in whatever format, is taken as that bench
abbrev pub FilesAreTaken : Type 0
FilesAreTaken = (readings : Readings) (f : Format) (t : Text) (bench : Bench) → IsFile readings f t bench → file_bench_in readings t ≡ Some bench

-- a text that is taken as a valid bench, whose paths are read, is its file in one of the formats
abbrev pub TakenIsFile : Type 0
TakenIsFile =
    (readings : Readings) (t : Text) (bench : Bench) → file_bench_in readings t ≡ Some bench
    → IsValidBench readings bench → HasReadHistory readings bench.timeline → (f : Format) × IsFile readings f t bench
