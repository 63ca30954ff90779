-- The bench that a file tells: its first line tells the format, and the text is taken in that format.
use Rattle.std.specs.Prelude.{List, [], ◌∷◌, Option, Some, None, option_map, option_and_then, if◌then◌else◌, length, nat_le}
use Rattle.ssa_model.specs.definitions.Limits.{most_bench_bytes}
use Rattle.ssa_model.specs.definitions.Json.{Text, Json}
use Rattle.ssa_model.specs.definitions.Readings.{Readings}
use Rattle.ssa_model.specs.definitions.History.{Bench}
use Rattle.ssa_model.specs.definitions.BenchText.{states, Format}
use Rattle.ssa_model.specs.definitions.BenchOfStates.{Head, values_bench, values_of, head_in}
use Rattle.ssa_model.specs.definitions.BenchOfRecords.{counts_in, Counts, recorded_bench}

-- ---- the first line

-- what it says: the format, and the numbers that stand there in this format
pub data FileHead : Type 0 where
  of_states : Head → FileHead
  of_records : Counts → FileHead

abbrev pub head_format : FileHead → Format
head_format (of_states head) = states
head_format (of_records counts) = counts.format

-- the first head, or else the second
abbrev pub either_head : Option FileHead → Option FileHead → Option FileHead
either_head (Some head) other = Some head
either_head None other = other

-- the head of a value, which is as it is written in one of the formats
abbrev pub file_head : Json → Option FileHead
file_head v = either_head (option_map of_states (head_in v)) (option_map of_records (counts_in v))

-- ---- the bench of a text

-- the bench of the values of all lines, by what the first of them says
abbrev pub head_bench : Readings → FileHead → List Json → Option Bench
head_bench readings (of_states head) vs = values_bench readings vs
head_bench readings (of_records counts) vs = recorded_bench readings vs

abbrev pub file_bench : Readings → List Json → Option Bench
file_bench readings [] = None
file_bench readings (v ∷ vs) = option_and_then (λ head. head_bench readings head (v ∷ vs)) (file_head v)

abbrev pub file_bench_in : Readings → Text → Option Bench
file_bench_in readings t = if nat_le (length t) most_bench_bytes then option_and_then (file_bench readings) (values_of readings t) else None
