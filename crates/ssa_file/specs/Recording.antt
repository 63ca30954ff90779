-- The formats of bench files of records, and what a save writes.
use Rattle.std.specs.Prelude.{ℕ, List, [], ◌∷◌}
use Rattle.ssa_model.specs.definitions.Json.{Json}
use Rattle.ssa_model.specs.definitions.Limits.{most_past}
use Rattle.ssa_model.specs.definitions.Objects.{Identity}
use Rattle.ssa_model.specs.definitions.Schema.{Schema}
use Rattle.ssa_model.specs.definitions.BenchText.{Format, records, parts, depths, whole_object}
use Rattle.ssa_model.specs.definitions.History.{Bench, Step, Timeline, present, past_len, future_len}
use Rattle.ssa_model.specs.definitions.HistoryRecords.{kept_from, kept_to}
use Rattle.ssa_model.specs.definitions.RecordedBench.{record_head, record_line, past_lines, past_steps, future_lines, future_steps}
use Rattle.ssa_file.specs.declared.recording.RecordFormat.{RecordFormat}
use Rattle.ssa_file.specs.declared.recording.RecordFormat.TheVariants.{Records, Parts, Depths}

abbrev pub format_view : RecordFormat → Format
format_view Records = records
format_view Parts = parts
format_view Depths = depths

-- the bench of a history, of this depth
abbrev pub bench_of : Schema → Identity → ℕ → Timeline → Bench
bench_of schema identity depth timeline = record { schema = schema; identity = identity; depth = depth; timeline = timeline }

-- that of the greatest depth: the lines behind the head tell nothing of it
abbrev pub bench_with : Schema → Identity → Timeline → Bench
bench_with schema identity timeline = bench_of schema identity most_past timeline

-- the value of the line of the n-th record of a history, which is that of the step
abbrev pub kept_value : Schema → Identity → Timeline → ℕ → Step → Json
kept_value schema identity t n s = record_line (bench_with schema identity t) s.label (kept_from t n) (kept_to t n)

-- the lines in front of the records
abbrev pub opening_values : Format → Bench → List Json
opening_values f bench =
    let t = bench.timeline in
    record_head f bench.depth (past_len t) (future_len t) ∷ bench.schema.source ∷ whole_object bench (present t) ∷ []

-- the lines back along the past, and those on along the future
abbrev pub past_values : Bench → List Json
past_values bench = past_lines bench bench.timeline.first (past_steps bench.timeline)

abbrev pub future_values : Bench → List Json
future_values bench = future_lines bench (present bench.timeline) (future_steps bench.timeline)
