-- The bench that a file of records tells, line by line: each line is the compact text of a value, and so is what is written of
-- what is taken from it.
use Rattle.std.specs.Prelude.{ℕ, ◌+◌, List, [], ◌∷◌, Bool, ◌&&◌, ◌==◌, Option, Some, None, option_map, option_and_then, Ok, Err, if◌then◌else◌, length, nat_le, codes, ◌++◌, take, drop}
use Rattle.ssa_model.specs.definitions.Limits.{most_past, most_bench_bytes}
use Rattle.ssa_model.specs.definitions.Json.{Text, Json, member_at}
use Rattle.ssa_model.specs.definitions.Readings.{Readings}
use Rattle.ssa_model.specs.definitions.Commands.{value_in}
use Rattle.ssa_model.specs.definitions.Schema.{Schema}
use Rattle.ssa_model.specs.definitions.Operations.{State}
use Rattle.ssa_model.specs.definitions.History.{Label, Step, Bench, with_timeline}
use Rattle.ssa_model.specs.definitions.Answers.{file_state, bench_with}
use Rattle.ssa_model.specs.definitions.BenchText.{Format, records, parts, depths, format_number, whole_object}
use Rattle.ssa_model.specs.definitions.Formats.{can_tell_state, tells_depth, can_tell_line}
use Rattle.ssa_model.specs.definitions.Carry.{carry}
use Rattle.ssa_model.specs.definitions.RecordReading.{record_in, has_read_paths}
use Rattle.ssa_model.specs.definitions.RecordedBench.{record_head, record_line}
use Rattle.ssa_model.specs.definitions.BenchOfStates.{number_in, schema_in, given_if, label_in, is_written_as, keeps_order, values_of}

-- ---- the head and the present object

-- the format, how many commands the bench keeps, and how many can be undone and redone, no more than that
pub record Counts : Type 0 where
  pub format : Format
  pub depth : ℕ
  pub past : ℕ
  pub future : ℕ

-- the format of records with this number
abbrev pub record_format : ℕ → Option Format
record_format n = if n == format_number records then Some records else (if n == format_number parts then Some parts else (if n == format_number depths then Some depths else None))

abbrev pub format_in : Json → Option Format
format_in v = option_and_then record_format (number_in (member_at (codes "format") v))

-- the depth that a head says in a format that tells of it, else the greatest
abbrev pub depth_in : Format → Json → Option ℕ
depth_in f v = if tells_depth f then number_in (member_at (codes "depth") v) else Some most_past

-- a bench may be so deep, and keep so many commands
abbrev pub is_head : ℕ → ℕ → ℕ → Bool
is_head depth past future = nat_le 1 depth && (nat_le depth most_past && nat_le (past + future) depth)

abbrev pub counts_in : Json → Option Counts
counts_in v =
    option_and_then
    (λ f. option_and_then
    (λ depth. option_and_then
    (λ past. option_and_then
    (λ future. given_if (is_written_as (record_head f depth past future) v && is_head depth past future)
    (record { format = f; depth = depth; past = past; future = future }))
    (number_in (member_at (codes "future") v)))
    (number_in (member_at (codes "past") v)))
    (depth_in f v))
    (format_in v)

-- the bench of the present state alone, of this depth, of whose managers the format can tell
abbrev pub present_in : Readings → Format → ℕ → Schema → Json → Option Bench
present_in readings f depth schema v =
    elim (bench_with readings depth schema v)
    [ Ok bench ↦ given_if (is_written_as (whole_object bench bench.timeline.first) v && can_tell_state f bench.timeline.first) bench | Err e ↦ None ]

-- ---- the lines

module _ (readings : Readings) (bench : Bench) where
  -- the state that an object file with what the record leads to would have
  abbrev pub led_state : State → Json → Option State
  led_state v j =
      let d = record_in readings bench.schema.kind (value_in (member_at (codes "record") j)) in
      elim (file_state readings bench.schema.kind (whole_object bench (carry d v))) [ Ok w ↦ Some w | Err f ↦ None ]

  -- the line is that of the two states, whose common managers keep their order, and the paths of the second are read from their texts
  abbrev pub is_move : Json → Label → State → State → Bool
  is_move j label v w = is_written_as (record_line bench label v w) j && (keeps_order v.table w.table && has_read_paths readings w.body)

  abbrev pub move_to : State → Json → Label → State → Option (Label × State)
  move_to v j label w = given_if (is_move j label v w) (label, w)

  -- the command of a line, and the state to which its record leads from a state
  abbrev pub move_in : State → Json → Option (Label × State)
  move_in v j = option_and_then (λ label. option_and_then (move_to v j label) (led_state v j)) (label_in readings (value_in (member_at (codes "command") j)))

module _ (readings : Readings) (f : Format) (bench : Bench) where
  -- the same in a format, which can tell of the line
  abbrev pub told_move : State → Json → Option (Label × State)
  told_move v j = if can_tell_line f j then move_in readings bench v j else None

  -- from a state back along the lines, in front of these steps: the first state, and the steps from it on
  abbrev pub past_in : State → List Json → List Step → Option (State × List Step)
  past_in v [] later = Some (v, later)
  past_in v (j ∷ js) later = option_and_then (λ m. past_in m.1 js (record { label = m.0; state = v } ∷ later)) (told_move v j)

  -- from a state on along the lines
  abbrev pub future_in : State → List Json → Option (List Step)
  future_in v [] = Some []
  future_in v (j ∷ js) = option_and_then (λ m. option_map (λ ss. record { label = m.0; state = m.1 } ∷ ss) (future_in m.1 js)) (told_move v j)

-- ---- the bench of a text

-- the bench with these steps, where the head counts the lines
abbrev pub with_moves : Counts → Bench → List Json → State × List Step → List Step → Option Bench
with_moves counts now js past future =
    given_if (length js == counts.past + counts.future)
    (with_timeline now (record { first = past.0; later = past.1 ++ future; place = counts.past }))

-- the bench with the moves of these lines, on the bench of the present state
abbrev pub lines_bench : Readings → Counts → Bench → List Json → Option Bench
lines_bench readings counts now js =
    let v = now.timeline.first in
    option_and_then (λ past. option_and_then (with_moves counts now js past) (future_in readings counts.format now v (drop counts.past js)))
    (past_in readings counts.format now v (take counts.past js) [])

abbrev pub recorded_bench : Readings → List Json → Option Bench
recorded_bench readings (head ∷ source ∷ now ∷ js) =
    option_and_then
    (λ counts. option_and_then (λ schema. option_and_then (λ bench. lines_bench readings counts bench js) (present_in readings counts.format counts.depth schema now)) (schema_in source))
    (counts_in head)
recorded_bench readings _ = None

abbrev pub recorded_bench_in : Readings → Text → Option Bench
recorded_bench_in readings t = if nat_le (length t) most_bench_bytes then option_and_then (recorded_bench readings) (values_of readings t) else None
