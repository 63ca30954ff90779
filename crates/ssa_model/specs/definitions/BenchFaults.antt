-- Why a bench file is refused: the fault of its first line that has one.
use Rattle.std.specs.Prelude.{ℕ, ◌+◌, List, [], ◌∷◌, ◌&&◌, Option, Some, None, option_map, option_and_then, Ok, Err, if◌then◌else◌, length, nat_lt, codes, ◌-◌, Result, take, drop}
use Rattle.ssa_model.specs.definitions.Limits.{most_bench_bytes}
use Rattle.ssa_model.specs.definitions.Json.{Text, Json}
use Rattle.ssa_model.specs.definitions.Readings.{Readings}
use Rattle.ssa_model.specs.definitions.Operations.{State}
use Rattle.ssa_model.specs.definitions.History.{Label, Bench}
use Rattle.ssa_model.specs.definitions.Lines.{whole_lines}
use Rattle.ssa_model.specs.definitions.BenchText.{Format}
use Rattle.ssa_model.specs.definitions.Formats.{can_tell_line}
use Rattle.ssa_model.specs.definitions.Replies.{label_json}
use Rattle.ssa_model.specs.definitions.RecordReading.{Test, must_have, has_members, is_record_shape}
use Rattle.ssa_model.specs.definitions.BenchOfStates.{spelled_value, said_label, schema_in, is_written_as, is_label}
use Rattle.ssa_model.specs.definitions.BenchOfRecords.{counts_in, Counts, present_in, move_in}
use Rattle.ssa_model.specs.definitions.BenchOfFile.{of_records, of_states, FileHead, file_head}

-- ---- why a line is refused

pub data MoveFault : Type 0 where
  -- it isn't the text of a line
  no_move_text : MoveFault
  -- its record isn't one from its state to a valid one
  record_does_not_fit : MoveFault

-- the number of a fault
abbrev pub move_fault_number : MoveFault → ℕ
move_fault_number no_move_text = 70
move_fault_number record_does_not_fit = 71

-- a label as it is written
abbrev pub is_label_shape : Readings → Test
is_label_shape readings v = is_written_as (label_json (said_label v)) v && is_label readings (said_label v)

-- a label and the shape of a record
abbrev pub is_move_shape : Readings → Test
is_move_shape readings = has_members (must_have (codes "command") (is_label_shape readings) ∷ must_have (codes "record") (is_record_shape readings) ∷ [])

-- the fault of a value that is refused: whether it has the shape of a line
abbrev pub refused_fault : Readings → Json → MoveFault
refused_fault readings j = if is_move_shape readings j then record_does_not_fit else no_move_text

module _ (readings : Readings) (bench : Bench) where
  abbrev pub value_move : State → Json → Result (Label × State) MoveFault
  value_move v j = elim (move_in readings bench v j) [ Some m ↦ Ok m | None ↦ Err (refused_fault readings j) ]

module _ (readings : Readings) (f : Format) (bench : Bench) where
  -- the same in a format: what it cannot tell is no text of a line
  abbrev pub told_value : State → Json → Result (Label × State) MoveFault
  told_value v j = if can_tell_line f j then value_move readings bench v j else Err no_move_text

  -- the command of a line and the state to which it leads, or its fault
  abbrev pub line_move : State → Text → Result (Label × State) MoveFault
  line_move v t = elim (spelled_value readings t) [ Some j ↦ told_value v j | None ↦ Err no_move_text ]

  -- the fault of a line, read in a state, where it has one
  abbrev pub line_fault : State → Text → Option MoveFault
  line_fault v t = elim (line_move v t) [ Ok m ↦ None | Err f ↦ Some f ]

  -- the first fault of lines that lead on from a state, or the one behind them
  abbrev pub lines_fault : MoveFault → State → List Text → MoveFault
  lines_fault behind v [] = behind
  lines_fault behind v (t ∷ ts) = elim (line_move v t) [ Ok m ↦ lines_fault behind m.1 ts | Err f ↦ f ]

-- ---- why a text is refused

-- the lines that end within so many bytes
abbrev pub lines_within : ℕ → List Text → List Text
lines_within room [] = []
lines_within room (t ∷ ts) = if nat_lt (length t) room then t ∷ lines_within (room - (length t + 1)) ts else []

-- the first fault of the lines behind the present object: they stand for the past and then for the future; a line that is missing,
-- one too much and one that reaches too far are no text of a line
abbrev pub moves_fault : Readings → Counts → Bench → List Text → MoveFault
moves_fault readings counts now ts =
    let v = now.timeline.first in
    lines_fault readings counts.format now (lines_fault readings counts.format now no_move_text v (take counts.future (drop counts.past ts))) v
    (take counts.past ts)

-- the counts of a head, and the bench of the present state alone
abbrev pub opening_in : Readings → Text → Text → Text → Option (Counts × Bench)
opening_in readings head source now =
    option_and_then
    (λ counts. option_and_then
    (λ schema. option_map (λ bench. (counts, bench)) (option_and_then (present_in readings counts.format counts.depth schema) (spelled_value readings now)))
    (option_and_then schema_in (spelled_value readings source)))
    (option_and_then counts_in (spelled_value readings head))

abbrev pub texts_fault : Readings → List Text → MoveFault
texts_fault readings (head ∷ source ∷ now ∷ ts) = elim (opening_in readings head source now) [ Some x ↦ moves_fault readings x.0 x.1 ts | None ↦ no_move_text ]
texts_fault readings _ = no_move_text

-- the fault of a text that is refused: that of its first line that has one
abbrev pub recorded_fault : Readings → Text → MoveFault
recorded_fault readings t = texts_fault readings (lines_within most_bench_bytes (whole_lines t))

-- ---- why a text is refused

-- the fault of the first faulty of these lines: each faulty line of whole states is no text of one
abbrev pub head_fault : Readings → FileHead → List Text → MoveFault
head_fault readings (of_states head) ts = no_move_text
head_fault readings (of_records counts) ts = texts_fault readings ts

-- what the first of these lines says
abbrev pub first_head : Readings → List Text → Option FileHead
first_head readings [] = None
first_head readings (t ∷ ts) = option_and_then file_head (spelled_value readings t)

abbrev pub lines_file_fault : Readings → List Text → MoveFault
lines_file_fault readings ts = elim (first_head readings ts) [ Some head ↦ head_fault readings head ts | None ↦ no_move_text ]

-- the fault of a text that is refused: that of its first line that has one
abbrev pub file_fault : Readings → Text → MoveFault
file_fault readings t = lines_file_fault readings (lines_within most_bench_bytes (whole_lines t))
