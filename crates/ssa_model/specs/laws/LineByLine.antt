-- A bench file read line by line: what is taken of each line, and the first fault. What is read so is what is taken of the whole text,
-- and its fault where nothing is.
use Rattle.std.specs.Prelude.{◌≡◌, ℕ, zero, suc, ◌-◌, List, Option, Some, None, Result, Ok, Err}
use Rattle.ssa_model.specs.definitions.Limits.{most_bench_bytes}
use Rattle.ssa_model.specs.definitions.Json.{Text, Json}
use Rattle.ssa_model.specs.definitions.Operations.{State}
use Rattle.ssa_model.specs.definitions.Readings.{Readings}
use Rattle.ssa_model.specs.definitions.Schema.{Schema}
use Rattle.ssa_model.specs.definitions.History.{Label, Step, Timeline, Bench, appended, moved_to, preceded, present, with_timeline}
use Rattle.ssa_model.specs.definitions.BenchText.{Format}
use Rattle.ssa_model.specs.definitions.BenchOfStates.{Head, schema_in, lone_in, step_in}
use Rattle.ssa_model.specs.definitions.BenchOfRecords.{Counts, present_in}
use Rattle.ssa_model.specs.definitions.BenchFaults.{MoveFault, no_move_text, told_value, file_fault}
use Rattle.ssa_model.specs.definitions.NextLines.{Next, at_end, no_value, value_then, next_value}
use Rattle.ssa_model.specs.definitions.BenchOfFile.{FileHead, of_states, of_records, file_head, file_bench_in}

-- ---- how a bench goes along its lines

-- how a move changes a history
abbrev pub Move : Type 0
Move = Timeline → Label → State → Timeline

abbrev pub moved_by : Move → Bench → Label × State → Bench
moved_by move b m = with_timeline b (move b.timeline m.0 m.1)

-- the bench with a later state, which is the present one
abbrev pub gone_on : Bench → Step → Bench
gone_on b s = with_timeline b (appended b.timeline s.label s.state)

abbrev pub at_place : ℕ → Bench → Bench
at_place n b = with_timeline b (moved_to b.timeline n)

-- ---- what is read of bytes, with so much room

abbrev pub Reader : Type 0
Reader = List ℕ → ℕ → Result Bench MoveFault

-- a value stands next
abbrev pub after_value : (Json → Reader) → Next → Result Bench MoveFault
after_value go (value_then v ys left) = go v ys left
after_value go at_end = Err no_move_text
after_value go no_value = Err no_move_text

-- a part is taken of the value
abbrev pub after_part : {X : Type 0} → (X → Reader) → Option X → Reader
after_part go (Some x) ys left = go x ys left
after_part go None ys left = Err no_move_text

abbrev pub after_move : (Label × State → Reader) → Result (Label × State) MoveFault → Reader
after_move go (Ok m) ys left = go m ys left
after_move go (Err f) ys left = Err f

-- nothing stands behind
abbrev pub at_last : Bench → Next → Result Bench MoveFault
at_last b at_end = Ok b
at_last b no_value = Err no_move_text
at_last b (value_then v ys left) = Err no_move_text

module _ (readings : Readings) where
  abbrev pub with_value : (Json → Reader) → Reader
  with_value go xs room = after_value go (next_value readings room xs)

  abbrev pub with_part : {X : Type 0} → (Json → Option X) → (X → Reader) → Reader
  with_part take go = with_value (λ v. after_part go (take v))

  -- so many lines, each a move from the present state, in a format
  abbrev pub along : Format → Move → (Bench → Reader) → ℕ → Bench → Reader
  along f move go zero b = go b
  along f move go (suc n) b = with_value (λ v. after_move (λ m. along f move go n (moved_by move b m)) (told_value readings f b (present b.timeline) v))

  abbrev pub ended_with : Bench → Reader
  ended_with b xs room = at_last b (next_value readings room xs)

  -- the future behind the present state, and the end
  abbrev pub on_from : Counts → Bench → Reader
  on_from counts b = along counts.format appended (λ last. ended_with (at_place counts.past last)) counts.future (at_place counts.past b)

  -- the past back from the present state, the future and the end
  abbrev pub moves_from : Counts → Bench → Reader
  moves_from counts b = along counts.format preceded (on_from counts) counts.past b

  -- so many lines, each a state behind the present one
  abbrev pub steps_from : (Bench → Reader) → ℕ → Bench → Reader
  steps_from go zero b = go b
  steps_from go (suc n) b = with_part (step_in readings b (present b.timeline)) (λ s. steps_from go n (gone_on b s))

  -- all later states behind the first one, and the end
  abbrev pub later_from : Head → Bench → Reader
  later_from head b = steps_from (λ last. ended_with (at_place head.place last)) (head.states - 1) b

  -- the bench of the state that stands behind the schema: of the first one, or of the present one
  abbrev pub shown_in : FileHead → Schema → Json → Option Bench
  shown_in (of_states head) = lone_in readings
  shown_in (of_records counts) = present_in readings counts.format counts.depth

  -- what stands behind that state: all later ones, or the records
  abbrev pub rest_from : FileHead → Bench → Reader
  rest_from (of_states head) = later_from head
  rest_from (of_records counts) = moves_from counts

  abbrev pub file_from : Reader
  file_from = with_part file_head (λ head. with_part schema_in (λ schema. with_part (shown_in head schema) (rest_from head)))

-- ---- the law

-- what is read line by line is what is taken of the text, or the fault of its first faulty line
abbrev pub FilesAreRead : Type 0
FilesAreRead =
    (readings : Readings) (t : Text)
    → file_from readings t most_bench_bytes ≡ elim (file_bench_in readings t) [ Some bench ↦ Ok bench | None ↦ Err (file_fault readings t) ]
