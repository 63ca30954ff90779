-- The bench that a file of whole states tells, line by line: each line is the compact text of a value, and so is what is written
-- of what is taken from it.
use Rattle.std.specs.Prelude.{ℕ, pos, ◌+◌, List, [], ◌∷◌, Bool, true, ◌&&◌, ◌==◌, Option, Some, None, option_map, option_and_then, Ok, Err, if◌then◌else◌, length, nat_lt, nat_le, codes}
use Rattle.std.specs.Cmp.Lexicographic.{pointwise}
use Rattle.ssa_model.specs.definitions.Limits.{most_past, most_bench_bytes}
use Rattle.ssa_model.specs.definitions.Json.{Text, Json, scalar, whole, compact, same_text, member_at}
use Rattle.ssa_model.specs.definitions.Readings.{Readings}
use Rattle.ssa_model.specs.definitions.Commands.{text_in, truth_in, value_in, subresource_in}
use Rattle.ssa_model.specs.definitions.Parts.{Actor}
use Rattle.ssa_model.specs.definitions.Schema.{Schema, read_schema}
use Rattle.ssa_model.specs.definitions.Table.{Table, same_manager}
use Rattle.ssa_model.specs.definitions.Operations.{State}
use Rattle.ssa_model.specs.definitions.History.{Label, applied, updated, stripped, Step, Bench, is_manager_name, with_timeline}
use Rattle.ssa_model.specs.definitions.Answers.{bench_of, file_state}
use Rattle.ssa_model.specs.definitions.Lines.{split_lines}
use Rattle.ssa_model.specs.definitions.BenchText.{states, head_of, first_json, step_json}
use Rattle.ssa_model.specs.definitions.Valid.{shared_managers}
use Rattle.ssa_model.specs.definitions.Formats.{can_tell_label, can_tell_state}

-- ---- the values of the lines

-- the lines, where each is ended by a line feed
abbrev pub ended_lines : List Text × Text → Option (List Text)
ended_lines (ls, []) = Some ls
ended_lines (ls, b ∷ bs) = None

abbrev pub text_lines : Text → Option (List Text)
text_lines t = ended_lines (split_lines t)

-- the value, where the text is its compact text
abbrev pub spelled_value : Readings → Text → Option Json
spelled_value readings t = elim (readings.value t) [ Ok v ↦ if same_text (compact v) t then Some v else None | Err f ↦ None ]

abbrev pub spelled_values : Readings → List Text → Option (List Json)
spelled_values readings [] = Some []
spelled_values readings (t ∷ ts) = option_and_then (λ v. option_map (λ vs. v ∷ vs) (spelled_values readings ts)) (spelled_value readings t)

-- ---- what is taken from a value

abbrev pub given_if : {X : Type 0} → Bool → X → Option X
given_if b x = if b then Some x else None

-- both have one text
abbrev pub is_written_as : Json → Json → Bool
is_written_as v w = same_text (compact v) (compact w)

abbrev pub number_in : Option Json → Option ℕ
number_in (Some (scalar (whole (pos n)))) = Some n
number_in _ = None

-- the place, which is that of one of the states, and how many states there are, no more than a bench keeps
pub record Head : Type 0 where
  pub place : ℕ
  pub states : ℕ

abbrev pub head_in : Json → Option Head
head_in v =
    option_and_then
    (λ place. option_and_then
    (λ count. given_if (is_written_as (head_of place count) v && (nat_lt place count && nat_le count (most_past + 1)))
    (record { place = place; states = count }))
    (number_in (member_at (codes "states") v)))
    (number_in (member_at (codes "place") v))

abbrev pub schema_in : Json → Option Schema
schema_in v = elim (read_schema v) [ Ok kind ↦ Some (record { source = v; kind = kind }) | Err f ↦ None ]

abbrev pub object_in : Json → Json
object_in v = value_in (member_at (codes "object") v)

-- the bench of the first state
abbrev pub lone_in : Readings → Schema → Json → Option Bench
lone_in readings schema v =
    elim (bench_of readings schema (object_in v)) [ Ok bench ↦ given_if (is_written_as (first_json bench) v && can_tell_state states bench.timeline.first) bench | Err f ↦ None ]

-- the label that a command's word and members say
abbrev pub said_label : Json → Label
said_label v =
    let word = text_in (member_at (codes "do") v) in
    let who : Actor = record { name = text_in (member_at (codes "manager") v); part = subresource_in (member_at (codes "subresource") v) } in
    let at = text_in (member_at (codes "at") v) in
    if same_text word (codes "apply") then applied who (truth_in (member_at (codes "force") v)) at
    else (if same_text word (codes "update") then updated who at else stripped)

abbrev pub is_label : Readings → Label → Bool
is_label readings (applied who force at) = is_manager_name who.name && readings.moment at
is_label readings (updated who at) = is_manager_name who.name && readings.moment at
is_label readings stripped = true

abbrev pub label_in : Readings → Json → Option Label
label_in readings v = let label = said_label v in given_if (is_label readings label) label

abbrev pub keeps_order : Table → Table → Bool
keeps_order before after = pointwise same_manager (shared_managers before after) (shared_managers after before)

-- the step from a state, on a bench of this schema and identity
abbrev pub step_with : Bench → State → Json → Label → State → Option Step
step_with bench before v label state =
    let s : Step = record { label = label; state = state } in
    given_if (is_written_as (step_json bench s) v && (keeps_order before.table state.table && (can_tell_label states label && can_tell_state states state))) s

abbrev pub step_in : Readings → Bench → State → Json → Option Step
step_in readings bench before v =
    option_and_then (λ label. elim (file_state readings bench.schema.kind (object_in v)) [ Ok state ↦ step_with bench before v label state | Err f ↦ None ])
    (label_in readings (value_in (member_at (codes "command") v)))

abbrev pub steps_in : Readings → Bench → State → List Json → Option (List Step)
steps_in readings bench before [] = Some []
steps_in readings bench before (v ∷ vs) = option_and_then (λ s. option_map (λ ss. s ∷ ss) (steps_in readings bench s.state vs))
    (step_in readings bench before v)

-- the bench with these steps, where the head counts the states
abbrev pub with_steps : Head → Bench → List Step → Option Bench
with_steps head lone steps =
    given_if (head.states == length steps + 1) (with_timeline lone (record { first = lone.timeline.first; later = steps; place = head.place }))

-- ---- the bench of a text

abbrev pub values_bench : Readings → List Json → Option Bench
values_bench readings (head ∷ source ∷ first ∷ later) =
    option_and_then (λ h. option_and_then (λ schema. option_and_then (λ lone. option_and_then (with_steps h lone)
    (steps_in readings lone lone.timeline.first later))
    (lone_in readings schema first)) (schema_in source)) (head_in head)
values_bench readings _ = None

-- the values of the lines of a text
abbrev pub values_of : Readings → Text → Option (List Json)
values_of readings t = option_and_then (spelled_values readings) (text_lines t)

abbrev pub bench_in : Readings → Text → Option Bench
bench_in readings t = if nat_le (length t) most_bench_bytes then option_and_then (values_bench readings) (values_of readings t) else None
