-- Worked examples: the texts of bench files, and the benches that are taken from files' values.
use Rattle.std.specs.Prelude.{◌≡◌, List, [], ◌∷◌, ◌++◌, map, flat_map, drop, codes, Bool, true, false, Option, Some, None, is_some, Result, Ok, Err, if◌then◌else◌}
use Rattle.std.specs.Cmp.Lexicographic.{pointwise}
use Rattle.ssa_model.specs.definitions.Json.{Text, Json, object, no_members, compact, same_text, same_json}
use Rattle.ssa_model.specs.definitions.Readings.{Readings, ReadFault, not_json}
use Rattle.ssa_model.specs.definitions.Body.{Body, flat}
use Rattle.ssa_model.specs.definitions.Parts.{main}
use Rattle.ssa_model.specs.definitions.Table.{applies, ManagerKey, Table}
use Rattle.ssa_model.specs.definitions.Objects.{body_value}
use Rattle.ssa_model.specs.definitions.Operations.{apply_target}
use Rattle.ssa_model.specs.definitions.History.{Label, applied, updated, stripped, Step, Bench, present, with_timeline}
use Rattle.ssa_model.specs.definitions.Answers.{Command, apply, undo, run}
use Rattle.ssa_model.specs.definitions.BenchText.{line, head_of, head_json, state_json, first_json, step_json, bench_values, bench_text}
use Rattle.ssa_model.specs.definitions.BenchOfStates.{values_bench, bench_in}
use Rattle.ssa_model.specs.examples.Sample.{main_by, sample_kind, sample_schema}
use Rattle.ssa_model.specs.examples.Rows.{new_bench, with_replicas, m1, m2}
use Rattle.ssa_model.specs.examples.EntryRows.{with_uid}

abbrev pub feed : Text
feed = 10 ∷ []

abbrev pub bare_line : Text
bare_line = codes "{\"command\":{},\"object\":{\"apiVersion\":\"example.com/v1\",\"kind\":\"App\",\"metadata\":{\"name\":\"web\"}}}"

abbrev pub applied_line : Text
applied_line =
    codes "{\"command\":{\"at\":\"2024-05-01T10:00:01Z\",\"do\":\"apply\",\"force\":false,\"manager\":\"m1\"},\"object\":{\"apiVersion\":\"example.com/v1\",\"kind\":\"App\",\"metadata\":{\"managedFields\":[{\"apiVersion\":\"example.com/v1\",\"fieldsType\":\"FieldsV1\",\"fieldsV1\":{\"f:spec\":{\"f:replicas\":{}}},\"manager\":\"m1\",\"operation\":\"Apply\",\"time\":\"2024-05-01T10:00:01Z\"}],\"name\":\"web\"},\"spec\":{\"replicas\":3}}}"

abbrev pub after : List Command → Bench
after cs = (run new_bench cs).1

abbrev pub one_apply : Command
one_apply = apply (main_by m1) false (codes "2024-05-01T10:00:01Z") (with_replicas 3)

-- a new bench, one after a command, and that bench after an undo
abbrev pub BenchesAreWritten : Type 0
BenchesAreWritten =
    (bench_text new_bench ≡ codes "{\"format\":1,\"place\":0,\"states\":1}" ++ feed ++ compact sample_schema.source ++ feed ++ bare_line ++ feed)
    × (bench_text (after (one_apply ∷ [])) ≡ codes "{\"format\":1,\"place\":1,\"states\":2}" ++ feed ++ compact sample_schema.source ++ feed ++ bare_line
    ++ feed ++ applied_line ++ feed)
    × (bench_text (after (one_apply ∷ undo ∷ [])) ≡ codes "{\"format\":1,\"place\":0,\"states\":2}" ++ feed ++ compact sample_schema.source ++ feed
    ++ bare_line ++ feed ++ applied_line ++ feed)

-- ---- the bench of a file's values

-- no text has a value here, and one text is a moment
abbrev pub file_readings : Readings
file_readings = record { value = λ t. Err not_json; moment = λ t. same_text t (codes "2024-05-01T10:00:01Z") }

abbrev pub taken_values : List Json → Option Bench
taken_values = values_bench file_readings

abbrev pub undone : Bench
undone = after (one_apply ∷ undo ∷ [])

-- after two managers' applies, and then a step with this label and table
abbrev pub third : Label → (Table → Table) → Bench
third label change =
    let bench = after (one_apply ∷ apply (main_by m2) false (codes "2024-05-01T10:00:01Z") (with_replicas 3) ∷ []) in
    let now = present bench.timeline in
    let last : Step = record { label = label; state = record { body = now.body; table = change now.table } } in
    with_timeline bench (record { first = bench.timeline.first; later = bench.timeline.later ++ last ∷ []; place = 1 })

-- a bench is taken from its values, and the values are those that are written of what is taken
abbrev pub is_taken : Bench → Bool
is_taken bench = elim (taken_values (bench_values bench)) [ Some taken ↦ pointwise same_json (bench_values taken) (bench_values bench) | None ↦ false ]

abbrev pub BenchesAreTaken : Type 0
BenchesAreTaken = (is_taken undone ≡ true) × (is_taken (third stripped (λ t. t)) ≡ true)

-- the values of the undone bench's file, with another head, first state and later states
abbrev pub with_parts : Json → Json → List Json → List Json
with_parts head first later = head ∷ sample_schema.source ∷ first ∷ later

abbrev pub undone_later : List Json
undone_later = map (step_json undone) undone.timeline.later

abbrev pub swapped : Table → Table
swapped (d ∷ e ∷ es) = e ∷ d ∷ es
swapped t = t

-- a place beyond the states, a state too few and one too many, a member that the state's object doesn't show,
-- a label whose moment is none, and managers that change places
abbrev pub WrongFilesAreRefused : Type 0
WrongFilesAreRefused =
    (taken_values (with_parts (head_of 2 2) (first_json undone) undone_later) ≡ None)
    × (taken_values (with_parts (head_of 0 2) (first_json undone) []) ≡ None)
    × (taken_values (with_parts (head_of 0 1) (first_json undone) undone_later) ≡ None)
    × (taken_values (with_parts (head_of 0 2) (state_json (object no_members) with_uid) undone_later) ≡ None)
    × (taken_values (bench_values (third (updated (main_by m1) (codes "t1")) (λ t. t))) ≡ None)
    × (taken_values (bench_values (third stripped swapped)) ≡ None)

-- ---- a bench file

-- each of these values is read from its text, and no other
abbrev pub value_among : List Json → Text → Result Json ReadFault
value_among [] t = Err not_json
value_among (v ∷ vs) t = if same_text (compact v) t then Ok v else value_among vs t

abbrev pub readings_of : List Json → Readings
readings_of vs = record { value = value_among vs; moment = file_readings.moment }

abbrev pub m1_applies : ManagerKey
m1_applies = record { name = m1; operation = applies; part = main }

abbrev pub three_replicas : Body
three_replicas = flat sample_kind (body_value (with_replicas 3))

abbrev pub applied_step : Step
applied_step =
    let at = codes "2024-05-01T10:00:01Z" in
    record { label = applied (main_by m1) false at; state = apply_target new_bench.timeline.first m1_applies three_replicas at }

-- the step is undone
abbrev pub filed : Bench
filed = with_timeline new_bench (record { first = new_bench.timeline.first; later = applied_step ∷ []; place = 0 })

-- a head with a blank in it
abbrev pub spaced_head : Text
spaced_head = codes "{\"format\": 1,\"place\":0,\"states\":2}"

-- these read that head too
abbrev pub lenient : Readings
lenient = record {
  value = λ t. if same_text t spaced_head then Ok (head_json filed.timeline) else value_among (bench_values filed) t;
  moment = file_readings.moment;
}

abbrev pub is_text_taken : Text → Bool
is_text_taken t = is_some (bench_in lenient t)

abbrev pub with_head : Text → Text
with_head head = head ++ feed ++ flat_map line (drop 1 (bench_values filed))

-- a text with a blank that isn't written, one that goes on behind its last line feed, and one with an empty line
abbrev pub OtherTextsAreRefused : Type 0
OtherTextsAreRefused =
    (is_text_taken (with_head (compact (head_json filed.timeline))) ≡ true)
    × (is_text_taken (with_head spaced_head) ≡ false)
    × (is_text_taken (bench_text filed ++ codes "{}") ≡ false)
    × (is_text_taken (bench_text filed ++ feed) ≡ false)
