-- Worked examples: the text of a bench file of records after an apply and after its undo, what is taken from it, and damaged lines with their faults.
use Rattle.std.specs.Prelude.{◌≡◌, ℕ, List, [], ◌∷◌, ◌++◌, flat_map, Bool, true, false, Option, Some, None, option_map, is_some, Ok, if◌then◌else◌, codes}
use Rattle.std.specs.List.{list_any}
use Rattle.ssa_model.specs.definitions.Limits.{most_past}
use Rattle.ssa_model.specs.definitions.Json.{Text, Json, object, no_members, member, compact, same_text}
use Rattle.ssa_model.specs.definitions.Readings.{Readings}
use Rattle.ssa_model.specs.definitions.Replies.{label_json}
use Rattle.ssa_model.specs.definitions.History.{Bench, present}
use Rattle.ssa_model.specs.definitions.Answers.{undo}
use Rattle.ssa_model.specs.definitions.BenchText.{Format, records, parts, depths, line, whole_object}
use Rattle.ssa_model.specs.definitions.BenchFile.{IsLabel, IsValidBench}
use Rattle.ssa_model.specs.definitions.MemberNames.{has_distinct_names, has_rising_names}
use Rattle.ssa_model.specs.definitions.Operations.{State}
use Rattle.ssa_model.specs.definitions.RecordReading.{IsReadState}
use Rattle.ssa_model.specs.definitions.Valid.{IsValidState, KeepsOrder}
use Rattle.ssa_model.specs.definitions.RecordedBench.{record_head, record_line, recorded_values, recorded_text}
use Rattle.ssa_model.specs.definitions.BenchFaults.{is_move_shape, move_fault_number, line_fault, recorded_fault}
use Rattle.ssa_model.specs.definitions.BenchOfRecords.{recorded_bench, recorded_bench_in}
use Rattle.ssa_model.specs.laws.RecordedMoves.{IsReadBackState, TellsLines, IsRecordLineOf}
use Rattle.ssa_model.specs.examples.Sample.{sample_kind, sample_schema, string_json, number_json}
use Rattle.ssa_model.specs.examples.FileRows.{feed, after, one_apply, file_readings, value_among, readings_of, applied_step, filed}
use Rattle.ssa_model.specs.examples.RecordReadingRows.{nothing, list_of, path_of_texts, record_with, put_alone}

-- ---- texts

abbrev pub sample_text : Text
sample_text =
    codes "{\"properties\":{\"spec\":{\"properties\":{\"args\":{\"items\":{\"type\":\"string\"},\"type\":\"array\"},"
    ++ codes "\"env\":{\"additionalProperties\":{\"type\":\"string\"},\"type\":\"object\"},"
    ++ codes "\"hosts\":{\"items\":{\"type\":\"string\"},\"type\":\"array\",\"x-kubernetes-list-type\":\"set\"},\"image\":{\"type\":\"string\"},"
    ++ codes "\"limits\":{\"additionalProperties\":{\"type\":\"integer\"},\"type\":\"object\",\"x-kubernetes-map-type\":\"atomic\"},"
    ++ codes "\"ports\":{\"items\":{\"properties\":{\"name\":{\"type\":\"string\"},"
    ++ codes "\"port\":{\"type\":\"integer\"},\"proto\":{\"type\":\"string\"}},\"type\":\"object\"},\"type\":\"array\","
    ++ codes "\"x-kubernetes-list-map-keys\":[\"name\"],\"x-kubernetes-list-type\":\"map\"},"
    ++ codes "\"replicas\":{\"type\":\"integer\"}},\"type\":\"object\"}},\"type\":\"object\"}"

abbrev pub applied_entry : Text
applied_entry =
    codes "{\"apiVersion\":\"example.com/v1\",\"fieldsType\":\"FieldsV1\",\"fieldsV1\":{\"f:spec\":{\"f:replicas\":{}}},"
    ++ codes "\"manager\":\"m1\",\"operation\":\"Apply\",\"time\":\"2024-05-01T10:00:01Z\"}"

abbrev pub applied_object : Text
applied_object =
    codes "{\"apiVersion\":\"example.com/v1\",\"kind\":\"App\",\"metadata\":{\"managedFields\":[" ++ applied_entry
    ++ codes "],\"name\":\"web\"},\"spec\":{\"replicas\":3}}"

abbrev pub with_command : Text → Text
with_command record_text =
    codes "{\"command\":{\"at\":\"2024-05-01T10:00:01Z\",\"do\":\"apply\",\"force\":false,\"manager\":\"m1\"},\"record\":" ++ record_text ++ codes "}"

abbrev pub undo_record : Text
undo_record = codes "{\"changed\":[],\"cut\":[[\"f:spec\"]],\"gone\":[[\"m1\",\"Apply\"]],\"here\":[],\"leaves\":[],\"order\":[],\"put\":[]}"

abbrev pub redo_record : Text
redo_record =
    codes "{\"changed\":[],\"cut\":[],\"gone\":[],\"here\":[{\"entry\":" ++ applied_entry
    ++ codes ",\"place\":0}],\"leaves\":[],\"order\":[],\"put\":[[[\"f:spec\"],{\"replicas\":3}]]}"

abbrev pub undo_line : Text
undo_line = with_command undo_record

abbrev pub applied_bench : Bench
applied_bench = after (one_apply ∷ [])

-- after an apply, and after its undo
abbrev pub RecordedFilesAreWritten : Type 0
RecordedFilesAreWritten =
    (recorded_text depths applied_bench ≡ codes "{\"depth\":1000,\"format\":4,\"future\":0,\"past\":1}" ++ feed ++ sample_text ++ feed ++ applied_object ++ feed ++ undo_line ++ feed)
    × (recorded_text depths (after (one_apply ∷ undo ∷ []))
    ≡ codes "{\"depth\":1000,\"format\":4,\"future\":1,\"past\":0}" ++ feed ++ sample_text ++ feed
    ++ codes "{\"apiVersion\":\"example.com/v1\",\"kind\":\"App\",\"metadata\":{\"name\":\"web\"}}" ++ feed ++ with_command redo_record ++ feed)

-- ---- what is taken

-- the bench is taken from its values, and what is taken has its text
abbrev pub is_taken_again : Format → Bench → Bool
is_taken_again f bench =
    elim (recorded_bench file_readings (recorded_values f bench)) [ Some taken ↦ same_text (recorded_text f taken) (recorded_text f bench) | None ↦ false ]

-- after an apply and after its undo, in both formats of records
abbrev pub RecordedValuesAreTaken : Type 0
RecordedValuesAreTaken =
    (is_taken_again depths applied_bench ≡ true) × (is_taken_again parts applied_bench ≡ true) × (is_taken_again parts (after (one_apply ∷ undo ∷ [])) ≡ true)
    × (is_taken_again records applied_bench ≡ true) × (is_taken_again records (after (one_apply ∷ undo ∷ [])) ≡ true)

-- what is asked of a bench so that the values of its file of records are shallow is met
abbrev pub ShallowFileIsMet : Type 0
ShallowFileIsMet = IsValidBench (readings_of (recorded_values depths filed)) filed × (has_distinct_names filed.schema.source ≡ true)

-- ---- damaged lines

abbrev pub moved_value : Json → Json
moved_value record_value = object (member (codes "command") (label_json applied_step.label) (member (codes "record") record_value no_members))

abbrev pub one_gone : Text → Json
one_gone name = list_of (list_of (string_json name ∷ string_json (codes "Apply") ∷ []) ∷ [])

-- the states of the sample's line, the line itself, a value without its shape, and one that tells that a manager goes who is not there,
-- meet what the laws of one line ask
abbrev pub RecordedMovesAreMet : Type 0
RecordedMovesAreMet =
    let readings = readings_of (recorded_values depths filed) in
    let v = filed.timeline.first in
    let w = applied_step.state in
    let own = record_line filed applied_step.label v w in
    let other = moved_value (record_with nothing nothing (one_gone (codes "m2")) nothing nothing) in
    TellsLines filed × IsReadBackState readings sample_kind v × IsReadBackState readings sample_kind w × IsLabel readings applied_step.label
    × KeepsOrder v.table w.table × (is_move_shape readings own ≡ true) × (has_rising_names own ≡ true)
    × (is_move_shape readings (number_json 1) ≡ false) × (is_move_shape readings other ≡ true)
    × ((u : State) → IsValidState sample_kind u → KeepsOrder v.table u.table → IsReadState readings u → IsRecordLineOf filed other v u → ⊥)

-- the value is read from this text alone, and 1 from a text with a blank
abbrev pub reads_alone : Text → Json → Readings
reads_alone t j = record {
  value = λ u. if same_text u (codes " 1") then Ok (number_json 1) else (if same_text u t then Ok j else value_among [] u);
  moment = file_readings.moment;
}

-- the number of the fault of a text that is read as this value, in the state after the apply
abbrev pub text_number_in : Format → Text → Json → Option ℕ
text_number_in f t j = option_map move_fault_number (line_fault (reads_alone t j) f applied_bench (present applied_bench.timeline) t)

abbrev pub text_number : Text → Json → Option ℕ
text_number = text_number_in depths

abbrev pub record_number : Json → Option ℕ
record_number d = text_number (compact (moved_value d)) (moved_value d)

abbrev pub spec_path : Json
spec_path = path_of_texts (codes "f:spec" ∷ [])

abbrev pub hosts_path : Json
hosts_path = path_of_texts (codes "f:spec" ∷ codes "f:hosts" ∷ [])

abbrev pub m1_gone : Json
m1_gone = one_gone (codes "m1")

-- members in another order
abbrev pub other_order : Text
other_order = codes "{\"cut\":[[\"f:spec\"]],\"changed\":[],\"gone\":[[\"m1\",\"Apply\"]],\"here\":[],\"leaves\":[],\"order\":[],\"put\":[]}"

-- a path with a number
abbrev pub one_at : List Text → ℕ → Json
one_at ts n = list_of (list_of (path_of_texts ts ∷ number_json n ∷ []) ∷ [])

abbrev pub undo_value : Json
undo_value = record_with nothing (list_of (spec_path ∷ [])) m1_gone nothing nothing

abbrev pub replicas_cut : Json → Json
replicas_cut leaves =
    object (member (codes "changed") nothing (member (codes "cut") (list_of (spec_path ∷ [])) (member (codes "gone") m1_gone
    (member (codes "here") nothing (member (codes "leaves") leaves (member (codes "order") nothing (member (codes "put") nothing no_members)))))))

-- no fault; a path that isn't there; a manager that would own an absent path; an element with a blank; members in another order,
-- which are read as those in order; a leaf with the content that it has; a manager that isn't there; a value that the schema has no place for; a missing line;
-- a list with an item whose element's text is not read
abbrev pub DamagedLinesAreTold : Type 0
DamagedLinesAreTold =
    (record_number undo_value ≡ None)
    × (record_number (record_with nothing (list_of (path_of_texts (codes "f:nothing" ∷ []) ∷ [])) m1_gone nothing nothing) ≡ Some 71)
    × (record_number (record_with nothing (list_of (spec_path ∷ [])) nothing nothing nothing) ≡ Some 71)
    × (record_number (record_with nothing (list_of (path_of_texts (codes "v: 1" ∷ []) ∷ [])) m1_gone nothing nothing) ≡ Some 70)
    × (text_number (with_command other_order) (moved_value undo_value) ≡ Some 70)
    × (record_number (replicas_cut (one_at (codes "f:spec" ∷ codes "f:replicas" ∷ []) 3)) ≡ Some 71)
    × (record_number (record_with nothing nothing (one_gone (codes "m2")) nothing nothing) ≡ Some 71)
    × (record_number (record_with nothing nothing nothing nothing (one_at (codes "f:size" ∷ []) 1)) ≡ Some 71)
    × (text_number [] (moved_value undo_value) ≡ Some 70)
    × (record_number (put_alone (hosts_path ∷ list_of (string_json (codes "a") ∷ []) ∷ [])) ≡ Some 71)

-- the number of the fault of the file after the apply, with this head and this last line, which is read as this value
abbrev pub file_number : Json → Text → Json → ℕ
file_number head t j =
    let opening = head ∷ sample_schema.source ∷ whole_object applied_bench (present applied_bench.timeline) ∷ [] in
    let alone = reads_alone t j in
    let readings : Readings = record {
      value = λ u. if list_any (λ v. same_text u (compact v)) opening then value_among opening u else alone.value u;
      moment = alone.moment;
    } in
    move_fault_number (recorded_fault readings (flat_map line opening ++ t ++ feed))

abbrev pub record_file_number : ℕ → Json → ℕ
record_file_number past d = file_number (record_head depths most_past past 0) (compact (moved_value d)) (moved_value d)

-- a path that isn't there; a manager that would own an absent path; an element with a blank; a head that tells of a command more,
-- whose line is missing; members in another order; a head that tells of too many commands, in front of a record that doesn't fit
abbrev pub DamagedFilesAreTold : Type 0
DamagedFilesAreTold =
    (record_file_number 1 (record_with nothing (list_of (path_of_texts (codes "f:nothing" ∷ []) ∷ [])) m1_gone nothing nothing) ≡ 71)
    × (record_file_number 1 (record_with nothing (list_of (spec_path ∷ [])) nothing nothing nothing) ≡ 71)
    × (record_file_number 1 (record_with nothing (list_of (path_of_texts (codes "v: 1" ∷ []) ∷ [])) m1_gone nothing nothing) ≡ 70)
    × (record_file_number 2 undo_value ≡ 70)
    × (file_number (record_head depths most_past 1 0) (with_command other_order) (moved_value undo_value) ≡ 70)
    × (record_file_number 1001 (record_with nothing (list_of (spec_path ∷ [])) nothing nothing nothing) ≡ 70)

abbrev pub is_text_taken : List Json → Text → Bool
is_text_taken vs t = is_some (recorded_bench_in (readings_of vs) t)

-- the file after the apply is taken; one whose head tells of a command more, and one that goes on behind its last line, are not
abbrev pub OtherFilesAreRefused : Type 0
OtherFilesAreRefused =
    let vs = recorded_values depths applied_bench in
    let others = record_head depths most_past 2 0 ∷ sample_schema.source ∷ whole_object applied_bench (present applied_bench.timeline) ∷ moved_value undo_value ∷ [] in
    (is_text_taken vs (recorded_text depths applied_bench) ≡ true)
    × (is_text_taken others (flat_map line others) ≡ false)
    × (is_text_taken vs (recorded_text depths applied_bench ++ codes "{}") ≡ false)
