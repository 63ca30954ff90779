-- Worked examples: what a first line says, and files in each format, with their faults.
use Rattle.std.specs.Prelude.{◌≡◌, ℕ, List, [], ◌∷◌, map, flat_map, ◌==◌, Bool, true, false, Some, None, is_some, codes}
use Rattle.std.specs.List.{list_any, list_all}
use Rattle.ssa_model.specs.definitions.Limits.{most_past}
use Rattle.ssa_model.specs.definitions.Json.{Json, object, no_members, member, same_text}
use Rattle.ssa_model.specs.definitions.Parts.{status}
use Rattle.ssa_model.specs.definitions.Path.{field}
use Rattle.ssa_model.specs.definitions.PathMap.{listed, union}
use Rattle.ssa_model.specs.definitions.Table.{Entry}
use Rattle.ssa_model.specs.definitions.Operations.{State}
use Rattle.ssa_model.specs.definitions.History.{Label, applied}
use Rattle.ssa_model.specs.definitions.Replies.{number_json}
use Rattle.ssa_model.specs.definitions.BenchText.{Format, states, records, parts, depths, format_number, line, head_of, whole_object, first_json, step_json}
use Rattle.ssa_model.specs.definitions.RecordedBench.{record_head, record_line}
use Rattle.ssa_model.specs.definitions.Formats.{file_values, file_text, IsFile}
use Rattle.ssa_model.specs.definitions.BenchFaults.{move_fault_number, file_fault}
use Rattle.ssa_model.specs.definitions.BenchOfFile.{FileHead, of_states, of_records, file_head, file_bench_in}
use Rattle.ssa_model.specs.examples.Sample.{string_json}
use Rattle.ssa_model.specs.examples.Rows.{m1}
use Rattle.ssa_model.specs.examples.FileRows.{readings_of, applied_step, filed}
use Rattle.ssa_model.specs.examples.RecordReadingRows.{nothing, list_of, record_with}
use Rattle.ssa_model.specs.examples.RecordedRows.{moved_value, one_gone}

-- ---- first lines

abbrev pub states_head : ℕ → ℕ → FileHead
states_head place count = of_states (record { place = place; states = count })

abbrev pub records_head : Format → ℕ → ℕ → ℕ → FileHead
records_head f depth past future = of_records (record { format = f; depth = depth; past = past; future = future })

-- a head with the counts of records, under this number
abbrev pub numbered_head : ℕ → Json
numbered_head n = object (member (codes "format") (number_json n) (member (codes "future") (number_json 0) (member (codes "past") (number_json 1) no_members)))

-- the shortest and the longest history of each format; a place beyond the states, no states, a state too many, a command too many;
-- another format's number, and no object
abbrev pub HeadsAreTold : Type 0
HeadsAreTold =
    (file_head (head_of 0 1) ≡ Some (states_head 0 1))
    × (file_head (head_of 1000 1001) ≡ Some (states_head 1000 1001))
    × (file_head (record_head records most_past 0 0) ≡ Some (records_head records most_past 0 0))
    × (file_head (record_head records most_past 1 999) ≡ Some (records_head records most_past 1 999))
    × (file_head (record_head parts most_past 0 0) ≡ Some (records_head parts most_past 0 0))
    × (file_head (record_head parts most_past 999 1) ≡ Some (records_head parts most_past 999 1))
    × (file_head (record_head depths 1 0 1) ≡ Some (records_head depths 1 0 1))
    × (file_head (record_head depths most_past 999 1) ≡ Some (records_head depths most_past 999 1))
    × (file_head (record_head depths 1 1 1) ≡ None)
    × (file_head (record_head depths 0 0 0) ≡ None)
    × (file_head (record_head depths 1001 0 0) ≡ None)
    × (file_head (head_of 2 2) ≡ None)
    × (file_head (head_of 0 0) ≡ None)
    × (file_head (head_of 0 1002) ≡ None)
    × (file_head (record_head records most_past 1 1000) ≡ None)
    × (file_head (record_head parts most_past 1 1000) ≡ None)
    × (file_head (numbered_head (format_number records)) ≡ Some (records_head records most_past 1 0))
    × (file_head (numbered_head (format_number parts)) ≡ Some (records_head parts most_past 1 0))
    × (file_head (numbered_head (format_number states)) ≡ None)
    × (file_head (numbered_head 4) ≡ None)
    × (file_head (numbered_head 0) ≡ None)
    × (file_head (number_json 1) ≡ None)

-- ---- files

-- the sample's bench is taken from its file, and what is taken has the file's text
abbrev pub is_file_taken : Format → Bool
is_file_taken f =
    elim (file_bench_in (readings_of (file_values f filed)) (file_text f filed)) [ Some taken ↦ same_text (file_text f taken) (file_text f filed) | None ↦ false ]

abbrev pub FilesOfAllAreTaken : Type 0
FilesOfAllAreTaken = (is_file_taken states ≡ true) × (is_file_taken records ≡ true) × (is_file_taken parts ≡ true) × (is_file_taken depths ≡ true)

-- what is asked of a bench file is met in each format
abbrev pub FilesAreMet : Type 0
FilesAreMet = (f : Format) → IsFile (readings_of (file_values f filed)) f (file_text f filed) filed

-- a text of these lines, each read from its text, is taken
abbrev pub are_lines_taken : List Json → Bool
are_lines_taken vs = is_some (file_bench_in (readings_of vs) (flat_map line vs))

-- and the number of its fault
abbrev pub lines_number : List Json → ℕ
lines_number vs = move_fault_number (file_fault (readings_of vs) (flat_map line vs))

abbrev pub with_lines : Json → Json → List Json → List Json
with_lines head now later = head ∷ filed.schema.source ∷ now ∷ later

abbrev pub first_state : Json
first_state = first_json filed

abbrev pub later_states : List Json
later_states = step_json filed applied_step ∷ []

abbrev pub present_object : Json
present_object = whole_object filed filed.timeline.first

abbrev pub onward : List Json
onward = record_line filed applied_step.label filed.timeline.first applied_step.state ∷ []

-- a record that tells of a manager who is not there
abbrev pub misfit : List Json
misfit = moved_value (record_with nothing nothing (one_gone (codes "m2")) nothing nothing) ∷ []

-- the lines of one format behind the head of the other; the same history with another place; a missing line; a line too many
abbrev pub MixedFilesAreRefused : Type 0
MixedFilesAreRefused =
    (are_lines_taken (with_lines (head_of 0 2) first_state later_states) ≡ true)
    × (are_lines_taken (with_lines (record_head records most_past 0 1) present_object onward) ≡ true)
    × (are_lines_taken (with_lines (record_head records most_past 0 1) first_state later_states) ≡ false)
    × (are_lines_taken (with_lines (head_of 0 2) present_object onward) ≡ false)
    × (are_lines_taken (with_lines (head_of 1 2) first_state later_states) ≡ true)
    × (are_lines_taken (with_lines (head_of 0 3) first_state later_states) ≡ false)
    × (are_lines_taken (with_lines (head_of 0 1) first_state later_states) ≡ false)

-- a record that doesn't fit, behind the head of records, behind that of states, and behind none; a missing line of states; a file of
-- states with the lines of records
abbrev pub FaultsAreTold : Type 0
FaultsAreTold =
    (lines_number (with_lines (record_head records most_past 0 1) present_object misfit) ≡ 71)
    × (lines_number (with_lines (head_of 0 2) present_object misfit) ≡ 70)
    × (lines_number (with_lines (numbered_head 4) present_object misfit) ≡ 70)
    × (lines_number (with_lines (head_of 0 3) first_state later_states) ≡ 70)
    × (lines_number (with_lines (head_of 0 2) first_state onward) ≡ 70)

-- ---- subresources

-- the sample's apply, through the subresource, and its state, in which the manager acts through it
abbrev pub status_label : Label
status_label = applied (record { name = m1; part = status }) false (codes "2024-05-01T10:00:01Z")

abbrev pub through_status : Entry → Entry
through_status e = record { manager = record { name = e.manager.name; operation = e.manager.operation; part = status }; owned = e.owned; moment = e.moment }

-- the same manager, who owns the spec as well
abbrev pub with_spec : Entry → Entry
with_spec e = record { manager = e.manager; owned = union e.owned (listed ((field (codes "spec") ∷ []) ∷ [])); moment = e.moment }

abbrev pub status_state : State
status_state = record { body = applied_step.state.body; table = map through_status applied_step.state.table }

abbrev pub owning_spec : State → State
owning_spec w = record { body = w.body; table = map with_spec w.table }

-- the line on to a state, and the line back to the first one
abbrev pub line_to : Label → State → List Json
line_to label w = record_line filed label filed.timeline.first w ∷ []

abbrev pub line_from : Label → State → List Json
line_from label w = record_line filed label w filed.timeline.first ∷ []

abbrev pub shown_state : State → Json
shown_state w = whole_object filed w

-- the command alone has a subresource; a manager that is here has one; one that is gone; one that changes; an entry of the present object
abbrev pub status_files : Format → List (List Json)
status_files f =
    with_lines (record_head f most_past 0 1) present_object (line_to status_label applied_step.state)
    ∷ with_lines (record_head f most_past 0 1) present_object (line_to applied_step.label status_state)
    ∷ with_lines (record_head f most_past 1 0) (shown_state status_state) (line_from applied_step.label status_state)
    ∷ with_lines (record_head f most_past 1 0) (shown_state status_state) (record_line filed applied_step.label status_state (owning_spec status_state) ∷ [])
    ∷ with_lines (record_head f most_past 0 0) (shown_state status_state) []
    ∷ []

-- a record that doesn't fit and tells of a subresource: one is gone who is not there
abbrev pub status_misfit : List Json
status_misfit =
    moved_value (record_with nothing nothing (list_of (list_of (string_json m1 ∷ string_json (codes "Apply") ∷ string_json (codes "status") ∷ []) ∷ [])) nothing nothing)
    ∷ []

-- the format that tells of subresources has such files; in the other format of records each is no text of a line, and so is a record that doesn't
-- fit; files of states with a command or with a manager of a subresource are refused too
abbrev pub SubresourcesAreTold : Type 0
SubresourcesAreTold =
    (list_all are_lines_taken (status_files parts) ≡ true)
    × (list_all are_lines_taken (status_files depths) ≡ true)
    × (list_any are_lines_taken (status_files records) ≡ false)
    × (list_all (λ vs. lines_number vs == 70) (status_files records) ≡ true)
    × (lines_number (with_lines (record_head parts most_past 0 1) present_object status_misfit) ≡ 71)
    × (lines_number (with_lines (record_head records most_past 0 1) present_object status_misfit) ≡ 70)
    × (are_lines_taken (with_lines (head_of 0 2) first_state (step_json filed (record { label = status_label; state = applied_step.state }) ∷ [])) ≡ false)
    × (are_lines_taken (with_lines (head_of 0 2) first_state (step_json filed (record { label = applied_step.label; state = status_state }) ∷ [])) ≡ false)
