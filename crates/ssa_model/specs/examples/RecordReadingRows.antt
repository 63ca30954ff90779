-- Worked examples: the records of some commands are read from their values, and values that have not the shape of a record.
use Rattle.std.specs.Prelude.{◌≡◌, List, [], ◌∷◌, ◌++◌, Bool, true, false, ◌&&◌, Ok, if◌then◌else◌, codes}
use Rattle.std.specs.List.{list_any, list_all}
use Rattle.ssa_model.specs.definitions.Json.{Text, Json, list, object, no_items, Members, no_members, member, compact, same_text}
use Rattle.ssa_model.specs.definitions.Readings.{Readings}
use Rattle.ssa_model.specs.definitions.Operations.{State}
use Rattle.ssa_model.specs.definitions.Record.{Record, record_of}
use Rattle.ssa_model.specs.definitions.RecordText.{record_json}
use Rattle.ssa_model.specs.definitions.RecordReading.{is_record_shape, record_in, IsReadState}
use Rattle.ssa_model.specs.examples.Sample.{sample_kind, string_json, number_json}
use Rattle.ssa_model.specs.examples.EntryRows.{items_of, fields_at}
use Rattle.ssa_model.specs.examples.FileRows.{value_among, applied_step}
use Rattle.ssa_model.specs.examples.Rows.{new_bench}
use Rattle.ssa_model.specs.examples.RecordRows.{state_after, record_text, first_applied, both_applied, forced, ports_applied, without_b, reorder, four_hosts, hosts_led}

abbrev pub name_key : Text → Json
name_key n = object (member (codes "name") (string_json n) no_members)

abbrev pub host_values : List Json
host_values = string_json (codes "a") ∷ string_json (codes "b") ∷ string_json (codes "c") ∷ string_json (codes "d") ∷ string_json (codes "x") ∷ []

abbrev pub key_values : List Json
key_values = name_key (codes "a") ∷ name_key (codes "b") ∷ name_key (codes "c") ∷ host_values

-- the keys and values of the rows are read from their texts, and their moments are moments
abbrev pub record_readings : Readings
record_readings = record {
  value = λ t. if same_text t (codes " 1") then Ok (number_json 1) else value_among key_values t;
  moment = λ t. list_any (same_text t) (codes "2024-05-01T10:00:01Z" ∷ codes "2024-05-01T10:00:02Z" ∷ codes "2024-05-01T10:00:04Z" ∷ codes "t2" ∷ []);
}

abbrev pub written_record : Record → Json
written_record d = record_json (string_json (codes "example.com/v1")) sample_kind d

abbrev pub row_record : State → State → Json
row_record v w = written_record (record_of v w)

-- the record has its shape, and what is read from it is written as it is
abbrev pub is_read : State → State → Bool
is_read v w =
    is_record_shape record_readings (row_record v w)
    && same_text (compact (written_record (record_in record_readings sample_kind (row_record v w)))) (record_text v w)

-- back and forth
abbrev pub are_read : State → State → Bool
are_read v w = is_read v w && is_read w v

abbrev pub RecordsAreRead : Type 0
RecordsAreRead =
    (are_read (state_after []) (state_after first_applied) ≡ true)
    × (are_read (state_after both_applied) (state_after (both_applied ++ forced ∷ [])) ≡ true)
    × (is_read (state_after (ports_applied ++ without_b ∷ [])) (state_after ports_applied) ≡ true)
    × (is_read (state_after (ports_applied ++ reorder ∷ [])) (state_after ports_applied) ≡ true)
    × (are_read four_hosts hosts_led ≡ true)

-- ---- other values

abbrev pub nothing : Json
nothing = list no_items

-- the value of a record with these members in place of its own
abbrev pub members_with : Json → Json → Json → Json → Members → Members
members_with changed cut gone here rest =
    member (codes "changed") changed (member (codes "cut") cut (member (codes "gone") gone (member (codes "here") here
    (member (codes "leaves") nothing (member (codes "order") nothing rest)))))

abbrev pub record_with : Json → Json → Json → Json → Json → Json
record_with changed cut gone here put = object (members_with changed cut gone here (member (codes "put") put no_members))

abbrev pub list_of : List Json → Json
list_of vs = list (items_of vs)

abbrev pub path_of_texts : List Text → Json
path_of_texts ts = list_of (texts ts)
  where
    texts : List Text → List Json
    texts [] = []
    texts (t ∷ ts) = string_json t ∷ texts ts

abbrev pub cut_alone : List Text → Json
cut_alone ts = record_with nothing (list_of (path_of_texts ts ∷ [])) nothing nothing nothing

abbrev pub change_alone : Json → Members → Json
change_alone gain time =
    record_with (list_of (object (member (codes "gain") gain (member (codes "lose") (object no_members) (member (codes "manager") (string_json (codes "m1"))
    (member (codes "operation") (string_json (codes "Apply")) time)))) ∷ [])) nothing nothing nothing nothing

abbrev pub gone_alone : Text → Json
gone_alone operation = record_with nothing nothing (list_of (list_of (string_json (codes "m1") ∷ string_json operation ∷ []) ∷ [])) nothing nothing

abbrev pub put_alone : List Json → Json
put_alone vs = record_with nothing nothing nothing nothing (list_of (list_of vs ∷ []))

abbrev pub has_shape : Json → Bool
has_shape = is_record_shape record_readings

-- these have the shape of a record, be it the record of states or not: a path that no body has, changes with a moment and without,
-- one who is gone, and what stands in no list with a place
abbrev pub ShapesAreTold : Type 0
ShapesAreTold =
    list_all has_shape
    (cut_alone (codes "f:nothing" ∷ []) ∷ change_alone (fields_at (codes "f:a" ∷ [])) (member (codes "time") (string_json (codes "t2")) no_members)
    ∷ change_alone (fields_at []) no_members
    ∷ gone_alone (codes "Update") ∷ put_alone (path_of_texts (codes "f:spec" ∷ []) ∷ number_json 1 ∷ number_json 7 ∷ []) ∷ []) ≡ true

-- a member missing, one more, an element with a blank in it, `.` alone under an element, an operation and a moment that are none,
-- and a path alone, a fourth item, and a place that is no number
abbrev pub OtherShapesAreRefused : Type 0
OtherShapesAreRefused =
    list_any has_shape
    (object (members_with nothing nothing nothing nothing no_members)
    ∷ object (members_with nothing nothing nothing nothing (member (codes "put") nothing (member (codes "size") (number_json 0) no_members)))
    ∷ cut_alone (codes "v: 1" ∷ [])
    ∷ change_alone (object (member (codes "f:a") (fields_at (codes "." ∷ [])) no_members)) no_members
    ∷ gone_alone (codes "Patch")
    ∷ change_alone (fields_at []) (member (codes "time") (string_json (codes "t3")) no_members)
    ∷ put_alone (path_of_texts [] ∷ [])
    ∷ put_alone (path_of_texts [] ∷ number_json 1 ∷ number_json 2 ∷ number_json 3 ∷ [])
    ∷ put_alone (path_of_texts [] ∷ number_json 1 ∷ string_json (codes "2") ∷ []) ∷ []) ≡ false

-- what the laws of reading ask of two states is met by those before and after the first apply
abbrev pub ReadStatesAreMet : Type 0
ReadStatesAreMet = IsReadState record_readings new_bench.timeline.first × IsReadState record_readings applied_step.state
