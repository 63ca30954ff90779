-- Worked examples: benches of object files with managers' entries, and the files' faults.
use Rattle.std.specs.Prelude.{◌≡◌, List, [], ◌∷◌, Result, Ok, Err, codes}
use Rattle.ssa_model.specs.definitions.Json.{Text, Json, list, object, Items, no_items, item, Members, no_members, member, same_text}
use Rattle.ssa_model.specs.definitions.Path.{field}
use Rattle.ssa_model.specs.definitions.Kind.{unknown_field}
use Rattle.ssa_model.specs.definitions.Readings.{Readings, not_json}
use Rattle.ssa_model.specs.definitions.ElementTexts.{bad_element, index_element}
use Rattle.ssa_model.specs.definitions.GivenEntries.{bad_entry, manager_name, other_version, bad_moment, of_fields, empty_entry, absent_path, duplicate_manager}
use Rattle.ssa_model.specs.definitions.History.{Bench, present}
use Rattle.ssa_model.specs.definitions.Answers.{Fault, body_fault, managed_fields_given, entry_fault, command_body, bench_of}
use Rattle.ssa_model.specs.examples.Sample.{sample_schema, string_json, number_json}
use Rattle.ssa_model.specs.examples.Rows.{sample_object, new_bench, shown_table, m1, m2, replicas_texts, image_texts}

-- `t1` is the one moment, and no text is JSON
abbrev pub row_readings : Readings
row_readings = record { value = λ t. Err not_json; moment = λ t. same_text t (codes "t1") }

-- an entry of a manager: its version, its paths as FieldsV1, its name, its operation, and what follows that
abbrev pub entry_with : Text → Json → Text → Text → Members → Json
entry_with version fields name operation rest =
    object (member (codes "apiVersion") (string_json version) (member (codes "fieldsType") (string_json (codes "FieldsV1"))
    (member (codes "fieldsV1") fields (member (codes "manager") (string_json name) (member (codes "operation") (string_json operation) rest)))))

abbrev pub at_moment : Text → Members
at_moment t = member (codes "time") (string_json t) no_members

abbrev pub version : Text
version = codes "example.com/v1"

-- `{}` under the texts of a path
abbrev pub fields_at : List Text → Json
fields_at [] = object no_members
fields_at (t ∷ ts) = object (member t (fields_at ts) no_members)

abbrev pub owner : Text → Json → Json
owner name fields = entry_with version fields name (codes "Apply") (at_moment (codes "t1"))

abbrev pub items_of : List Json → Items
items_of [] = no_items
items_of (v ∷ vs) = item v (items_of vs)

-- the sample object with this spec and these entries
abbrev pub file_of : Members → List Json → Json
file_of spec entries =
    object (member (codes "apiVersion") (string_json version) (member (codes "kind") (string_json (codes "App"))
    (member (codes "metadata") (object (member (codes "managedFields") (list (items_of entries))
    (member (codes "name") (string_json (codes "web")) no_members)))
    (member (codes "spec") (object spec) no_members))))

abbrev pub file_with : List Json → Json
file_with = file_of (member (codes "replicas") (number_json 3) no_members)

abbrev pub table_in : Result Bench Fault → Result (List (Text × List (List Text) × Text)) Fault
table_in (Ok b) = Ok (shown_table (present b.timeline).table)
table_in (Err f) = Err f

-- the managers of such an object file, or its fault
abbrev pub given : List Json → Result (List (Text × List (List Text) × Text)) Fault
given entries = table_in (bench_of row_readings sample_schema (file_with entries))

abbrev pub EntriesAreTaken : Type 0
EntriesAreTaken =
    (given [] ≡ Ok [])
    × (given (owner m1 (fields_at replicas_texts) ∷ owner m2 (fields_at (codes "f:spec" ∷ [])) ∷ [])
    ≡ Ok ((m1, replicas_texts ∷ [], codes "t1") ∷ (m2, (codes "f:spec" ∷ []) ∷ [], codes "t1") ∷ []))

-- an entry with one change
abbrev pub BadEntriesAreTold : Type 0
BadEntriesAreTold =
    (given (entry_with version (fields_at replicas_texts) m1 (codes "Patch") (at_moment (codes "t1")) ∷ []) ≡ Err (entry_fault bad_entry))
    × (given (entry_with version (fields_at replicas_texts) m1 (codes "Apply")
    (member (codes "subresource") (string_json (codes "x")) (at_moment (codes "t1"))) ∷ []) ≡ Err (entry_fault bad_entry))
    × (given (object no_members ∷ []) ≡ Err (entry_fault bad_entry))
    × (given (entry_with version (fields_at replicas_texts) m1 (codes "Apply") no_members ∷ []) ≡ Err (entry_fault bad_entry))
    × (given (owner [] (fields_at replicas_texts) ∷ []) ≡ Err (entry_fault manager_name))
    × (given (entry_with (codes "example.com/v2") (fields_at replicas_texts) m1 (codes "Apply") (at_moment (codes "t1")) ∷ [])
    ≡ Err (entry_fault other_version))
    × (given (entry_with (codes "example.com/v2") (object no_members) m1 (codes "Apply") (at_moment (codes "t1")) ∷ []) ≡ Err (entry_fault other_version))
    × (given (entry_with version (fields_at replicas_texts) m1 (codes "Apply") (at_moment (codes "t2")) ∷ []) ≡ Err (entry_fault bad_moment))

abbrev pub BadSetsAreTold : Type 0
BadSetsAreTold =
    (given (owner m1 (object no_members) ∷ []) ≡ Err (entry_fault empty_entry))
    × (given (owner m1 (fields_at (codes "i:0" ∷ [])) ∷ []) ≡ Err (entry_fault (of_fields index_element)))
    × (given (owner m1 (fields_at (codes "q" ∷ [])) ∷ []) ≡ Err (entry_fault (of_fields bad_element)))
    × (given (owner m1 (fields_at (codes "f:metadata" ∷ [])) ∷ []) ≡ Err (entry_fault (absent_path (field (codes "metadata") ∷ []))))
    × (given (owner m1 (fields_at image_texts) ∷ []) ≡ Err (entry_fault (absent_path (field (codes "spec") ∷ field (codes "image") ∷ []))))
    × (given (owner m1 (fields_at replicas_texts) ∷ owner m1 (fields_at replicas_texts) ∷ []) ≡ Err (entry_fault duplicate_manager))

-- a wrong body is told before a wrong entry
abbrev pub BodyIsTestedFirst : Type 0
BodyIsTestedFirst =
    table_in (bench_of row_readings sample_schema (file_of (member (codes "size") (number_json 3) no_members) (object no_members ∷ [])))
    ≡ Err (body_fault unknown_field (field (codes "spec") ∷ field (codes "size") ∷ []))

abbrev pub with_uid : Json
with_uid = sample_object (member (codes "uid") (string_json (codes "7")) no_members) no_members

-- what a server keeps in metadata is dropped from an object file, and an unknown field of a command's object
abbrev pub ServerMembersAreDropped : Type 0
ServerMembersAreDropped =
    (table_in (bench_of row_readings sample_schema with_uid) ≡ Ok [])
    × (command_body new_bench with_uid ≡ Err (body_fault unknown_field (field (codes "metadata") ∷ field (codes "uid") ∷ [])))
    × (command_body new_bench (file_with []) ≡ Err managed_fields_given)
