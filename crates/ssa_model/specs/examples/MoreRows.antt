-- More worked examples: sets, maps and atomic values, repeats, strip, and one name under two operations.
use Rattle.std.specs.Prelude.{◌≡◌, List, [], ◌∷◌, ◌++◌, map, codes, false, Ok}
use Rattle.ssa_model.specs.definitions.Json.{Text, Json, list, object, Items, no_items, item, Members, no_members, member}
use Rattle.ssa_model.specs.definitions.Path.{field}
use Rattle.ssa_model.specs.definitions.PathMap.{get, listed}
use Rattle.ssa_model.specs.definitions.History.{present}
use Rattle.ssa_model.specs.definitions.FieldsV1.{fields_json}
use Rattle.ssa_model.specs.definitions.Answers as answers
use Rattle.ssa_model.specs.definitions.Answers.{Command, apply, update, strip, undo, redo}
use Rattle.ssa_model.specs.definitions.Schema.{read_schema}
use Rattle.ssa_model.specs.examples.Sample.{main_by, sample_schema, string_json, number_json, replicas_path}
use Rattle.ssa_model.specs.examples.Rows.{object_with, bare_object, with_replicas, with_image, new_bench, replies, table_after, order_of, done, at, clash, m1, m2, replicas_texts, image_texts, written}

abbrev pub texts_json : List Text → Items
texts_json [] = no_items
texts_json (t ∷ ts) = item (string_json t) (texts_json ts)

abbrev pub with_hosts : List Text → Json
with_hosts hosts = object_with (member (codes "hosts") (list (texts_json hosts)) no_members)

abbrev pub with_args : List Text → Json
with_args words = object_with (member (codes "args") (list (texts_json words)) no_members)

abbrev pub with_env : Members → Json
with_env entries = object_with (member (codes "env") (object entries) no_members)

abbrev pub host_texts : Text → List Text
host_texts h = codes "f:spec" ∷ codes "f:hosts" ∷ (codes "v:\"" ++ h ++ codes "\"") ∷ []

abbrev pub env_texts : Text → List Text
env_texts n = codes "f:spec" ∷ codes "f:env" ∷ (codes "f:" ++ n) ∷ []

-- the order of the hosts after the commands
abbrev pub hosts_after : List Command → List Text
hosts_after cs = order_of (get (present (answers.run new_bench cs).1.timeline).body (field (codes "spec") ∷ field (codes "hosts") ∷ []))

-- an atomic list is one field, whole
abbrev pub AtomicListClashes : Type 0
AtomicListClashes =
    replies (apply (main_by m1) false (codes "t1") (with_args (codes "x" ∷ codes "y" ∷ [])) ∷ apply (main_by m2) false (codes "t2") (with_args (codes "x" ∷ codes "z" ∷ [])) ∷ [])
    ≡ done ((codes "f:spec" ∷ codes "f:args" ∷ []) ∷ []) 1 [] [] ∷ clash ((m1, (codes "f:spec" ∷ codes "f:args" ∷ []) ∷ []) ∷ []) ∷ []

abbrev pub twice : List Command
twice = apply (main_by m1) false (codes "t1") (with_replicas 3) ∷ apply (main_by m1) false (codes "t9") (with_replicas 3) ∷ []

-- a command that changes nothing is kept, and renews no moment
abbrev pub RepeatRenewsNothing : Type 0
RepeatRenewsNothing =
    (replies (twice ++ undo ∷ []) ≡ done (replicas_texts ∷ []) 1 [] [] ∷ done [] 1 [] [] ∷ at 1 1 ∷ [])
    × (table_after twice ≡ (m1, replicas_texts ∷ [], codes "t1") ∷ [])

abbrev pub three_managers : List Command
three_managers =
    apply (main_by m1) false (codes "t1") (with_image (codes "a:1")) ∷ apply (main_by m2) false (codes "t2") (with_replicas 3)
    ∷ apply (main_by (codes "m3")) false (codes "t3") (with_hosts (codes "h" ∷ [])) ∷ []

-- strip empties the table
abbrev pub StripEmptiesTable : Type 0
StripEmptiesTable = table_after (three_managers ++ strip ∷ []) ≡ []

-- undo brings each manager back to its place, with its moment
abbrev pub UndoBringsManagersBack : Type 0
UndoBringsManagersBack =
    table_after (three_managers ++ strip ∷ undo ∷ [])
    ≡ (m1, image_texts ∷ [], codes "t1") ∷ (m2, replicas_texts ∷ [], codes "t2") ∷ (codes "m3", host_texts (codes "h") ∷ [], codes "t3") ∷ []

abbrev pub host_updates : List Command
host_updates =
    update (main_by (codes "u")) (codes "t1") (with_hosts (codes "b" ∷ codes "a" ∷ [])) ∷ update (main_by (codes "u")) (codes "t2") (with_hosts [])
    ∷ update (main_by (codes "u")) (codes "t3") (with_hosts (codes "a" ∷ codes "c" ∷ codes "b" ∷ [])) ∷ []

-- a set that is emptied and filled again, back and forth
abbrev pub SetsBackAndForth : Type 0
SetsBackAndForth =
    (replies host_updates
    ≡ done (host_texts (codes "a") ∷ host_texts (codes "b") ∷ []) 1 [] [] ∷ done [] 0 [] (host_texts (codes "a") ∷ host_texts (codes "b") ∷ [])
    ∷ done (host_texts (codes "a") ∷ host_texts (codes "b") ∷ host_texts (codes "c") ∷ []) 1 [] [] ∷ [])
    × (hosts_after (host_updates ++ undo ∷ undo ∷ []) ≡ codes "v:\"b\"" ∷ codes "v:\"a\"" ∷ [])
    × (hosts_after (host_updates ++ undo ∷ undo ∷ redo ∷ redo ∷ []) ≡ codes "v:\"a\"" ∷ codes "v:\"c\"" ∷ codes "v:\"b\"" ∷ [])

-- the hosts of the first of these, then of the second: theirs alone keep their places, those of both stand as the second has them, and its own follow
abbrev pub host_list : List Text → List (List Text)
host_list hosts = map host_texts hosts

abbrev pub led_hosts : List Command
led_hosts =
    update (main_by (codes "u")) (codes "t1") (with_hosts (codes "a" ∷ codes "b" ∷ codes "c" ∷ codes "d" ∷ []))
    ∷ apply (main_by m1) false (codes "t2") (with_hosts (codes "d" ∷ codes "x" ∷ codes "a" ∷ [])) ∷ []

-- the configuration's order leads
abbrev pub ConfigurationLeads : Type 0
ConfigurationLeads =
    (replies led_hosts ≡ done (host_list (codes "a" ∷ codes "b" ∷ codes "c" ∷ codes "d" ∷ [])) 1 [] [] ∷ done (host_list (codes "x" ∷ [])) 2 [] [] ∷ [])
    × (hosts_after led_hosts ≡ codes "v:\"d\"" ∷ codes "v:\"b\"" ∷ codes "v:\"c\"" ∷ codes "v:\"a\"" ∷ codes "v:\"x\"" ∷ [])
    × (hosts_after (led_hosts ++ undo ∷ []) ≡ codes "v:\"a\"" ∷ codes "v:\"b\"" ∷ codes "v:\"c\"" ∷ codes "v:\"d\"" ∷ [])

-- an order alone changes no manager and no moment
abbrev pub OrderOwnsNothing : Type 0
OrderOwnsNothing =
    let cs = apply (main_by m1) false (codes "t1") (with_hosts (codes "a" ∷ codes "b" ∷ [])) ∷ apply (main_by m1) false (codes "t2") (with_hosts (codes "b" ∷ codes "a" ∷ [])) ∷ [] in
    (replies cs ≡ done (host_list (codes "a" ∷ codes "b" ∷ [])) 1 [] [] ∷ done [] 1 [] [] ∷ [])
    × (hosts_after cs ≡ codes "v:\"b\"" ∷ codes "v:\"a\"" ∷ [])
    × (table_after cs ≡ (m1, host_list (codes "a" ∷ codes "b" ∷ []), codes "t1") ∷ [])
    × (hosts_after (cs ++ undo ∷ []) ≡ codes "v:\"a\"" ∷ codes "v:\"b\"" ∷ [])

-- the place of an item that both have stays, and the item of the configuration alone follows
abbrev pub LiveHostsFirst : Type 0
LiveHostsFirst =
    let cs = apply (main_by m1) false (codes "t1") (with_hosts (codes "a" ∷ codes "b" ∷ [])) ∷ apply (main_by m2) false (codes "t2") (with_hosts (codes "c" ∷ codes "a" ∷ []))
    ∷ [] in
    (replies cs ≡ done (host_texts (codes "a") ∷ host_texts (codes "b") ∷ []) 1 [] [] ∷ done (host_texts (codes "c") ∷ []) 2 [] [] ∷ [])
    × (hosts_after cs ≡ codes "v:\"a\"" ∷ codes "v:\"b\"" ∷ codes "v:\"c\"" ∷ [])

-- an empty map is a point until it has an entry
abbrev pub EmptyMapIsOwned : Type 0
EmptyMapIsOwned =
    replies (apply (main_by m1) false (codes "t1") (with_env no_members)
    ∷ apply (main_by m2) false (codes "t2") (with_env (member (codes "A") (string_json (codes "1")) no_members)) ∷ [])
    ≡ done ((codes "f:spec" ∷ codes "f:env" ∷ []) ∷ []) 1 [] [] ∷ done (env_texts (codes "A") ∷ []) 2 [] [] ∷ []

-- an entry that is given up goes, one that another manager owns stays
abbrev pub GivenUpEntryGoes : Type 0
GivenUpEntryGoes =
    replies (apply (main_by m1) false (codes "t1") (with_env (member (codes "A") (string_json (codes "1")) (member (codes "B") (string_json (codes "2")) no_members)))
    ∷ apply (main_by m2) false (codes "t2") (with_env (member (codes "B") (string_json (codes "2")) no_members)) ∷ apply (main_by m1) false (codes "t3") bare_object ∷ [])
    ≡ done (env_texts (codes "A") ∷ env_texts (codes "B") ∷ []) 1 [] [] ∷ done [] 2 [] [] ∷ done [] 1 [] (env_texts (codes "A") ∷ []) ∷ []

-- one name has an entry for each operation, with a moment of its own
abbrev pub TwoOperationsOfOneName : Type 0
TwoOperationsOfOneName =
    let cs = apply (main_by (codes "m")) false (codes "t1") (with_image (codes "a:1"))
    ∷ update (main_by (codes "m")) (codes "t2") (object_with (member (codes "image") (string_json (codes "a:1")) (member (codes "replicas") (number_json 2) no_members)))
    ∷ apply (main_by (codes "m")) false (codes "t3") (with_image (codes "a:2")) ∷ [] in
    (replies cs ≡ done (image_texts ∷ []) 1 [] [] ∷ done (replicas_texts ∷ []) 2 [] [] ∷ done [] 2 (image_texts ∷ []) [] ∷ [])
    × (table_after cs ≡ (codes "m", image_texts ∷ [], codes "t3") ∷ (codes "m", replicas_texts ∷ [], codes "t2") ∷ [])

-- the writing of a set as FieldsV1
abbrev pub SetIsWritten : Type 0
SetIsWritten = fields_json (listed ((field (codes "spec") ∷ []) ∷ replicas_path ∷ [])) ≡ written

-- the sample schema is read as the sample's kind
abbrev pub SampleIsRead : Type 0
SampleIsRead = read_schema sample_schema.source ≡ Ok sample_schema.kind
