-- From the values that are written of a valid bench the bench is taken, and from its file.
use Rattle.std.proofs.Common.{◌≡◌, ◌≤◌, ℕ, ◌+◌, length, List, [], ◌∷◌, map, true, ◌&&◌, Option, Some, None, option_map, option_and_then, refl, sym, ap, ◌∙◌, arith, eqb-true}
use Rattle.std.proofs.lemmas.Bool.{and_from, and_parts}
use Rattle.std.proofs.lemmas.Bool.Decides.{nat_tests}
use Rattle.std.proofs.lemmas.List.Elements.{All-head, All-tail}
use Rattle.std.specs.Cmp.Lexicographic.{pointwise}
use Rattle.std.specs.List.{All}
use Rattle.std.specs.Prelude.{if◌then◌else◌, ◌==◌, nat_lt, nat_le, Result, Ok, Err}
use Rattle.ssa_model.specs.definitions.Limits.{most_past, most_bench_bytes}
use Rattle.ssa_model.specs.definitions.Json.{Text, Json, compact}
use Rattle.ssa_model.specs.definitions.Readings.{Readings}
use Rattle.ssa_model.specs.definitions.Schema.{Schema, SchemaFault, read_schema}
use Rattle.ssa_model.specs.definitions.Kind.{Kind}
use Rattle.ssa_model.specs.definitions.Lawful.{IsSchemaKind}
use Rattle.ssa_model.specs.definitions.Objects.{is_identity}
use Rattle.ssa_model.specs.definitions.Parts.{Subresource, main, status}
use Rattle.ssa_model.specs.definitions.Operations.{State}
use Rattle.ssa_model.specs.definitions.Replies.{label_json}
use Rattle.ssa_model.specs.definitions.Table.{Table, same_manager}
use Rattle.ssa_model.specs.definitions.History.{Label, applied, updated, stripped, Step, Bench, is_manager_name}
use Rattle.ssa_model.specs.definitions.Answers.{Fault, lone_bench, file_state, bench_with, bench_of}
use Rattle.ssa_model.specs.definitions.BenchText.{states, head_of, head_json, whole_object, first_json, step_json, bench_values, bench_text}
use Rattle.ssa_model.specs.definitions.Valid.{AllEntries, IsValidState, shared_managers, KeepsOrder, KeepsOrders}
use Rattle.ssa_model.specs.definitions.BenchFile.{IsReadBack, IsLabel, IsStep, IsSpelled, IsValidBench}
use Rattle.ssa_model.specs.definitions.Formats.{can_tell_label, can_tell_state, CanTellStep, CanTell}
use Rattle.ssa_model.specs.definitions.BenchOfStates.{text_lines, spelled_values, given_if, is_written_as, Head, head_in, schema_in, lone_in, said_label, is_label, label_in, keeps_order, step_with, step_in, steps_in, with_steps, values_bench, bench_in}
use Rattle.ssa_model.specs.laws.BenchFiles.{BenchFilesAreTaken}
use Rattle.ssa_model.proofs.LoneBenches.{lone-parts}
use Rattle.ssa_model.proofs.ShownStates.{shown_state_is_deep}
use Rattle.ssa_model.proofs.SpelledValues.{text_lines-of, spelled_values-of}
use Rattle.ssa_model.proofs.Tables.{manager-itself, same_manager-true, text-itself}
use Rattle.ssa_model.proofs.Tests.{pointwise-true, pointwise-itself}
use Rattle.ssa_model.proofs.Basics.{nat_le-of}

-- a value is written as it is written
pub written-itself : (v : Json) → is_written_as v v ≡ true
written-itself v = text-itself (compact v)

-- ---- the head and the schema

-- a head that is written is taken, where its place is that of a state, and there are no more states than a bench keeps
pub head-back : (place count : ℕ) → nat_lt place count ≡ true → nat_le count (most_past + 1) ≡ true
    → head_in (head_of place count) ≡ Some (record { place = place; states = count })
head-back place count within few =
    ap (λ b. given_if {X = Head} b (record { place = place; states = count }))
    (and_from (is_written_as (head_of place count) (head_of place count)) (nat_lt place count && nat_le count (most_past + 1))
    (written-itself (head_of place count)) (and_from (nat_lt place count) (nat_le count (most_past + 1)) within few))

-- a schema that is read is taken from its value
pub schema-back : (schema : Schema) → read_schema schema.source ≡ Ok schema.kind → schema_in schema.source ≡ Some schema
schema-back schema h = ap (λ (r : Result Kind SchemaFault). elim r [ Ok kind ↦ Some (record { source = schema.source; kind = kind }) | Err f ↦ None ]) h

-- ---- the states

lone-by : (v : Json) (r : Result Bench Fault) (lone : Bench)
    → r ≡ Ok lone → first_json lone ≡ v → can_tell_state states lone.timeline.first ≡ true
    → elim r [ Ok bench ↦ given_if (is_written_as (first_json bench) v && can_tell_state states bench.timeline.first) bench | Err f ↦ None ] ≡ Some lone
lone-by v r lone is same tells =
    ap
    (λ (r : Result Bench Fault). elim r
    [ Ok bench ↦ given_if (is_written_as (first_json bench) v && can_tell_state states bench.timeline.first) bench | Err f ↦ None ]) is
    ∙ ap (λ b. given_if b lone)
    (and_from (is_written_as (first_json lone) v) (can_tell_state states lone.timeline.first)
    (ap (is_written_as (first_json lone)) (sym same) ∙ written-itself (first_json lone)) tells)

-- ---- labels and the order of managers

-- the test of labels is right
pub is_label-by : (readings : Readings) (label : Label) → is_label readings label ≡ true → IsLabel readings label
is_label-by readings (applied who force at) h = and_parts (is_manager_name who.name) (readings.moment at) h
is_label-by readings (updated who at) h = and_parts (is_manager_name who.name) (readings.moment at) h
is_label-by readings stripped h = tt

-- a label passes the test of labels
pub is_label-of : (readings : Readings) (label : Label) → IsLabel readings label → is_label readings label ≡ true
is_label-of readings (applied who force at) h = and_from (is_manager_name who.name) (readings.moment at) h.0 h.1
is_label-of readings (updated who at) h = and_from (is_manager_name who.name) (readings.moment at) h.0 h.1
is_label-of readings stripped h = refl

-- the value that is written of a label says it
pub said-back : (label : Label) → said_label (label_json label) ≡ label
said-back (applied who force at) = by who.part
  where
    by : (s : Subresource) → said_label (label_json (applied (record { name = who.name; part = s }) force at)) ≡ applied (record { name = who.name; part = s }) force at
    by main = refl
    by status = refl
said-back (updated who at) = by who.part
  where
    by : (s : Subresource) → said_label (label_json (updated (record { name = who.name; part = s }) at)) ≡ updated (record { name = who.name; part = s }) at
    by main = refl
    by status = refl
said-back stripped = refl

-- and from this value the label is taken
pub label-back : (readings : Readings) (label : Label) → IsLabel readings label → label_in readings (label_json label) ≡ Some label
label-back readings label h =
    ap (λ l. given_if (is_label readings l) l) (said-back label) ∙ ap (λ b. given_if b label) (is_label-of readings label h)

-- where the test passes, the managers that two tables share stand in one order
pub keeps_order-by : (before after : Table) → keeps_order before after ≡ true → KeepsOrder before after
keeps_order-by before after h = pointwise-true same_manager same_manager-true (shared_managers before after) (shared_managers after before) h

-- and where they stand so, the test passes
pub keeps_order-of : (before after : Table) → KeepsOrder before after → keeps_order before after ≡ true
keeps_order-of before after h = ap (pointwise same_manager (shared_managers before after)) (sym h)
    ∙ pointwise-itself same_manager manager-itself (shared_managers before after)

-- ---- the later states

module _ (readings : Readings) (bench : Bench) where
  -- a state whose object is taken as the state
  abbrev IsTaken : State → Type 0
  IsTaken state = file_state readings bench.schema.kind (whole_object bench state) ≡ Ok state

  abbrev made_of : State → Json → Result State Fault → Label → Option Step
  made_of before v r label = elim r [ Ok state ↦ step_with bench before v label state | Err f ↦ None ]

  step-back : (before : State) (s : Step)
      → IsTaken s.state → IsLabel readings s.label → KeepsOrder before.table s.state.table → CanTellStep states s
      → step_in readings bench before (step_json bench s) ≡ Some s
  step-back before s taken label kept tells =
      let v = step_json bench s in
      ap (option_and_then (made_of before v (file_state readings bench.schema.kind (whole_object bench s.state)))) (label-back readings s.label label)
      ∙ ap (λ r. made_of before v r s.label) taken
      ∙ ap (λ b. given_if b s)
      (and_from (is_written_as v v) (keeps_order before.table s.state.table && (can_tell_label states s.label && can_tell_state states s.state))
      (written-itself v)
      (and_from (keeps_order before.table s.state.table) (can_tell_label states s.label && can_tell_state states s.state)
      (keeps_order-of before.table s.state.table kept)
      (and_from (can_tell_label states s.label) (can_tell_state states s.state) tells.0 tells.1)))

  steps-back : (before : State) (ss : List Step)
      → All (λ s. IsTaken s.state) ss → All (IsStep readings) ss → KeepsOrders before ss → All (CanTellStep states) ss
      → steps_in readings bench before (map (step_json bench) ss) ≡ Some ss
  steps-back before [] taken steps kept tells = refl
  steps-back before (s ∷ ss) taken steps kept tells =
      let here = All-head (IsStep readings) s ss steps in
      let rest = steps-back s.state ss (All-tail (λ t. IsTaken t.state) s ss taken) (All-tail (IsStep readings) s ss steps) kept.1
      (All-tail (CanTellStep states) s ss tells) in
      ap (option_and_then (λ t. option_map (λ ts. t ∷ ts) (steps_in readings bench t.state (map (step_json bench) ss))))
      (step-back before s (All-head (λ t. IsTaken t.state) s ss taken) here.label kept.0 (All-head (CanTellStep states) s ss tells))
      ∙ ap (option_map (λ ts. s ∷ ts)) rest

-- ---- the bench

-- a number is equal to itself
pub nat-itself : (a : ℕ) → (a == a) ≡ true
nat-itself a = grind (arith, nat_tests)

module _ (readings : Readings) (bench : Bench) (named : is_identity bench.identity ≡ true) (accepted : IsSchemaKind bench.schema.kind)
    (state : State) (fits : IsValidState bench.schema.kind state) (back : AllEntries (IsReadBack readings) state.table) where
  -- from the object that is written of the state, the bench of this state is made
  pub shown-back : (depth : ℕ) → bench_with readings depth bench.schema (whole_object bench state) ≡ Ok (lone_bench depth bench.schema bench.identity state)
  shown-back depth = shown_state_is_deep readings depth bench.schema bench.identity state named accepted fits back

  -- and from this object the state is taken
  pub state-back : IsTaken readings bench state
  state-back = (lone-parts readings most_past bench.schema (whole_object bench state) (lone_bench most_past bench.schema bench.identity state) (shown-back most_past)).state_is

module _ (readings : Readings) (bench : Bench) (valid : IsValidBench readings bench) (tells : CanTell states bench) where
  abbrev lone : Bench
  lone = lone_bench bench.depth bench.schema bench.identity bench.timeline.first

  -- the bench has the greatest depth
  greatest : bench.depth ≡ most_past
  greatest = eqb-true bench.depth most_past tells.depth

  lone-back : lone_in readings bench.schema (first_json bench) ≡ Some lone
  lone-back =
      lone-by (first_json bench) (bench_of readings bench.schema (whole_object bench bench.timeline.first)) lone
      (ap (λ n. bench_with readings n bench.schema (whole_object bench bench.timeline.first)) (sym greatest)
      ∙ shown-back readings bench valid.named valid.accepted bench.timeline.first valid.states.first valid.first bench.depth) refl tells.first

  later-back : steps_in readings lone bench.timeline.first (map (step_json bench) bench.timeline.later) ≡ Some bench.timeline.later
  later-back =
      steps-back readings lone bench.timeline.first bench.timeline.later
      (λ k d h. state-back readings bench valid.named valid.accepted _ (valid.states.later k d h) (valid.steps k d h).table) valid.steps valid.order
      tells.later

  abbrev written_head : Head
  written_head = record { place = bench.timeline.place; states = length bench.timeline.later + 1 }

  steps-are : with_steps written_head lone bench.timeline.later ≡ Some bench
  steps-are =
      ap (λ b. given_if b bench) (nat-itself (length bench.timeline.later + 1))

  -- the head of the bench's file is taken
  pub own-head : head_in (head_json bench.timeline) ≡ Some written_head
  own-head =
      let count = length bench.timeline.later in
      let place = valid.place in
      let few = valid.few in
      let deep = valid.deep.1 in
      let within : nat_lt bench.timeline.place (count + 1) ≡ true = grind (arith, nat_tests, place) in
      head-back bench.timeline.place (count + 1) within (nat_le-of (count + 1) (most_past + 1) (omega (arith, few, deep)))

  abbrev of_lone : Bench → Option Bench
  of_lone l = option_and_then (with_steps written_head l) (steps_in readings l l.timeline.first (map (step_json bench) bench.timeline.later))

  abbrev of_schema : Schema → Option Bench
  of_schema schema = option_and_then of_lone (lone_in readings schema (first_json bench))

  -- from the values that are written of the bench it is taken
  pub values-back : values_bench readings (bench_values bench) ≡ Some bench
  values-back =
      ap (option_and_then of_head) own-head
      ∙ ap (option_and_then of_schema) (schema-back bench.schema valid.read)
      ∙ ap (option_and_then of_lone) lone-back
      ∙ ap (option_and_then (with_steps written_head lone)) later-back
      ∙ steps-are
    where
      of_head : Head → Option Bench
      of_head h =
          option_and_then
          (λ schema. option_and_then
          (λ l. option_and_then (with_steps h l) (steps_in readings l l.timeline.first (map (step_json bench) bench.timeline.later)))
          (lone_in readings schema (first_json bench)))
          (schema_in bench.schema.source)

  text-back : length (bench_text bench) ≤ most_bench_bytes → All (IsSpelled readings) (bench_values bench) → bench_in readings (bench_text bench) ≡ Some bench
  text-back h spelled =
      ap (λ b. if b then of_lines (text_lines (bench_text bench)) else None) (nat_le-of (length (bench_text bench)) most_bench_bytes h)
      ∙ ap of_lines (text_lines-of (bench_values bench))
      ∙ ap (option_and_then (values_bench readings)) (spelled_values-of readings (bench_values bench) spelled)
      ∙ values-back
    where
      of_lines : Option (List Text) → Option Bench
      of_lines o = option_and_then (values_bench readings) (option_and_then (spelled_values readings) o)

-- the law
pub bench_file_is_taken : BenchFilesAreTaken
bench_file_is_taken readings bench valid tells fits spelled = text-back readings bench valid tells fits spelled
