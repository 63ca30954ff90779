-- The values of a bench file are those written of the bench that is taken from them, and its text is the bench's.
use Rattle.std.proofs.Common.{◌≡◌, ◌<◌, ◌+◌, length, List, [], ◌∷◌, map, true, ◌&&◌, Option, Some, None, option_and_then, sym, ap, subst, ◌∙◌, arith, eqb-true}
use Rattle.std.proofs.lemmas.Bool.{and_parts}
use Rattle.std.proofs.lemmas.Bool.Decides.{nat_tests}
use Rattle.std.proofs.lemmas.List.Elements.{All-nil, All-cons}
use Rattle.std.proofs.lemmas.Option.{same_Some, none-some}
use Rattle.std.specs.List.{All}
use Rattle.std.specs.Prelude.{◌==◌, codes, nat_lt, nat_le, Result, Ok, Err}
use Rattle.ssa_model.specs.definitions.Limits.{most_past, most_bench_bytes}
use Rattle.ssa_model.specs.definitions.Json.{Json, member_at, compact}
use Rattle.ssa_model.specs.definitions.Readings.{Readings}
use Rattle.ssa_model.specs.definitions.Commands.{value_in}
use Rattle.ssa_model.specs.definitions.Schema.{Schema, SchemaFault, read_schema}
use Rattle.ssa_model.specs.definitions.Kind.{Kind}
use Rattle.ssa_model.specs.definitions.Operations.{State}
use Rattle.ssa_model.specs.definitions.History.{Label, Step, Bench, with_timeline}
use Rattle.ssa_model.specs.definitions.Answers.{bench_of, Fault, file_state}
use Rattle.ssa_model.specs.definitions.Lines.{ended}
use Rattle.ssa_model.specs.definitions.BenchText.{states, head_of, first_json, step_json, bench_values}
use Rattle.ssa_model.specs.definitions.Formats.{can_tell_label, can_tell_state, CanTellStep, CanTell}
use Rattle.ssa_model.specs.definitions.BenchOfStates.{text_lines, spelled_values, given_if, is_written_as, number_in, Head, head_in, schema_in, object_in, lone_in, keeps_order, step_with, step_in, steps_in, with_steps, values_bench, label_in}
use Rattle.ssa_model.specs.laws.BenchFiles.{TakenIsItsText}
use Rattle.ssa_model.proofs.Given.{given-back, tested-back, and_then-back, map-back}
use Rattle.ssa_model.proofs.LoneBenches.{lone-parts}
use Rattle.ssa_model.proofs.TakenOfWritten.{nat-itself}
use Rattle.ssa_model.proofs.SpelledValues.{text-of-values, lines-are-ended}
use Rattle.ssa_model.proofs.Tables.{same_text-true}

-- ---- the head and the schema

-- a head that is taken is written so, and its place is that of a state
pub head-from : (v : Json) (h : Head) → head_in v ≡ Some h → (compact v ≡ compact (head_of h.place h.states)) × (h.place < h.states)
head-from v h is =
    let place = and_then-back _ (number_in (member_at (codes "place") v)) h is in
    let count = and_then-back _ (number_in (member_at (codes "states") v)) h place.2 in
    let written = is_written_as (head_of place.0 count.0) v in
    let got = given-back (written && (nat_lt place.0 count.0 && nat_le count.0 (most_past + 1))) (record { place = place.0; states = count.0 }) h count.2 in
    let tests = and_parts written _ got.0 in
    let first = (and_parts (nat_lt place.0 count.0) (nat_le count.0 (most_past + 1)) tests.1).0 in
    let within : place.0 < count.0 = grind (arith, nat_tests, first) in (
      sym (same_text-true (compact (head_of place.0 count.0)) (compact v) tests.0) ∙ ap (λ (x : Head). compact (head_of x.place x.states)) got.1,
      subst (λ (x : Head). x.place < x.states) got.1 within,
    )

-- the schema that is taken from a value has this value for its source
pub schema-from : (v : Json) (r : Result Kind SchemaFault) (schema : Schema)
    → elim r [ Ok kind ↦ Some (record { source = v; kind = kind }) | Err f ↦ None ] ≡ Some schema → v ≡ schema.source
schema-from v (Ok kind) schema is = ap (λ (s : Schema). s.source) (same_Some {A = Schema} (record { source = v; kind = kind }) schema is)
schema-from v (Err f) schema is = absurd (none-some schema is)

-- ---- the first state

-- the bench that is taken of a first state's value is made from its object, is written so, and the format can tell its managers
pub lone-from : (v : Json) (r : Result Bench Fault) (lone : Bench)
    → elim r [ Ok bench ↦ given_if (is_written_as (first_json bench) v && can_tell_state states bench.timeline.first) bench | Err f ↦ None ] ≡ Some lone
    → (r ≡ Ok lone) × (compact v ≡ compact (first_json lone)) × (can_tell_state states lone.timeline.first ≡ true)
lone-from v (Ok bench) lone is =
    let got = given-back (is_written_as (first_json bench) v && can_tell_state states bench.timeline.first) bench lone is in
    let tests = and_parts (is_written_as (first_json bench) v) (can_tell_state states bench.timeline.first) got.0 in (
      ap Ok got.1,
      sym (same_text-true (compact (first_json bench)) (compact v) tests.0) ∙ ap (λ b. compact (first_json b)) got.1,
      sym (ap (λ (b : Bench). can_tell_state states b.timeline.first) got.1) ∙ tests.1,
    )
lone-from v (Err f) lone is = absurd (none-some lone is)

-- ---- the later states

module _ (readings : Readings) (bench : Bench) where
  step-from : (before : State) (v : Json) (label : Label) (r : Result State Fault) (s : Step)
      → elim r [ Ok state ↦ step_with bench before v label state | Err f ↦ None ] ≡ Some s
      → (compact v ≡ compact (step_json bench s)) × CanTellStep states s
  step-from before v label (Ok state) s is =
      let made : Step = record { label = label; state = state } in
      let tells = can_tell_label states label && can_tell_state states state in
      let got = given-back (is_written_as (step_json bench made) v && (keeps_order before.table state.table && tells)) made s is in
      let tests = and_parts (is_written_as (step_json bench made) v) (keeps_order before.table state.table && tells) got.0 in
      let told = and_parts (can_tell_label states label) (can_tell_state states state) (and_parts (keeps_order before.table state.table) tells tests.1).1 in (
        sym (same_text-true (compact (step_json bench made)) (compact v) tests.0)
            ∙ ap (λ t. compact (step_json bench t)) got.1,
        subst (CanTellStep states) got.1 told,
      )
  step-from before v label (Err f) s is = absurd (none-some s is)

  steps-from : (before : State) (vs : List Json) (ss : List Step) → steps_in readings bench before vs ≡ Some ss
      → (map compact vs ≡ map compact (map (step_json bench) ss)) × All (CanTellStep states) ss
  steps-from before [] ss is =
      let same = same_Some [] ss is in
      (ap (λ ts. map compact (map (step_json bench) ts)) same, subst (All (CanTellStep states)) same (All-nil (CanTellStep states)))
  steps-from before (v ∷ vs) ss is =
      let first = and_then-back _ (step_in readings bench before v) ss is in
      let rest = map-back (λ ts. first.0 ∷ ts) (steps_in readings bench first.0.state vs) ss first.2 in
      let made = and_then-back _ (label_in readings (value_in (member_at (codes "command") v))) first.0 first.1 in
      let own = step-from before v made.0 (file_state readings bench.schema.kind (object_in v)) first.0 made.2 in
      let later = steps-from first.0.state vs rest.0 rest.1 in (
        (λ i. own.0 i ∷ later.0 i) ∙ ap (λ ts. map compact (map (step_json bench) ts)) rest.2,
        subst (All (CanTellStep states)) rest.2 (All-cons (CanTellStep states) first.0 rest.0 own.1 later.1),
      )

-- ---- the bench

module _ (readings : Readings) (head source first : Json) (later : List Json) (bench : Bench) where
  abbrev Written : Type 0
  Written = (map compact (head ∷ source ∷ first ∷ later) ≡ map compact (bench_values bench)) × CanTell states bench

  by-steps : (h : Head) (schema : Schema) (lone : Bench) (steps : List Step)
      → head_in head ≡ Some h → schema_in source ≡ Some schema → lone_in readings schema first ≡ Some lone
      → steps_in readings lone lone.timeline.first later ≡ Some steps → with_steps h lone steps ≡ Some bench → Written
  by-steps h schema lone steps headed schemed alone stepped is =
      let count = length steps in
      let made = with_timeline lone (record { first = lone.timeline.first; later = steps; place = h.place }) in
      let got = given-back (h.states == count + 1) made bench is in
      let counted = eqb-true h.states (count + 1) got.0 in
      let lone_is = lone-from first (bench_of readings schema (object_in first)) lone alone in
      let head_is = (head-from head h headed).0 ∙ ap (λ n. compact (head_of h.place n)) counted in
      let parts = lone-parts readings most_past schema (object_in first) lone lone_is.0 in
      let schema_is = parts.schema_is in
      let source_is = schema-from source (read_schema source) schema schemed ∙ ap (λ (x : Schema). x.source) schema_is in
      let steps_are = steps-from readings lone lone.timeline.first later steps stepped in
      let written : map compact (head ∷ source ∷ first ∷ later) ≡ map compact (bench_values made) =
      λ i. head_is i ∷ compact (source_is i) ∷ lone_is.1 i ∷ steps_are.0 i in
      let deep : (lone.depth == most_past) ≡ true = ap (λ n. n == most_past) (sym parts.depth_is) ∙ nat-itself most_past in
      let tells : CanTell states made = record { depth = deep; first = lone_is.2; later = steps_are.1 } in
      (written ∙ ap (λ b. map compact (bench_values b)) got.1, subst (CanTell states) got.1 tells)

  abbrev of_lone : Head → Bench → Option Bench
  of_lone h lone = option_and_then (with_steps h lone) (steps_in readings lone lone.timeline.first later)

  abbrev of_schema : Head → Schema → Option Bench
  of_schema h schema = option_and_then (of_lone h) (lone_in readings schema first)

  abbrev of_head : Head → Option Bench
  of_head h = option_and_then (of_schema h) (schema_in source)

  by-lone : (h : Head) (schema : Schema) (lone : Bench)
      → head_in head ≡ Some h → schema_in source ≡ Some schema → lone_in readings schema first ≡ Some lone → of_lone h lone ≡ Some bench → Written
  by-lone h schema lone headed schemed alone is =
      let got = and_then-back (with_steps h lone) (steps_in readings lone lone.timeline.first later) bench is in
      by-steps h schema lone got.0 headed schemed alone got.1 got.2

  by-schema : (h : Head) (schema : Schema) → head_in head ≡ Some h → schema_in source ≡ Some schema → of_schema h schema ≡ Some bench → Written
  by-schema h schema headed schemed is =
      let got = and_then-back (of_lone h) (lone_in readings schema first) bench is in
      by-lone h schema got.0 headed schemed got.1 got.2

  by-head : (h : Head) → head_in head ≡ Some h → of_head h ≡ Some bench → Written
  by-head h headed is =
      let got = and_then-back (of_schema h) (schema_in source) bench is in
      by-schema h got.0 headed got.1 got.2

  by-values : option_and_then of_head (head_in head) ≡ Some bench → Written
  by-values is =
      let got = and_then-back of_head (head_in head) bench is in
      by-head got.0 got.1 got.2

-- the values from which a bench is taken have the texts of those that are written of it, of which the format can tell
pub values-written : (readings : Readings) (vs : List Json) (bench : Bench) → values_bench readings vs ≡ Some bench
    → (map compact vs ≡ map compact (bench_values bench)) × CanTell states bench
values-written readings [] bench is = absurd (none-some bench is)
values-written readings (head ∷ []) bench is = absurd (none-some bench is)
values-written readings (head ∷ source ∷ []) bench is = absurd (none-some bench is)
values-written readings (head ∷ source ∷ first ∷ later) bench is = by-values readings head source first later bench is

-- the law
pub taken_is_its_text : TakenIsItsText
taken_is_its_text readings t bench is =
    let small = tested-back (nat_le (length t) most_bench_bytes) _ bench is in
    let values = and_then-back (values_bench readings) (option_and_then (spelled_values readings) (text_lines t)) bench small in
    let ls = and_then-back (spelled_values readings) (text_lines t) values.0 values.1 in
    text-of-values readings t ls.0 values.0 ls.1 ls.2 ∙ lines-are-ended values.0 ∙ ap ended (values-written readings values.0 bench values.2).0
    ∙ sym (lines-are-ended (bench_values bench))
