-- What a format can tell of a bench is taken as it would be in any format, and what it cannot tell is not taken.
use Rattle.std.proofs.Common.{◌≡◌, ℕ, Bool, true, false, ◌&&◌, Option, Some, None, refl, ap, ◌∙◌}
use Rattle.std.specs.Prelude.{codes, option_and_then, Result, Ok, Err}
use Rattle.ssa_model.specs.definitions.Answers as model
use Rattle.ssa_model.specs.definitions.Answers.{bench_of, bench_with, file_state}
use Rattle.ssa_model.specs.definitions.BenchText.{Format, states, whole_object, first_json, step_json}
use Rattle.ssa_model.specs.definitions.Commands.{value_in}
use Rattle.ssa_model.specs.definitions.Formats.{can_tell_label, can_tell_state}
use Rattle.ssa_model.specs.definitions.History.{Bench, Label, Step}
use Rattle.ssa_model.specs.definitions.Json.{Json, member_at}
use Rattle.ssa_model.specs.definitions.Operations.{State}
use Rattle.ssa_model.specs.definitions.Schema.{Schema}
use Rattle.ssa_model.specs.definitions.BenchOfStates.{given_if, is_written_as, keeps_order, label_in, lone_in, object_in, step_in, step_with}
use Rattle.ssa_model.specs.definitions.BenchOfRecords.{present_in}
use Rattle.ssa_json.specs.Readings.{readings}

-- with the second test passed the first one decides, without it nothing is given
first-decides : {X : Type 0} (a b : Bool) (x : X) → b ≡ true → given_if (a && b) x ≡ given_if a x
first-decides true b x h = ap (λ c. given_if c x) h
first-decides false b x h = refl

never-given : {X : Type 0} (a b : Bool) (x : X) → b ≡ false → given_if (a && b) x ≡ None
never-given true b x h = ap (λ c. given_if c x) h
never-given false b x h = refl

-- ---- the present state of a file of records

module _ (f : Format) (depth : ℕ) (schema : Schema) (v : Json) (now : Bench) (made : bench_with readings depth schema v ≡ Ok now) where
  abbrev own : Bool
  own = is_written_as (whole_object now now.timeline.first) v

  shown : present_in readings f depth schema v ≡ given_if (own && can_tell_state f now.timeline.first) now
  shown =
      ap
      (λ (r : Result Bench model.Fault). elim r
      [ Ok bench ↦ given_if (is_written_as (whole_object bench bench.timeline.first) v && can_tell_state f bench.timeline.first) bench | Err e ↦ None ]) made

  pub present-told : can_tell_state f now.timeline.first ≡ true → present_in readings f depth schema v ≡ given_if own now
  present-told told = shown ∙ first-decides own (can_tell_state f now.timeline.first) now told

  pub present-untold : can_tell_state f now.timeline.first ≡ false → present_in readings f depth schema v ≡ None
  present-untold untold = shown ∙ never-given own (can_tell_state f now.timeline.first) now untold

-- ---- the first state of a file of whole states

module _ (schema : Schema) (v : Json) (now : Bench) (made : bench_of readings schema (object_in v) ≡ Ok now) where
  abbrev first : Bool
  first = is_written_as (first_json now) v

  shown-first : lone_in readings schema v ≡ given_if (first && can_tell_state states now.timeline.first) now
  shown-first =
      ap
      (λ (r : Result Bench model.Fault). elim r
      [ Ok bench ↦ given_if (is_written_as (first_json bench) v && can_tell_state states bench.timeline.first) bench | Err e ↦ None ]) made

  pub lone-told : can_tell_state states now.timeline.first ≡ true → lone_in readings schema v ≡ given_if first now
  lone-told told = shown-first ∙ first-decides first (can_tell_state states now.timeline.first) now told

  pub lone-untold : can_tell_state states now.timeline.first ≡ false → lone_in readings schema v ≡ None
  lone-untold untold = shown-first ∙ never-given first (can_tell_state states now.timeline.first) now untold

-- ---- a later state

module _ (bench : Bench) (before : State) (v : Json) (label : Label) (state : State) where
  abbrev step : Step
  step = record { label = label; state = state }

  abbrev kept : Bool
  kept = keeps_order before.table state.table

  grouped : (a b c : Bool) → (a && (b && c)) ≡ ((a && b) && c)
  grouped true b c = refl
  grouped false b c = refl

  parted : step_with bench before v label state
      ≡ given_if ((is_written_as (step_json bench step) v && kept) && (can_tell_label states label && can_tell_state states state)) step
  parted = ap (λ b. given_if b step) (grouped (is_written_as (step_json bench step) v) kept (can_tell_label states label && can_tell_state states state))

  pub step-told : (can_tell_label states label && can_tell_state states state) ≡ true
      → step_with bench before v label state ≡ given_if (is_written_as (step_json bench step) v && kept) step
  step-told told = parted ∙ first-decides (is_written_as (step_json bench step) v && kept) (can_tell_label states label && can_tell_state states state) step told

  pub step-untold : (can_tell_label states label && can_tell_state states state) ≡ false → step_with bench before v label state ≡ None
  step-untold untold = parted
      ∙ never-given (is_written_as (step_json bench step) v && kept) (can_tell_label states label && can_tell_state states state) step untold

-- the label and the state that a line says decide what is taken of it
pub step-said : (bench : Bench) (before : State) (v : Json) (label : Label) (state : State)
    → label_in readings (value_in (member_at (codes "command") v)) ≡ Some label → file_state readings bench.schema.kind (object_in v) ≡ Ok state
    → step_in readings bench before v ≡ step_with bench before v label state
step-said bench before v label state said made =
    ap (option_and_then (λ l. elim (file_state readings bench.schema.kind (object_in v)) [ Ok s ↦ step_with bench before v l s | Err f ↦ None ])) said
    ∙ ap (λ (r : Result State model.Fault). elim r [ Ok s ↦ step_with bench before v label s | Err f ↦ None ]) made
