-- Laws of taking the states of a bench file of whole states from its lines.
use Rattle.std.proofs.Common.{◌≡◌, ◌&&◌, true, Option, Some, None, option_map, refl, sym, ap, subst, ◌∙◌}
use Rattle.std.proofs.lemmas.Bool.{and_parts}
use Rattle.std.proofs.lemmas.Option.{none-some}
use Rattle.std.specs.Prelude.{codes, Result, Ok, Err}
use Rattle.ssa_model.specs.definitions.Answers as model
use Rattle.ssa_model.specs.definitions.Answers.{file_state}
use Rattle.ssa_model.specs.definitions.BenchText.{states, step_json}
use Rattle.ssa_model.specs.definitions.Formats.{can_tell_label, can_tell_state}
use Rattle.ssa_model.specs.definitions.Commands.{value_in}
use Rattle.ssa_model.specs.definitions.History.{Bench, Label, applied, updated, stripped, Step, is_manager_name}
use Rattle.ssa_model.specs.definitions.Json.{Json, member_at}
use Rattle.ssa_model.specs.definitions.Operations.{State}
use Rattle.ssa_model.specs.definitions.Valid.{KeepsOrder, is_named}
use Rattle.ssa_model.specs.definitions.BenchOfStates.{given_if, is_label, is_written_as, keeps_order, label_in, object_in, said_label, step_in, step_with}
use Rattle.ssa_model.proofs.Given.{given-back, and_then-back}
use Rattle.ssa_model.proofs.TakenOfWritten.{keeps_order-by}
use Rattle.ssa_json.specs.Readings.{readings}

-- ---- the label

label-named : (l : Label) → is_label readings l ≡ true → is_named l ≡ true
label-named (applied who force at) h = (and_parts (is_manager_name who.name) (readings.moment at) h).0
label-named (updated who at) h = (and_parts (is_manager_name who.name) (readings.moment at) h).0
label-named stripped h = refl

said-named : (v : Json) (l : Label) → label_in readings v ≡ Some l → is_named l ≡ true
said-named v l h =
    let got = given-back (is_label readings (said_label v)) (said_label v) l h in
    subst (λ k. is_named k ≡ true) got.1 (label-named (said_label v) got.0)

-- ---- a step that is taken

-- the step may follow the state
pub record MayFollow (before : State) (s : Step) : Type 0 where
  pub order : KeepsOrder before.table s.state.table
  pub named : is_named s.label ≡ true

module _ (bench : Bench) (before : State) (v : Json) where
  by-state : (l : Label) (r : Result State model.Fault) (s : Step) → is_named l ≡ true
      → elim r [ Ok state ↦ step_with bench before v l state | Err f ↦ None ] ≡ Some s → MayFollow before s
  by-state l (Ok state) s named h =
      let made : Step = record { label = l; state = state } in
      let tells = can_tell_label states l && can_tell_state states state in
      let got = given-back (is_written_as (step_json bench made) v && (keeps_order before.table state.table && tells)) made s h in
      let both = and_parts (is_written_as (step_json bench made) v) (keeps_order before.table state.table && tells) got.0 in
      let kept = and_parts (keeps_order before.table state.table) tells both.1 in
      subst (MayFollow before) got.1 (record { order = keeps_order-by before.table state.table kept.0; named = named })
  by-state l (Err f) s named h = absurd (none-some s h)

  -- a step that is taken of a line behind a state may follow it
  pub taken-follows : (s : Step) → step_in readings bench before v ≡ Some s → MayFollow before s
  taken-follows s h =
      let said = and_then-back _ (label_in readings (value_in (member_at (codes "command") v))) s h in
      by-state said.0 (file_state readings bench.schema.kind (object_in v)) s (said-named (value_in (member_at (codes "command") v)) said.0 said.1) said.2
