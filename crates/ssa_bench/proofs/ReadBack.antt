-- Histories whose states are read back from what they are shown as.
use Rattle.std.proofs.Common.{◌≡◌, List, [], ◌∷◌, true}
use Rattle.std.specs.List.{All}
use Rattle.std.proofs.lemmas.List.Elements.{All-head, All-tail, All-nil, All-cons}
use Rattle.ssa_model.specs.definitions.History as model
use Rattle.ssa_model.specs.definitions.Lawful.{IsSchemaKind}
use Rattle.ssa_model.specs.definitions.Objects.{is_identity}
use Rattle.ssa_model.proofs.ShownStates.{shown_state_is_taken}
use Rattle.ssa_json.specs.Readings.{readings}
use Rattle.ssa_turn.specs.TablesBack.{MakesTableBack, AllTablesBack}
use Rattle.ssa_bench.specs.ReadBack.{MakesTakenBack, AllTakenBack}
use Rattle.ssa_model.specs.definitions.Valid.{MakesValid, AllValid}

-- what the law on shown states asks of a bench
pub record IsShown (n : model.Bench) : Type 0 where
  -- the schema's kind is one that a schema can have
  pub accepted : IsSchemaKind n.schema.kind
  -- the identity is one that an object can have
  pub named : is_identity n.identity ≡ true
  -- all states are valid under the kind
  pub valid : AllValid n.schema.kind n.timeline

-- each state of such a bench whose tables are read back is taken back from what it is shown as
pub all-taken : (n : model.Bench) → IsShown n → AllTablesBack n.timeline → AllTakenBack n
all-taken n h back = record {
  first = shown_state_is_taken readings n.schema n.identity n.timeline.first h.named h.accepted h.valid.first back.first;
  later = by n.timeline.later h.valid.later back.later;
}
  where
    by : (ts : List model.Step) → All (MakesValid n.schema.kind) ts → All MakesTableBack ts → All (MakesTakenBack n) ts
    by [] valid read = All-nil (MakesTakenBack n)
    by (t ∷ ts) valid read =
        All-cons (MakesTakenBack n) t ts
        (shown_state_is_taken readings n.schema n.identity t.state h.named h.accepted (All-head (MakesValid n.schema.kind) t ts valid)
        (All-head MakesTableBack t ts read))
        (by ts (All-tail (MakesValid n.schema.kind) t ts valid) (All-tail MakesTableBack t ts read))
