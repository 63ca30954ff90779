-- What the sample is, and to what its commands lead.
use Rattle.ssa_model.specs.definitions.Kind.{Kind}
use Rattle.ssa_model.specs.definitions.Operations.{State}
use Rattle.ssa_model.specs.definitions.Valid.{IsValidState, KeepsOrder}
use Rattle.ssa_merge.specs.States.{state_view}
use Rattle.ssa_calls.specs.declared.sample.Sample.{Sample}

-- the state is a valid one of the schema
abbrev pub IsSample : Sample → Type 0
IsSample s = IsValidState s.schema.kind (state_view s.state)

-- a valid state, in which the managers of the one before it keep their order
pub record IsNext (kind : Kind) (before after : State) : Type 0 where
  pub valid : IsValidState kind after
  pub order : KeepsOrder before.table after.table
