use Rattle.std.proofs.Common.{◌≡◌, true, subst}
use Rattle.ssa_model.specs.definitions.Lawful.{IsSchemaKind}
use Rattle.ssa_model.specs.definitions.History as model
use Rattle.ssa_model.specs.definitions.History.{present}
use Rattle.ssa_model.specs.definitions.Objects.{is_identity}
use Rattle.ssa_model.specs.definitions.BenchFile.{IsReadBack}
use Rattle.ssa_model.specs.definitions.Valid.{AllEntries, IsValidState}
use Rattle.ssa_model.proofs.ShownStates.{shown_state_is_taken}
use Rattle.ssa_json.specs.Readings.{readings}
use Rattle.ssa_model.proofs.ValidTimelines.{present_valid}
use Rattle.ssa_bench.proofs.bench.Bench.shown_state_is_taken.Goals as goal

-- what a bench has of which the law speaks
record IsShown (n : model.Bench) : Type 0 where
  pub accepted : IsSchemaKind n.schema.kind
  pub valid : IsValidState n.schema.kind (present n.timeline)
  pub named : is_identity n.identity ≡ true

pub returns : goal.returns
returns c =
    let b = c.self.inside in
    let inside : model.Bench = record { schema = b.schema; identity = b.identity; depth = b.depth; timeline = b.timeline } in
    let has : IsShown inside = record {
      accepted = c.kind-kind.ensures.accepted;
      valid = present_valid b.schema.kind b.timeline c.self.invariant.states;
      named = c.parts_are_named.ensures;
    } in
    let now : IsShown c.args.self.now = subst IsShown c.self.view_is has in
    let table : AllEntries (IsReadBack readings) (present b.timeline).table =
    subst (λ s. AllEntries (IsReadBack readings) s.table) c.present.ensures c.own_entries_are_read.ensures.sets in
    let read : AllEntries (IsReadBack readings) (present c.args.self.now.timeline).table =
    subst (λ (n : model.Bench). AllEntries (IsReadBack readings) (present n.timeline).table) c.self.view_is table in
    shown_state_is_taken readings c.args.self.now.schema c.args.self.now.identity (present c.args.self.now.timeline) now.named now.accepted now.valid read
