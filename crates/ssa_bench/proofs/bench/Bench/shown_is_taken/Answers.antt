use Rattle.std.proofs.Common.{◌≡◌, true, subst}
use Rattle.ssa_model.specs.definitions.History as model
use Rattle.ssa_model.specs.definitions.History.{present}
use Rattle.ssa_model.specs.definitions.Objects.{is_identity}
use Rattle.ssa_model.specs.laws.ShownObjects.{IsShownBody}
use Rattle.ssa_model.proofs.ShownObjects.{shown_makes_bench, shown_is_commands}
use Rattle.ssa_json.specs.Readings.{readings}
use Rattle.ssa_model.proofs.ValidTimelines.{present_valid}
use Rattle.ssa_bench.proofs.bench.Bench.shown_is_taken.Goals as goal

pub returns : goal.returns
returns c =
    let b = c.self.inside in
    let valid = present_valid b.schema.kind b.timeline c.self.invariant.states in
    let body : IsShownBody b.schema.kind (present b.timeline).body =
    record { accepted = c.kind-kind.ensures.accepted; fits = valid.fits; rooted = valid.rooted; few = valid.few } in
    let shown : IsShownBody c.args.self.now.schema.kind (present c.args.self.now.timeline).body =
    subst (λ (n : model.Bench). IsShownBody n.schema.kind (present n.timeline).body) c.self.view_is body in
    let named : is_identity c.args.self.now.identity ≡ true =
    subst (λ (n : model.Bench). is_identity n.identity ≡ true) c.self.view_is c.parts_are_named.ensures in
    record {
      command = shown_is_commands c.args.self.now (present c.args.self.now.timeline).body named shown;
      file = shown_makes_bench readings c.args.self.now.schema c.args.self.now.identity (present c.args.self.now.timeline).body named shown;
    }
