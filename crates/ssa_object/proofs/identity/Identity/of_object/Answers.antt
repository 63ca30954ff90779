use Rattle.std.proofs.Common.{rules, ◌≡◌, Option, Some, option_map}
use Rattle.ssa_model.specs.definitions.Objects.{Identity}
use Rattle.ssa_json.specs.View.{view}
use Rattle.ssa_object.specs.Identities.{identity_in}
use Rattle.ssa_object.proofs.Named.{named-in}
use Rattle.ssa_object.proofs.identity.Identity.of_object.Goals as goal

pub invariant_of-result : goal.invariant_of-result
invariant_of-result c =
    let parts : Identity = record {
      version = Some (view c.in_ok-copy.field-0);
      kind = Some (view c.in_ok-copy-2.field-0);
      name = Some (view c.in_ok-copy-3.field-0);
      namespace = option_map view c.in_ok-namespace.namespace;
    } in
    let found : identity_in (view c.args.object.now) ≡ Some parts = search rules in
    named-in (view c.args.object.now) parts found
