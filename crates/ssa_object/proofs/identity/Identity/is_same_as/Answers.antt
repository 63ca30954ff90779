use Rattle.std.proofs.Common.{ap, sym, ◌∙◌}
use Rattle.ssa_model.specs.definitions.Objects.{is_identity}
use Rattle.ssa_json.specs.View.{view}
use Rattle.ssa_object.proofs.Named.{same-whole}
use Rattle.ssa_object.proofs.identity.Identity.is_same_as.Goals as goal

pub returns-clause-whole : goal.returns-clause-whole
returns-clause-whole c is =
    same-whole (view c.args.object.now) c.args.self.now (sym c.has_same_parts.ensures ∙ is) (ap is_identity (sym c.self.view_is) ∙ c.self.invariant)
