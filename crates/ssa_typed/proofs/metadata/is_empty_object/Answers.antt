use Rattle.std.proofs.Common.{ap, sym, ◌∙◌}
use Rattle.ssa_model.specs.definitions.Body.{is_empty_object}
use Rattle.ssa_json.specs.View.{view}
use Rattle.ssa_json.proofs.Views.{view-Object}
use Rattle.ssa_typed.proofs.EmptyMetadata.{empty-told}
use Rattle.ssa_typed.proofs.metadata.is_empty_object.Goals as goal

pub returns-in-Object : goal.returns-in-Object
returns-in-Object c =
    let seen = ap view c.in-Object.is ∙ view-Object c.in-Object.members in
    empty-told c.in-Object.members.entries c.is_empty.result c.is_empty.ensures ∙ ap is_empty_object (sym seen)
