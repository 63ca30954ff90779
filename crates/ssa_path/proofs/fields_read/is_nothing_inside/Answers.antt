use Rattle.std.proofs.Common.{ap, sym, ◌∙◌}
use Rattle.ssa_model.specs.definitions.FieldsV1.{is_nothing_inside}
use Rattle.ssa_json.specs.View.{view}
use Rattle.ssa_json.proofs.Views.{view-Object}
use Rattle.ssa_path.proofs.FieldsReadings.{none-inside}
use Rattle.ssa_path.proofs.fields_read.is_nothing_inside.Goals as goal

pub returns-in-Object : goal.returns-in-Object
returns-in-Object c =
    let seen = ap view c.in-Object.is ∙ view-Object c.in-Object.members in
    none-inside c.in-Object.members.entries c.is_empty.result c.is_empty.ensures ∙ ap is_nothing_inside (sym seen)
