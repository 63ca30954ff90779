use Rattle.std.proofs.Common.{ap, ◌∙◌}
use Rattle.std.specs.Prelude.{option_map}
use Rattle.ssa_schema.specs.Kinds.{shape_view}
use Rattle.ssa_schema.proofs.Fields.{view_of_ref, shape_fields-lookup}
use Rattle.ssa_schema.proofs.kind.find_shape.Goals as goal

pub returns : goal.returns
returns c = view_of_ref shape_view c.get.result ∙ ap (option_map shape_view) c.get.ensures.value ∙ shape_fields-lookup c.args.name.now c.args.fields.now.entries
