use Rattle.std.proofs.Common.{ap, ◌∙◌}
use Rattle.std.specs.Prelude.{option_map}
use Rattle.ssa_schema.specs.Kinds.{kind_view}
use Rattle.ssa_schema.proofs.Fields.{view_of_ref, fields-lookup}
use Rattle.ssa_schema.proofs.kind.find_field_near.Goals as goal

pub returns : goal.returns
returns c = view_of_ref kind_view c.get_near.result ∙ ap (option_map kind_view) c.get_near.ensures.value ∙ fields-lookup c.args.name.now c.args.fields.now.entries
