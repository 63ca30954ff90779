use Rattle.std.proofs.Common.{ap, ◌∙◌}
use Rattle.std.specs.Prelude.{option_map}
use Rattle.ssa_json.specs.View.{view}
use Rattle.ssa_json.specs.Lookups.{view_of_ref, view-lookup}
use Rattle.ssa_json.proofs.members.find_member.Goals as goal

pub returns : goal.returns
returns c = view_of_ref c.get.result ∙ ap (option_map view) c.get.ensures.value ∙ view-lookup c.args.name.now c.args.members.now.entries
