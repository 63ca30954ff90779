use Rattle.std.proofs.Common.{option_map, ap, ◌∙◌, sym}
use Rattle.ssa_model.specs.definitions.Json.{member_at}
use Rattle.ssa_json.specs.View.{view}
use Rattle.ssa_json.specs.Lookups.{view_of_ref, view-lookup}
use Rattle.ssa_json.proofs.Views.{view-Object}
use Rattle.ssa_json.proofs.value.Json.member.Goals as goal

pub returns-in-Object : goal.returns-in-Object
returns-in-Object c =
    view_of_ref c.get.result ∙ ap (option_map view) c.get.ensures.value ∙ view-lookup c.args.name.now c.in-Object.members.entries
    ∙ ap (member_at c.args.name.now) (sym (view-Object c.in-Object.members)) ∙ ap (λ v. member_at c.args.name.now (view v)) (sym c.in-Object.is)
