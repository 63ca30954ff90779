use Rattle.std.proofs.Common.{◌≡◌, Option, Some, None, codes, option_map, ap, sym, ◌∙◌}
use Rattle.ssa_model.specs.definitions.Json as model
use Rattle.ssa_model.specs.definitions.Json.{member_of}
use Rattle.ssa_model.specs.definitions.Commands.{value_in}
use Rattle.ssa_model.specs.definitions.BenchOfStates.{object_in}
use Rattle.ssa_json.specs.View.{view, members_view}
use Rattle.ssa_json.specs.Lookups.{view-lookup}
use Rattle.ssa_json.specs.Views.{view-Object}
use Rattle.ssa_bench.proofs.state_taking.object_in.Goals as goal

pub returns-in-Some : goal.returns-in-Some
returns-in-Some c =
    let members = c.in-Object.members in
    let found : ◌≡◌ {A = Option model.Json} (Some (view c.in-Some.object)) (member_of (codes "object") (members_view members.entries)) =
    ap (option_map view) (sym c.in-Some.is ∙ c.remove.ensures.value) ∙ view-lookup (codes "object") members.entries in
    ap value_in found ∙ sym (ap object_in (ap view c.in-Object.is ∙ view-Object members))

pub returns-in-Object : goal.returns-in-Object
returns-in-Object c =
    let members = c.in-Object.members in
    let none : ◌≡◌ {A = Option model.Json} None (member_of (codes "object") (members_view members.entries)) =
    ap (option_map view) (sym c.in-None.is ∙ c.remove.ensures.value) ∙ view-lookup (codes "object") members.entries in
    view-Object c.new.result ∙ ap (λ ms. model.object (members_view ms)) c.new.ensures.empty ∙ ap value_in none
    ∙ sym (ap object_in (ap view c.in-Object.is ∙ view-Object members))
