use Rattle.std.proofs.Common.{[], ◌∷◌, option_map, ap, sym, ◌∙◌}
use Rattle.ssa_model.specs.definitions.Json.{object}
use Rattle.ssa_model.specs.definitions.Objects.{value_at, without_names}
use Rattle.ssa_json.specs.View.{view, members_view}
use Rattle.ssa_json.specs.Lookups.{view-lookup}
use Rattle.ssa_object.proofs.Values.{value_at-one, without-removed}
use Rattle.ssa_object.proofs.body_value.without_member.Goals as goal

pub returns-in-Object-clause-rest : goal.returns-in-Object-clause-rest
returns-in-Object-clause-rest c =
    let name = c.args.name.now in
    let old = c.in-Object.members in
    let new = c.remove-taken.new.self in
    c.objects_are_members.ensures new ∙ ap object (without-removed name old.entries new.entries c.remove-taken.ensures.entries c.remove-taken.ensures.was_ordered)
    ∙ sym (ap (without_names (name ∷ [])) (ap view c.in-Object.is ∙ c.objects_are_members.ensures old))

pub returns-in-Object-clause-taken : goal.returns-in-Object-clause-taken
returns-in-Object-clause-taken c =
    let name = c.args.name.now in
    let old = c.in-Object.members in
    ap (option_map view) c.remove-taken.ensures.value ∙ view-lookup name old.entries ∙ value_at-one name (members_view old.entries)
    ∙ sym (ap (value_at (name ∷ [])) (ap view c.in-Object.is ∙ c.objects_are_members.ensures old))
