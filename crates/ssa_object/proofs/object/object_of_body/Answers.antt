use Rattle.std.proofs.Common.{◌≡◌, [], ◌&&◌, ap, ◌∙◌}
use Rattle.std.specs.Cmp.{first_so, second_so}
use Rattle.ssa_model.specs.definitions.Json.{object}
use Rattle.ssa_model.specs.definitions.Lawful.{is_root_kind, is_ordered, has_metadata}
use Rattle.ssa_model.specs.definitions.Objects.{shown, members_of_value, with_identity}
use Rattle.ssa_json.specs.View.{view}
use Rattle.ssa_object.proofs.object.object_of_body.Goals as goal

pub returns : goal.returns
returns c =
    let kind = c.args.schema.now.kind in
    let ordered = first_so (is_ordered kind) (has_metadata kind)
    (second_so (is_root_kind kind) (is_ordered kind && has_metadata kind) c.kind-kind.ensures.accepted.lawful) in
    let is : view c.in_ok-shown.shown ≡ shown kind c.args.body.now [] = c.in_ok-shown.ensures.shown kind ordered c.requires in
    c.objects_are_members.ensures c.add_identity.new.members
    ∙ ap object (c.in_ok-add_identity.ensures ∙ ap (with_identity c.args.identity.now) (c.into_members-members.ensures ∙ ap members_of_value is))
