use Rattle.std.proofs.Common.{ap, sym, ◌∙◌}
use Rattle.ssa_model.specs.definitions.Objects.{file_value}
use Rattle.ssa_model.specs.definitions.Json.{object}
use Rattle.ssa_json.specs.View.{view, members_view}
use Rattle.ssa_object.proofs.Values.{without_entries}
use Rattle.ssa_object.proofs.body_value.file_parts.Goals as goal

pub returns-in-Object-clause-value : goal.returns-in-Object-clause-value
returns-in-Object-clause-value c =
    c.file_value.ensures ∙ ap file_value (c.objects_are_members.ensures c.take_entries-entries.new.members ∙ ap object c.take_entries-entries.ensures.rest)
    ∙ without_entries (members_view c.in-Object.members.entries)
    ∙ sym (ap file_value (ap view c.in-Object.is ∙ c.objects_are_members.ensures c.in-Object.members))
