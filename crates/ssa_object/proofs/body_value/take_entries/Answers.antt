use Rattle.std.proofs.Common.{[], ◌∷◌, option_map, ap, sym, ◌∙◌}
use Rattle.std.specs.Prelude.{codes, option_and_then}
use Rattle.ssa_model.specs.definitions.Objects.{value_at, without_names}
use Rattle.ssa_json.specs.View.{view, members_view}
use Rattle.ssa_json.specs.Lookups.{view-lookup}
use Rattle.ssa_object.proofs.Values.{no_metadata, written_back}
use Rattle.ssa_object.proofs.body_value.take_entries.Goals as goal

pub returns-clause-entries : goal.returns-clause-entries
returns-clause-entries c =
    let inside = value_at (codes "managedFields" ∷ []) in
    let found = sym (ap (option_map view) c.in-Ok.ensures.old) ∙ view-lookup (codes "metadata") c.args.members.now.entries in
    c.without_member-rest.ensures.taken ∙ ap (option_and_then inside) found

pub returns-clause-rest : goal.returns-clause-rest
returns-clause-rest c =
    let names = codes "managedFields" ∷ [] in
    written_back names c.args.members.now.entries c.replace.new.self.entries c.replace-2.new.self c.in-Ok.whole c.without_member-rest.result.0 _
    c.replace-2.result c.replace.ensures.was_ordered c.in-Ok.ensures.old c.without_member-rest.ensures.rest c.in-Ok.ensures.entries c.replace-2.ensures.entries
    c.replace-2.ensures.absent

pub returns-in_default-clause-entries : goal.returns-in_default-clause-entries
returns-in_default-clause-entries c =
    ap (option_and_then (value_at (codes "managedFields" ∷ []))) (sym (ap (option_map view) c.in_default.ensures.absent.1)
    ∙ view-lookup (codes "metadata") c.args.members.now.entries)

pub returns-in_default-clause-rest : goal.returns-in_default-clause-rest
returns-in_default-clause-rest c =
    ap (λ m. members_view m.entries) c.in_default.ensures.absent.2
    ∙ no_metadata (codes "managedFields" ∷ []) c.args.members.now.entries c.in_default.ensures.absent.1
