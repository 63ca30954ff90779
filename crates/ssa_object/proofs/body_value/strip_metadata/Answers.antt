use Rattle.std.proofs.Common.{map, ap, sym, ◌∙◌}
use Rattle.ssa_model.specs.definitions.Objects.{without_names}
use Rattle.ssa_json.specs.View.{view, members_view}
use Rattle.ssa_object.proofs.Values.{no_metadata, written_back}
use Rattle.ssa_object.proofs.body_value.strip_metadata.Goals as goal

pub returns-in-Ok : goal.returns-in-Ok
returns-in-Ok c =
    let names = map (λ n. n.now) c.args.names.now in
    written_back names c.args.members.now.entries c.replace.new.self.entries c.replace-in-Ok.new.self c.in-Ok.whole c.without_names.result _ c.replace-in-Ok.result
    c.replace.ensures.was_ordered c.in-Ok.ensures.old c.without_names.ensures c.in-Ok.ensures.entries c.replace-in-Ok.ensures.entries c.replace-in-Ok.ensures.absent

pub returns-in_default : goal.returns-in_default
returns-in_default c =
    let names = map (λ n. n.now) c.args.names.now in
    ap (λ m. members_view m.entries) c.in_default.ensures.absent.2 ∙ no_metadata names c.args.members.now.entries c.in_default.ensures.absent.1
