use Rattle.std.proofs.Common.{codes, Some, option_map, ap, sym, ◌∙◌}
use Rattle.ssa_model.specs.definitions.Objects.{members_in}
use Rattle.ssa_json.specs.View.{view, members_view}
use Rattle.ssa_json.specs.Lookups.{view_of_ref, view-lookup}
use Rattle.ssa_object.proofs.object.metadata_of.Goals as goal

pub returns-in_ok-copy-in-Some : goal.returns-in_ok-copy-in-Some
returns-in_ok-copy-in-Some c =
    let found = view_of_ref c.get.result ∙ ap (option_map view) c.get.ensures.value ∙ view-lookup (codes "metadata") c.args.members.now.entries in
    c.into_members.ensures ∙ ap (λ v. members_in (Some v)) c.in_ok-copy-in-Some.ensures
    ∙ ap members_in (ap (option_map (λ v. view v.now)) (sym c.in-Some.is) ∙ found)

pub returns-in-None : goal.returns-in-None
returns-in-None c =
    let found = view_of_ref c.get.result ∙ ap (option_map view) c.get.ensures.value ∙ view-lookup (codes "metadata") c.args.members.now.entries in
    ap members_view c.new.ensures.empty ∙ ap members_in (ap (option_map (λ v. view v.now)) (sym c.in-None.is) ∙ found)
