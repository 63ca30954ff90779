use Rattle.std.proofs.Common.{sym, ap, ◌∙◌}
use Rattle.std.specs.Prelude.{option_map}
use Rattle.ssa_json.specs.View.{view}
use Rattle.ssa_json.specs.Lookups.{view_of_ref, view-lookup}
use Rattle.std.specs.Prelude.{codes}
use Rattle.ssa_typed.specs.Reads.{is_empty_member}
use Rattle.ssa_typed.proofs.metadata.has_empty_metadata.Goals as goal

pub returns-in-Some-clause-told : goal.returns-in-Some-clause-told
returns-in-Some-clause-told c =
    c.is_empty_object.ensures ∙ ap (λ o. is_empty_member (option_map (λ v. view v.now) o)) (sym c.in-Some.is)
    ∙ ap is_empty_member (view_of_ref c.get.result ∙ ap (option_map view) c.get.ensures.value ∙ view-lookup (codes "metadata") c.args.members.now.entries)

pub returns-in-None-clause-told : goal.returns-in-None-clause-told
returns-in-None-clause-told c =
    ap (λ o. is_empty_member (option_map (λ v. view v.now) o)) (sym c.in-None.is)
    ∙ ap is_empty_member (view_of_ref c.get.result ∙ ap (option_map view) c.get.ensures.value ∙ view-lookup (codes "metadata") c.args.members.now.entries)
