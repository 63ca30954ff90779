use Rattle.std.proofs.Common.{[], ◌∷◌, sym, ap, ◌∙◌, rules}
use Rattle.std.proofs.lemmas.List.Elements.{filter_from_retain}
use Rattle.ssa_model.specs.definitions.Parts.{main, status, is_path_of}
use Rattle.ssa_path.specs.Subresources.{in_part, part_view}
use Rattle.ssa_path.specs.View.{element_view}
use Rattle.ssa_typed.proofs.in_part.keep_children.Goals as goal

pub returns-in-Main : goal.returns-in-Main
returns-in-Main c =
    filter_from_retain _ (λ x. is_path_of main (element_view x.0 ∷ [])) (λ p x b q h. search rules) _ _ _ c.retain.ensures.filtered
    ∙ ap (λ part. in_part (part_view part) c.args.children.now.items) (sym c.in-Main.is)

pub returns-in-Status : goal.returns-in-Status
returns-in-Status c =
    filter_from_retain _ (λ x. is_path_of status (element_view x.0 ∷ [])) (λ p x b q h. search rules) _ _ _ c.retain-in-Status.ensures.filtered
    ∙ ap (λ part. in_part (part_view part) c.args.children.now.items) (sym c.in-Status.is)
