use Rattle.std.proofs.Common.{◌∙◌, sym, ap}
use Rattle.std.proofs.lemmas.Result.{IfOk-weaker}
use Rattle.std.specs.Prelude.{Some, None}
use Rattle.ssa_model.specs.definitions.PathMap.{minus, union}
use Rattle.ssa_merge.specs.Managers.{key_view, entry_view}
use Rattle.ssa_merge.proofs.GivenUp.{empty_union, owned-after}
use Rattle.ssa_merge.proofs.change.owned_after_update.Goals as goal

pub returns-in-Some : goal.returns-in-Some
returns-in-Some c =
    let comparison = c.args.comparison.now in
    let entry = entry_view c.in-Some.entry.now in
    IfOk-weaker c.owned_with.result _ _
    (λ s same. same
    ∙ ap (union (minus entry.owned comparison.removed)) (c.made_or-gained.ensures ∙ c.in_ok-more.ensures)
    ∙ owned-after c.args.state.now.managers (key_view c.args.key.now) (Some entry) comparison.removed
    (union comparison.modified comparison.added) c.in-Some.ensures)
    c.owned_with.ensures

pub returns : goal.returns
returns c =
    let comparison = c.args.comparison.now in
    IfOk-weaker c.copy.result _ _
    (λ s same. same ∙ c.made_or-gained.ensures ∙ c.in_ok-more.ensures
    ∙ sym (empty_union (union comparison.modified comparison.added))
    ∙ owned-after c.args.state.now.managers (key_view c.args.key.now) None comparison.removed (union comparison.modified comparison.added) c.in-None.ensures)
    c.copy.ensures
