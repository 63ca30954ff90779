use Rattle.std.proofs.Common.{◌≡◌, ◌∙◌, ap, sym}
use Rattle.ssa_model.specs.definitions.Body.{points}
use Rattle.ssa_model.specs.definitions.Operations.{owned_outside}
use Rattle.ssa_model.specs.definitions.PathMap.{union}
use Rattle.ssa_model.specs.definitions.Table.{owned_by}
use Rattle.ssa_merge.specs.Managers.{key_view}
use Rattle.ssa_merge.proofs.GivenUp.{owned-entry, set_in, union-none}
use Rattle.ssa_merge.proofs.OwnOutside.{none-outside}
use Rattle.ssa_merge.proofs.change.applied_freely.Goals as goal

pub body_change-requires-clause-kept : goal.body_change-requires-clause-kept
body_change-requires-clause-kept c = λ _. owned-entry c.args.state.now.managers (key_view c.args.key.now) ∙ ap set_in (sym c.in-Some.ensures)

pub returns-then-branch-clause-change : goal.returns-then-branch-clause-change
returns-then-branch-clause-change c =
    let table = c.args.state.now.managers in
    let a = key_view c.args.key.now in
    let own : owned_by table a ≡ points c.args.config =
    owned-entry table a ∙ ap set_in (sym c.in-Some.ensures) ∙ c.in_ok-has_points.ensures c.if-branch.true in
    c.applied_with.ensures.change c.args.config c.in_ok-made.ensures.body c.in_ok-made.ensures.comparison c.requires.quiet
    (own ∙ union-none (points c.args.config) (owned_outside table a) (none-outside table a c.args.config c.requires.part own))

pub returns-clause-change : goal.returns-clause-change
returns-clause-change c =
    let outside = owned_outside c.args.state.now.managers (key_view c.args.key.now) in
    c.applied_with-2.ensures.change c.args.config c.in_ok-made-2.ensures.body c.in_ok-made-2.ensures.comparison c.requires.quiet
    (c.in_ok-owned.ensures ∙ ap (λ s. union s outside) c.in_ok-points.ensures)
