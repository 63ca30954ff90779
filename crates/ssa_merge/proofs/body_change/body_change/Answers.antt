use Rattle.std.proofs.Common.{sym, subst, ◌∙◌}
use Rattle.ssa_typed.specs.Differences.{IsComparison}
use Rattle.ssa_merge.specs.Managers.{key_view}
use Rattle.ssa_merge.specs.States.{state_view}
use Rattle.ssa_merge.proofs.GivenUp.{all-stays}
use Rattle.ssa_merge.proofs.ToldApart.{added-told, modified-told}
use Rattle.ssa_merge.proofs.body_change.body_change.Goals as goal

pub returns-then-told-clause-body : goal.returns-then-told-clause-body
returns-then-told-clause-body c =
    all-stays (state_view c.args.state.now) (key_view c.args.key.now) c.args.config c.args.state.now.body c.in_ok-gone.gone c.in_ok-gone.ensures
    (sym c.is_empty.ensures ∙ c.if-is_empty.true) (sym (c.requires.told.repeats c.if-told.true (c.in_ok-in_order.ensures.0 c.if-in_order.true))) c.points_keep_all.ensures

pub returns-then-told-clause-comparison : goal.returns-then-told-clause-comparison
returns-then-told-clause-comparison c =
    subst (λ b. IsComparison c.args.state.now.body b c.of_same-comparison.result)
    (all-stays (state_view c.args.state.now) (key_view c.args.key.now) c.args.config c.args.state.now.body c.in_ok-gone.gone c.in_ok-gone.ensures
    (sym c.is_empty.ensures ∙ c.if-is_empty.true) (sym (c.requires.told.repeats c.if-told.true (c.in_ok-in_order.ensures.0 c.if-in_order.true))) c.points_keep_all.ensures)
    (c.of_same-comparison.ensures c.args.state.now.body)

pub returns-clause-comparison : goal.returns-clause-comparison
returns-clause-comparison c =
    let state = state_view c.args.state.now in
    let a = key_view c.args.key.now in
    let config = c.args.config in
    record {
      added_are = c.requires.told.added_are ∙ sym (added-told state a config c.points_tell_places-2.ensures c.points_tell_places.ensures);
      modified_are = c.requires.told.modified_are ∙ sym (modified-told state a config c.points_tell_places-2.ensures);
      removed_are = c.in_ok-removed.ensures;
    }

pub applied_body-requires-clause-order : goal.applied_body-requires-clause-order
applied_body-requires-clause-order c = c.in_ok-in_order.ensures.0
