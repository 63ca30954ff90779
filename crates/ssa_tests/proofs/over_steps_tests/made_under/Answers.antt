use Rattle.std.proofs.Common.{subst}
use Rattle.ssa_model.specs.laws.RecordWalks.{AreAlike as AreOfOneClass}
use Rattle.ssa_merge.specs.Plans.{body_after}
use Rattle.ssa_turn_state.proofs.OneKind.{after_of_one_class}
use Rattle.ssa_typed.proofs.OneSort.{bodies_alike}
use Rattle.ssa_tests.proofs.over_steps_tests.made_under.Goals as goal

-- both are of the schema's kind
pub change_apply-requires-clause-alike : goal.change_apply-requires-clause-alike
change_apply-requires-clause-alike c =
    bodies_alike c.args.schema.now.kind c.in_ok-state.state.body c.in_ok-config.config c.in_ok-state.ensures.fits c.in_ok-config.ensures

-- the body after is of the schema's kind too, so the steps can be written
pub record_text-requires : goal.record_text-requires
record_text-requires c =
    let kind = c.args.schema.now.kind in
    let live = c.in_ok-state.state.body in
    let change = c.in_ok-change.change in
    let gone = change.comparison.removed in
    let valid = c.in_ok-change.ensures.valid kind c.in_ok-state.ensures c.in_ok-config.ensures in
    let class = after_of_one_class live change.body gone (kind, c.in_ok-state.ensures.fits, valid.fits) in
    (c.in_ok-steps-in-Over.ensures.room (subst (λ o. AreOfOneClass live (body_after o gone live)) c.in-Over.is class)).writable
