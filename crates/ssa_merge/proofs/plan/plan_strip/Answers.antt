use Rattle.std.proofs.Common.{sym, subst}
use Rattle.ssa_model.specs.definitions.Fitting.{IsBodyOf}
use Rattle.ssa_model.specs.definitions.Operations.{State, strip}
use Rattle.ssa_model.specs.definitions.Valid.{IsValidState, KeepsOrder}
use Rattle.ssa_merge.specs.States.{state_view}
use Rattle.ssa_merge.proofs.Valid.{target_of}
use Rattle.ssa_merge.proofs.plan.plan_strip.Goals as goal

pub returns-clause-fits : goal.returns-clause-fits
returns-clause-fits c kind h =
    let state = state_view c.args.state.now in
    let fits : State → Type 0 = λ s. IsBodyOf kind s.body in
    subst fits (sym (c.in_ok-plan.ensures (strip state) c.in_ok-change.ensures.change).target_is) h

pub returns-clause-valid : goal.returns-clause-valid
returns-clause-valid c = λ kind valid.
    let state = state_view c.args.state.now in
    let led = c.in_ok-change.ensures.change in
    subst (IsValidState kind) (target_of state c.in_ok-change.change c.in_ok-plan.plan (strip state) led (c.in_ok-plan.ensures (strip state) led))
    (c.in_ok-change.ensures.valid kind valid)

pub returns-clause-order : goal.returns-clause-order
returns-clause-order c = λ distinct.
    let state = state_view c.args.state.now in
    let led = c.in_ok-change.ensures.change in
    let keeps : State → Type 0 = λ s. KeepsOrder state.table s.table in
    subst keeps (target_of state c.in_ok-change.change c.in_ok-plan.plan (strip state) led (c.in_ok-plan.ensures (strip state) led))
    (c.in_ok-change.ensures.order distinct)
