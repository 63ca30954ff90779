-- The record of a change leads to the state after it, and holds no more than the facts in which the two differ.
use Rattle.std.proofs.Common.{◌≤◌, ap, sym, subst, ◌∙◌}
use Rattle.std.proofs.lemmas.Result.{IfOk-weaker}
use Rattle.ssa_model.specs.definitions.Carry.{carry}
use Rattle.ssa_model.specs.definitions.Facts.{facts, record_size}
use Rattle.ssa_merge.specs.Plans.{changed_state}
use Rattle.ssa_merge.specs.States.{state_view}
use Rattle.ssa_turn_state.proofs.live_state.StateDelta.of_change.Goals as goal

pub returns-clause-leads : goal.returns-clause-leads
returns-clause-leads c =
    let v = state_view c.args.state.now in
    let w = changed_state v c.args.body c.args.gone.now c.args.table in
    IfOk-weaker c.of_parts.result _ _
    (λ d is. ap (λ r. carry r v) is ∙ c.record_leads.ensures c.requires.valid.0 v w c.requires.valid.1 c.requires.valid.2 c.requires.order)
    c.of_parts.ensures.record

pub returns-clause-bound : goal.returns-clause-bound
returns-clause-bound c =
    let v = state_view c.args.state.now in
    let w = changed_state v c.args.body c.args.gone.now c.args.table in
    IfOk-weaker c.of_parts.result _ _
    (λ d is. subst (λ r. record_size r ≤ facts v w) (sym is) (c.size_bound.ensures.state c.requires.valid.0 v w c.requires.valid.1.fits))
    c.of_parts.ensures.record
