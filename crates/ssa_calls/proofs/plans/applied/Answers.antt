use Rattle.std.proofs.Common.{sym, ◌∙◌}
use Rattle.ssa_calls.proofs.plans.applied.Goals as goal

pub plan_apply-requires-clause-alike : goal.plan_apply-requires-clause-alike
plan_apply-requires-clause-alike c =
    c.bodies_are_alike.ensures c.args.schema.now.kind c.args.state.now.body c.in_ok-body.body c.requires.fits c.in_ok-body.ensures.fits

pub plan_apply-requires-clause-named : goal.plan_apply-requires-clause-named
plan_apply-requires-clause-named c = sym c.is_manager_name.ensures ∙ c.if-not-is_manager_name.false

pub plan_apply-requires-clause-owned : goal.plan_apply-requires-clause-owned
plan_apply-requires-clause-owned c = c.requires.table.ownable

pub returns : goal.returns
returns c = record {
  valid = c.in_ok-plan.ensures.valid c.args.schema.now.kind c.requires c.in_ok-body.ensures.fits;
  order = c.in_ok-plan.ensures.order c.requires.table.managers.distinct;
}
