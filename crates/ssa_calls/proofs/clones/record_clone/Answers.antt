use Rattle.std.proofs.Common.{◌∙◌}
use Rattle.ssa_merge.specs.States.{state_view}
use Rattle.ssa_calls.proofs.clones.record_clone.Goals as goal

pub record_text-requires-clause-taken : goal.record_text-requires-clause-taken
record_text-requires-clause-taken c = (
  state_view c.args.sample.now.state,
  state_view c.in_ok-plan.plan.target,
  (
    c.args.sample.now.schema.kind,
    record { from = c.requires; to = c.in_ok-plan.ensures.valid; order = c.in_ok-plan.ensures.order; is = c.in_ok-delta.ensures.record },
  ),
)

pub record_text-requires-2-clause-taken : goal.record_text-requires-2-clause-taken
record_text-requires-2-clause-taken c = (
  state_view c.args.sample.now.state,
  state_view c.in_ok-plan.plan.target,
  (
    c.args.sample.now.schema.kind,
    record {
      from = c.requires;
      to = c.in_ok-plan.ensures.valid;
      order = c.in_ok-plan.ensures.order;
      is = c.in_ok-copied.ensures.steps ∙ c.in_ok-delta.ensures.record;
    },
  ),
)

pub record_text-requires-2-clause-room : goal.record_text-requires-2-clause-room
record_text-requires-2-clause-room c =
    (state_view c.args.sample.now.state, c.in_ok-copied.ensures.room (state_view c.args.sample.now.state) c.in_ok-delta.ensures.room)
