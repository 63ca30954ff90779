use Rattle.ssa_merge.specs.States.{state_view}
use Rattle.ssa_calls.proofs.records.leading.Goals as goal

pub record_text-requires-clause-taken : goal.record_text-requires-clause-taken
record_text-requires-clause-taken c = (
  state_view c.args.from.now,
  state_view c.args.to,
  (c.args.schema.now.kind, record { from = c.requires.from; to = c.requires.to; order = c.requires.order; is = c.in_ok-delta.ensures.record }),
)
