use Rattle.ssa_merge.specs.States.{state_view}
use Rattle.ssa_merge.proofs.Valid.{stripped_valid, stripped_order}
use Rattle.ssa_merge.proofs.change.change_strip.Goals as goal

pub returns-clause-valid : goal.returns-clause-valid
returns-clause-valid c = stripped_valid (state_view c.args.state.now) c.of_same.result.removed c.in_ok-table.table c.in_ok-table.ensures

pub returns-clause-order : goal.returns-clause-order
returns-clause-order c = stripped_order (state_view c.args.state.now) c.in_ok-table.table c.in_ok-table.ensures
