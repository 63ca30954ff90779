use Rattle.ssa_model.proofs.RecordsBack.{read-owned}
use Rattle.ssa_json.specs.Readings.{readings}
use Rattle.ssa_merge.specs.States.{state_view}
use Rattle.ssa_bench.proofs.prepared.accepted.Goals as goal

pub returns-clause-back : goal.returns-clause-back
returns-clause-back c =
    let s = state_view c.args.state.now in
    λ back. c.new_sets_are_read.ensures s.table _ c.requires.leads back (read-owned readings s.body c.requires.read s.table c.requires.valid.1.table.ownable)

pub returns-in_err-delta-clause-back : goal.returns-in_err-delta-clause-back
returns-in_err-delta-clause-back c =
    let s = state_view c.args.state.now in
    λ back. c.new_sets_are_read.ensures s.table _ c.requires.leads back (read-owned readings s.body c.requires.read s.table c.requires.valid.1.table.ownable)

pub returns-in_err-step-clause-back : goal.returns-in_err-step-clause-back
returns-in_err-step-clause-back c =
    let s = state_view c.args.state.now in
    λ back. c.new_sets_are_read.ensures s.table _ c.requires.leads back (read-owned readings s.body c.requires.read s.table c.requires.valid.1.table.ownable)
