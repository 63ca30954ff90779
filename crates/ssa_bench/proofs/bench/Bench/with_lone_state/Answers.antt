use Rattle.std.proofs.Common.{sym, subst}
use Rattle.ssa_model.specs.definitions.History.{Timeline}
use Rattle.ssa_merge.specs.States.{state_view}
use Rattle.ssa_model.specs.definitions.Valid.{IsValidHistory}
use Rattle.ssa_model.proofs.ValidHistories.{lone_history}
use Rattle.ssa_bench.proofs.bench.Bench.with_lone_state.Goals as goal

pub invariant_of-result : goal.invariant_of-result
invariant_of-result c =
    let all : Timeline → Type 0 = IsValidHistory c.args.schema.kind c.args.depth in
    subst all (sym c.new.ensures) (lone_history c.args.schema.kind c.args.depth (state_view c.args.first) c.requires)
