use Rattle.std.proofs.Common.{◌≤◌, subst}
use Rattle.std.specs.Prelude.{IfSome}
use Rattle.ssa_model.specs.definitions.History.{Bench}
use Rattle.ssa_model.specs.definitions.HistoryRecords.{kept_facts}
use Rattle.ssa_bench.proofs.KeptSizes.{size-within}
use Rattle.ssa_bench.proofs.bench.Bench.record_size.Goals as goal

pub returns-clause-bound : goal.returns-clause-bound
returns-clause-bound c =
    let b = c.self.inside in
    subst (λ (x : Bench). IfSome c.record_size.result (λ s. s ≤ kept_facts x.timeline c.args.n)) c.self.view_is
    (size-within b.schema.kind b.timeline c.args.n c.record_size.result c.size_bound.ensures.state c.self.invariant.states c.record_size.ensures)
