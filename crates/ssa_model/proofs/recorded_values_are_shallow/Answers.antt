use Rattle.std.proofs.Common.{refl}
use Rattle.ssa_model.specs.definitions.BenchText.{depths}
use Rattle.ssa_model.specs.definitions.RecordedBench.{recorded_values}
use Rattle.ssa_model.specs.examples.FileRows.{filed}
use Rattle.ssa_model.proofs.FiledBench.{filed-valid}
use Rattle.ssa_model.proofs.RecordedDepths.{recorded_bench_is_shallow}
use Rattle.ssa_model.proofs.recorded_values_are_shallow.Goals as goal

pub returns : goal.returns
returns c = record { recorded = recorded_bench_is_shallow; met = (filed-valid (recorded_values depths filed), refl) }
