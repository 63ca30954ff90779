use Rattle.ssa_model.proofs.BenchDepths.{state_values_are_shallow, schema_is_shallow, distinct_bench_is_shallow, second_type_is_deep}
use Rattle.ssa_model.proofs.bench_values_are_shallow.Goals as goal

pub returns : goal.returns
returns c = record { states = state_values_are_shallow; schema = schema_is_shallow; all = distinct_bench_is_shallow; names = second_type_is_deep }
