use Rattle.std.proofs.Common.{sym, subst}
use Rattle.ssa_json.specs.View.{view}
use Rattle.ssa_model.specs.definitions.BenchOfStates.{schema_in}
use Rattle.ssa_lines.specs.declared.loading.LoadFault.{LoadFault}
use Rattle.ssa_bench.specs.Taking.{IsTaken}
use Rattle.std.specs.Prelude.{Err}
use Rattle.ssa_bench.proofs.TakenLines.{schema-taken, schema-refused}
use Rattle.ssa_bench.proofs.taking.schema_of.Goals as goal

pub returns-in-Ok : goal.returns-in-Ok
returns-in-Ok c = schema-taken (view c.args.value) c.in-Ok.schema c.in-Ok.ensures.0 c.in-Ok.ensures.1

pub returns-in-Err : goal.returns-in-Err
returns-in-Err c =
    let told : LoadFault → _ = λ f. IsTaken (Err f) (schema_in (view c.args.value)) in
    subst told (sym c.schema_fault.ensures) (schema-refused c.in-Err.fault (view c.args.value) c.in-Err.ensures)
