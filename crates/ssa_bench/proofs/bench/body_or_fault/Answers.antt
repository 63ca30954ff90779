use Rattle.std.proofs.Common.{subst}
use Rattle.std.specs.Prelude.{Err}
use Rattle.ssa_json.specs.View.{view}
use Rattle.ssa_typed.specs.Reads.{ReadsBody}
use Rattle.ssa_typed.specs.declared.fault.TypedFault.{TypedFault}
use Rattle.ssa_bench.proofs.Taken.{body_or_fault-first}
use Rattle.ssa_bench.proofs.bench.body_or_fault.Goals as goal

pub returns-in-Err-Body-clause-given : goal.returns-in-Err-Body-clause-given
returns-in-Err-Body-clause-given c =
    let kind = c.args.schema.now.kind in
    let of_fault : TypedFault → Type 0 = λ f. ReadsBody (Err f) kind (view c.args.value) in
    body_or_fault-first kind (view c.args.value) c.in-Err-Body.fault (subst of_fault c.in-Err-Body.field-0-is c.in-Err-Body.ensures.read)
