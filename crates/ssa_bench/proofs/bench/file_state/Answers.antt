use Rattle.std.proofs.Common.{ap, sym, ◌∙◌, ◌≡◌, option_map}
use Rattle.std.specs.Prelude.{Err}
use Rattle.ssa_model.specs.definitions.Answers.{body_or_fault, given_table}
use Rattle.ssa_json.specs.Readings.{readings}
use Rattle.ssa_json.specs.View.{view}
use Rattle.ssa_bench.specs.Benches.{table_of_entries, table_or_fault}
use Rattle.ssa_bench.proofs.Taken.{file_state-body, passed-on}
use Rattle.ssa_bench.proofs.bench.file_state.Goals as goal

pub returns-in-Err-given_managers-clause-given : goal.returns-in-Err-given_managers-clause-given
returns-in-Err-given_managers-clause-given c =
    let kind = c.args.schema.now.kind in
    let v = view c.args.object in
    let body = ap (body_or_fault kind) (sym c.file_parts-value.ensures.value) ∙ c.in-Ok.ensures.given in
    let same : given_table readings c.in-Ok.body v ≡ table_of_entries c.in-Ok.body c.args.version.now (option_map view c.file_parts-value.result.1) =
    λ i. table_of_entries c.in-Ok.body (sym c.requires i) (sym c.file_parts-value.ensures.entries i) in
    passed-on c.in-Err-given_managers.fault (table_or_fault (table_of_entries c.in-Ok.body c.args.version.now (option_map view c.file_parts-value.result.1))) _
    (λ g e. file_state-body kind v c.in-Ok.body (Err g) body (ap table_or_fault same ∙ e)) c.in-Err-given_managers.ensures.given
