use Rattle.std.proofs.Common.{[], subst, sym}
use Rattle.ssa_model.specs.definitions.Table.{Table}
use Rattle.ssa_model.specs.definitions.Valid.{IsTable}
use Rattle.ssa_model.proofs.GivenTables.{given_table}
use Rattle.ssa_model.proofs.Tables.{strip_keeps}
use Rattle.ssa_json.specs.Readings.{readings}
use Rattle.ssa_json.specs.View.{items_view}
use Rattle.ssa_merge.specs.Managers.{table_view}
use Rattle.ssa_merge.proofs.managers.Managers.from_entries.Goals as goal

pub of_entries-requires : goal.of_entries-requires
of_entries-requires c =
    let body = c.args.body.now in
    (given_table readings body c.args.api_version.now (items_view c.as_slice.result.now) [] (table_view c.in_ok-table-in-List.table.items)
    (strip_keeps (record { body = body; table = [] })) c.in_ok-table-in-List.ensures.answers).managers

pub returns-in_ok-table-in-List-clause-lawful : goal.returns-in_ok-table-in-List-clause-lawful
returns-in_ok-table-in-List-clause-lawful c =
    let body = c.args.body.now in
    let lawful : Table → Type 0 = λ t. IsTable body t in
    subst lawful (sym c.of_entries.ensures)
    (given_table readings body c.args.api_version.now (items_view c.as_slice.result.now) [] (table_view c.in_ok-table-in-List.table.items)
    (strip_keeps (record { body = body; table = [] })) c.in_ok-table-in-List.ensures.answers)
