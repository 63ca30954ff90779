use Rattle.std.proofs.Common.{subst}
use Rattle.ssa_model.specs.definitions.BenchFile.{IsReadBack}
use Rattle.ssa_model.specs.definitions.Valid.{AllEntries}
use Rattle.ssa_model.proofs.TablesBack.{table-back}
use Rattle.ssa_json.specs.Readings.{readings}
use Rattle.ssa_merge.proofs.managers.Managers.own_entries_are_read.Goals as goal

pub returns-clause-table : goal.returns-clause-table
returns-clause-table c body version table =
    table-back readings body version c.args.self.now table (subst (AllEntries (IsReadBack readings)) c.entries.ensures.same c.entries_are_read.ensures)
