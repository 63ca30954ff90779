use Rattle.std.proofs.Common.{subst, sym}
use Rattle.ssa_model.specs.definitions.BenchFile.{IsReadBack}
use Rattle.ssa_model.specs.definitions.Valid.{AllEntries}
use Rattle.ssa_json.specs.Readings.{readings}
use Rattle.ssa_merge.specs.TableChanges.{changed_entry}
use Rattle.ssa_merge.proofs.EntriesBack.{less-back}
use Rattle.ssa_merge.proofs.table_change.EntryChange.new_set_is_read.Goals as goal

pub returns-in-Loses : goal.returns-in-Loses
returns-in-Loses c =
    λ e back read. subst (λ x. AllEntries (IsReadBack readings) (changed_entry x e)) (sym c.in-Loses.is)
    (less-back e c.in-Loses.field-0 c.in-Loses.at read c.write-moment-in-Loses.ensures.moment, tt)
