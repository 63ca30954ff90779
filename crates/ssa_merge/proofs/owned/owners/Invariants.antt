use Rattle.std.proofs.Common.{◌≡◌, take}
use Rattle.ssa_model.specs.definitions.Answers.{owners_of}
use Rattle.ssa_merge.specs.Managers.{lent_keys, table_view}
use Rattle.ssa_merge.proofs.owned.owners.Given as goal

abbrev pub invariant-loop-entry : goal.invariant-loop-entry
invariant-loop-entry l = lent_keys l.found.items ≡ owners_of (table_view (take l.entry-index l.table)) l.path
