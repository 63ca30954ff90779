-- What a change makes of a table.
use Rattle.std.specs.Prelude.{◌≡◌, ◌<◌, Bool, true, false, List, [], ◌∷◌, ◌++◌, length, Option, Some, None, Result, Ok, Err}
use Rattle.ssa_model.specs.definitions.Limits.{most_managers}
use Rattle.ssa_model.specs.definitions.PathMap.{minus}
use Rattle.ssa_model.specs.definitions.Table as model
use Rattle.ssa_model.specs.definitions.Table.{Table, is_in_table}
use Rattle.ssa_model.specs.definitions.Valid.{AllEntries, IsManagers}
use Rattle.ssa_merge.specs.Managers.{entry_view}
use Rattle.ssa_merge.specs.declared.managers.Entry.{Entry}
use Rattle.ssa_merge.specs.declared.table_change.EntryChange.{EntryChange}
use Rattle.ssa_merge.specs.declared.table_change.EntryChange.TheVariants.{Stays, Leaves, Renewed, Loses, Owns}
use Rattle.ssa_merge.specs.declared.table_change.TableChange.{TableChange}
use Rattle.ssa_merge.specs.declared.plan.Refusal.{Refusal}
use Rattle.ssa_merge.specs.declared.plan.Refusal.TheVariants.{Conflict, TooManyPaths, TooManyManagers, OutOfMemory}

-- the entry after the change, none where its manager leaves
abbrev pub changed_entry : EntryChange → model.Entry → Table
changed_entry Stays e = e ∷ []
changed_entry Leaves e = []
changed_entry (Renewed at) e = record { manager = e.manager; owned = e.owned; moment = at } ∷ []
changed_entry (Loses lost at) e = record { manager = e.manager; owned = minus e.owned lost; moment = at } ∷ []
changed_entry (Owns set at) e = record { manager = e.manager; owned = set; moment = at } ∷ []

abbrev pub leaves : EntryChange → Bool
leaves Leaves = true
leaves Stays = false
leaves (Renewed at) = false
leaves (Loses lost at) = false
leaves (Owns set at) = false

-- each entry after its change
abbrev pub changed_entries : List EntryChange → Table → Table
changed_entries [] es = []
changed_entries (c ∷ cs) [] = []
changed_entries (c ∷ cs) (e ∷ es) = changed_entry c e ++ changed_entries cs es

-- the entry, if there is one
abbrev pub lone : Option Entry → Table
lone None = []
lone (Some e) = entry_view e ∷ []

abbrev pub changed_table : TableChange → Table → Table
changed_table c table = changed_entries c.entries.items table ++ lone c.newcomer

-- the change leads from one table to another, which is one by itself; a newcomer was not there
pub record LeadsTo (before : Table) (change : TableChange) (after : Table) : Type 0 where
  pub each : length change.entries.items ≡ length before
  pub leads : changed_table change before ≡ after
  pub managers : IsManagers after
  pub new : AllEntries (λ e. is_in_table before e.manager ≡ false) (lone change.newcomer)

-- The change leads to the given table, or that has too many managers; of want of memory nothing is said.
abbrev pub IsSeated : Table → Result TableChange Refusal → Table → Type 0
IsSeated before (Ok change) given = LeadsTo before change given
IsSeated before (Err (Conflict clashes)) given = ⊥
IsSeated before (Err TooManyPaths) given = ⊥
IsSeated before (Err TooManyManagers) given = most_managers < length given
IsSeated before (Err OutOfMemory) given = Unit {0}
