-- Entries of a table.
use Rattle.std.specs.Prelude.{[], ◌∷◌, Bool, true, not, ◌||◌, if◌then◌else◌}
use Rattle.ssa_model.specs.definitions.Json.{Text}
use Rattle.ssa_model.specs.definitions.PathMap.{PathSet, is_empty, minus, same_set}
use Rattle.ssa_model.specs.definitions.Table.{Entry, Table, is_in_table}

abbrev pub owns : Entry → Bool
owns e = not (is_empty e.owned)

-- the entry without these paths
abbrev pub less : Entry → PathSet → Entry
less e lost = record { manager = e.manager; owned = minus e.owned lost; moment = e.moment }

-- the entry of a manager that owns these paths then; where its paths or a field changed, `at` is its moment
abbrev pub acted : Entry → PathSet → Bool → Text → Entry
acted e owned changed at = record { manager = e.manager; owned = owned; moment = if changed || not (same_set owned e.owned) then at else e.moment }

-- the first of the entries, if there is one, has a manager of the other table
abbrev pub starts_shared : Table → Table → Bool
starts_shared [] u = true
starts_shared (e ∷ es) u = is_in_table u e.manager
