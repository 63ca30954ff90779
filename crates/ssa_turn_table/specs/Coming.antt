-- What is put into a table at rising places.
use Rattle.std.specs.Prelude.{◌≡◌, ℕ, List, Bool, not, filter}
use Rattle.ssa_model.specs.definitions.Table.{Entry, Table}
use Rattle.ssa_model.specs.definitions.Record.{placed}

-- some entries of a table, each with its place, and the others in their order
pub record AreComing (u others : Table) (heres : List (ℕ × Entry)) : Type 0 where
  pub comes : Entry → Bool
  pub told : heres ≡ placed comes 0 u
  pub stand : others ≡ filter (λ e. not (comes e)) u
