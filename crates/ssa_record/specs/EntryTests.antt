-- What is tested of an entry and what is told of it, and what the tests tell.
use Rattle.std.specs.Prelude.{◌≡◌, List, true, false, Some}
use Rattle.ssa_model.specs.definitions.Path.{Path}
use Rattle.ssa_model.specs.definitions.PathMap.{PathSet, has, has_at_or_above, is_empty, minus, union}
use Rattle.ssa_model.specs.definitions.Body.{Body}
use Rattle.ssa_model.specs.definitions.Table.{Entry}
use Rattle.ssa_model.specs.definitions.Record.{Change, TableRecord}
use Rattle.ssa_model.specs.definitions.Carry.{change_for}
use Rattle.ssa_model.specs.laws.FittingRecords.{is_given_up, ChangeFits}

-- the change loses paths of the set's and gains others, and leaves it some
pub record SetChanges (c : Change) (s : PathSet) : Type 0 where
  pub lose : (p : Path) → has c.lose p ≡ true → has s p ≡ true
  pub gain : (p : Path) → has c.gain p ≡ true → has s p ≡ false
  pub some : is_empty (union (minus s c.lose) c.gain) ≡ false

-- the change that is told of the entry fits it
abbrev pub ToldFits : List Change → Body → Entry → Type 0
ToldFits cs w e = (c : Change) → change_for cs e.manager ≡ Some c → ChangeFits w c e

-- no path of the set is at or below one that is cut
abbrev pub IsApart : PathSet → PathSet → Type 0
IsApart s cut = (p : Path) → has s p ≡ true → has_at_or_above cut p ≡ false

-- what the entry owns of what is cut is given up
abbrev pub GivesUp : TableRecord → PathSet → Entry → Type 0
GivesUp d cut e = (p : Path) → has e.owned p ≡ true → has_at_or_above cut p ≡ true → is_given_up d e.manager p ≡ true
