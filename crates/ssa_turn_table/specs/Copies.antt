-- What copies of the members of a table's record keep.
use Rattle.std.specs.Prelude.{◌≡◌}
use Rattle.ssa_merge.specs.Managers.{key_view}
use Rattle.ssa_merge.specs.declared.manager.ManagerKey.{ManagerKey}
use Rattle.ssa_model.specs.definitions.PathMap.{PathSet}
use Rattle.ssa_turn_set.specs.Turn.{HasRoom}
use Rattle.ssa_turn_table.specs.Tables.{change_view, here_view}
use Rattle.ssa_turn_table.specs.declared.delta.EntryChange.{EntryChange}
use Rattle.ssa_turn_table.specs.declared.delta.Here.{Here}

-- the same change, with room wherever it has room
pub record ChangeIsCopied (c d : EntryChange) : Type 0 where
  pub same : change_view d ≡ change_view c
  pub room : (s : PathSet) → HasRoom c.set s → HasRoom d.set s

abbrev pub KeyIsCopied : ManagerKey → ManagerKey → Type 0
KeyIsCopied k l = key_view l ≡ key_view k

pub record HereIsCopied (h g : Here) : Type 0 where
  pub same : here_view g ≡ here_view h
  pub key : key_view g.key ≡ key_view h.key
