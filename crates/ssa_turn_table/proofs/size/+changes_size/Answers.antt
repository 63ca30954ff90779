use Rattle.std.proofs.Common.{◌<◌, length, subst, arith}
use Rattle.ssa_model.specs.definitions.Table.{owned_by}
use Rattle.ssa_merge.specs.Managers.{key_view}
use Rattle.ssa_turn_table.specs.Changing.{AllHaveRoom}
use Rattle.ssa_turn_table.proofs.Inserting.{first-of}
use Rattle.ssa_turn_table.proofs.size.+changes_size.Goals as goal

pub change_size-requires : goal.change_size-requires
change_size-requires t c =
    let d = c.first-item.result in
    let some : 0 < length c.args.changed.now = omega (arith, c.in-len1-up.len_at_least) in
    (owned_by c.requires.0 (key_view d.key), (subst (AllHaveRoom c.requires.0) (first-of c.args.changed.now d some c.first-item.is) c.requires.1).0)
