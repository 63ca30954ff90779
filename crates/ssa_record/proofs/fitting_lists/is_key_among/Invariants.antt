use Rattle.std.proofs.Common.{◌≡◌, drop}
use Rattle.ssa_model.specs.definitions.Carry.{is_key_among}
use Rattle.ssa_merge.specs.Managers.{key_view}
use Rattle.ssa_turn_table.specs.Tables.{keys_view}
use Rattle.ssa_record.proofs.fitting_lists.is_key_among.Given as goal

-- the manager is among those that are left
abbrev pub invariant-loop-one : goal.invariant-loop-one
invariant-loop-one l = is_key_among (keys_view l.keys) (key_view l.key) ≡ is_key_among (keys_view (drop l.one-index l.keys)) (key_view l.key)
