use Rattle.std.proofs.Common.{◌≡◌, drop, map}
use Rattle.ssa_model.specs.definitions.Carry.{change_for}
use Rattle.ssa_merge.specs.Managers.{key_view}
use Rattle.ssa_told.specs.Told.{told_change}
use Rattle.ssa_record.proofs.fitting_lists.find_change.Given as goal

-- the change is among those that are left
abbrev pub invariant-loop-change : goal.invariant-loop-change
invariant-loop-change l =
    change_for (map told_change l.changed) (key_view l.key) ≡ change_for (map told_change (drop l.change-index l.changed)) (key_view l.key)
