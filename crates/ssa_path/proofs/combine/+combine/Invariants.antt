use Rattle.std.proofs.Common.{◌+◌, ◌-◌, length, drop}
use Rattle.ssa_path.proofs.Combining.{IsCombining}
use Rattle.ssa_path.proofs.Finding.{IsFinding}
use Rattle.ssa_path.proofs.combine.+combine.Given as goal

abbrev pub invariant-combine_children-loop-order : goal.invariant-combine_children-loop-order
invariant-combine_children-loop-order l = IsCombining l.how l.own l.others (drop l.i l.own) (drop l.j l.others) l.combined.items

abbrev pub decreases-combine_children-loop-order : goal.decreases-combine_children-loop-order
decreases-combine_children-loop-order l = (length l.own - l.i) + (length l.others - l.j)

abbrev pub invariant-combine_found-loop-mine : goal.invariant-combine_found-loop-mine
invariant-combine_found-loop-mine l = IsFinding l.how l.own l.others (drop l.mine-index l.own) l.combined.items
