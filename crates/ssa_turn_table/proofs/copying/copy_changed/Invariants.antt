use Rattle.std.proofs.Common.{take}
use Rattle.std.specs.List.{AllZip}
use Rattle.ssa_turn_table.specs.Copies.{ChangeIsCopied}
use Rattle.ssa_turn_table.proofs.copying.copy_changed.Given as goal

abbrev pub invariant-loop-change : goal.invariant-loop-change
invariant-loop-change l = AllZip ChangeIsCopied (take l.change-index l.change-items) l.copies.items
