use Rattle.std.proofs.Common.{take}
use Rattle.std.specs.List.{AllZip}
use Rattle.ssa_turn_table.specs.Copies.{KeyIsCopied}
use Rattle.ssa_turn_table.proofs.copying.copy_gone.Given as goal

abbrev pub invariant-loop-key : goal.invariant-loop-key
invariant-loop-key l = AllZip KeyIsCopied (take l.key-index l.key-items) l.copies.items
