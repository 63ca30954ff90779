use Rattle.std.proofs.Common.{take}
use Rattle.std.specs.List.{AllZip}
use Rattle.ssa_turn_table.specs.Copies.{HereIsCopied}
use Rattle.ssa_turn_table.proofs.copying.copy_here.Given as goal

abbrev pub invariant-loop-one : goal.invariant-loop-one
invariant-loop-one l = AllZip HereIsCopied (take l.one-index l.one-items) l.copies.items
