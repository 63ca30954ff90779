use Rattle.std.proofs.Common.{take}
use Rattle.ssa_path.proofs.FieldsBack.{AreBackChildren}
use Rattle.ssa_path.proofs.fields_back.+place_is_read.Given as goal

-- the first children are read back
abbrev pub invariant-loop-child : goal.invariant-loop-child
invariant-loop-child l = AreBackChildren (take l.child-index l.child-items)
