use Rattle.std.proofs.Common.{◌≡◌, take, true}
use Rattle.ssa_path.proofs.OwnTexts.{are_narrow}
use Rattle.ssa_path.proofs.fields_back.numbers_fit.Given as goal

-- the numbers of the members so far fit
abbrev pub invariant-loop-member : goal.invariant-loop-member
invariant-loop-member l = are_narrow (take l.member-index l.members) ≡ true
