-- What is appended so far and what is told of the rest are together what is told of the name.
use Rattle.std.proofs.Common.{◌≡◌, ◌++◌, length}
use Rattle.ssa_program.specs.Names.{escaped, escaped_from}
use Rattle.ssa_program.proofs.names.push_name.Given as goal

abbrev pub invariant-loop-rest : goal.invariant-loop-rest
invariant-loop-rest l = l.text.items ++ escaped_from l.left l.rest ≡ l.initial.text.items ++ escaped l.name

abbrev pub decreases-loop-rest : goal.decreases-loop-rest
decreases-loop-rest l = length l.rest
