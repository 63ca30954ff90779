use Rattle.std.proofs.Common.{rules}
use Rattle.ssa_lines.proofs.DeviceFacts.{IsAtEnd-shown}
use Rattle.ssa_lines.proofs.read_line.take_piece.Goals as goal

pub returns-then-is_empty-clause-end : goal.returns-then-is_empty-clause-end
returns-then-is_empty-clause-end g c = λ _. IsAtEnd-shown _ _ _ c.fill.follows.holds-at-none.keeps.0 c.in_ok-available.ensures.end (search rules)
