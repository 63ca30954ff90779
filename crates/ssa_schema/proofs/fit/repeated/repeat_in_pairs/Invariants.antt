use Rattle.ssa_schema.proofs.Rows.{IsSought}
use Rattle.ssa_schema.proofs.fit.repeated.repeat_in_pairs.Given as goal

abbrev pub invariant-loop-place : goal.invariant-loop-place
invariant-loop-place l = IsSought l.keys l.place
