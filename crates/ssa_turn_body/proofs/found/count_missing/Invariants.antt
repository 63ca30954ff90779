use Rattle.std.proofs.Common.{◌≡◌, ◌≤◌, length, take}
use Rattle.ssa_turn_body.specs.Found.{nones}
use Rattle.ssa_turn_body.proofs.found.count_missing.Given as goal

abbrev pub invariant-loop-i : goal.invariant-loop-i
invariant-loop-i l = record {
  within : l.count ≤ l.i;
  counted : l.count ≡ length (nones 0 (take l.i l.found));
}
