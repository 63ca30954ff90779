use Rattle.std.proofs.Common.{◌≡◌, ◌+◌, ◌++◌, length, drop}
use Rattle.ssa_turn_body.specs.Found.{filled, somes}
use Rattle.ssa_turn_body.proofs.found.wanted_order.Given as goal

abbrev pub invariant-loop-i : goal.invariant-loop-i
invariant-loop-i l = record {
  made : filled 0 l.back l.told ≡ l.order.items ++ filled l.i (drop l.i l.back) (drop l.next l.told);
  count : l.next + length (somes (drop l.i l.back)) ≡ length l.told;
}
