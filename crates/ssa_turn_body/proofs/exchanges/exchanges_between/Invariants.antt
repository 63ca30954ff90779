use Rattle.ssa_turn_body.proofs.Exchanging.{IsExchanging}
use Rattle.ssa_turn_body.proofs.exchanges.exchanges_between.Given as goal

abbrev pub invariant-loop-i : goal.invariant-loop-i
invariant-loop-i l = IsExchanging l.wanted l.i l.order.items l.places.items l.swaps.items
