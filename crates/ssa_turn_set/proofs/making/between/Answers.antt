use Rattle.std.proofs.Common.{subst, sym}
use Rattle.ssa_turn_set.specs.Turn.{IsBetween}
use Rattle.ssa_turn_set.proofs.Turning.{between-is, between-sets, record_of}
use Rattle.ssa_turn_set.proofs.making.between.Goals as goal

pub returns : goal.returns
returns c =
    let d = record_of c.in_ok-alone.alone.other c.in_ok-alone.alone.own c.in_ok-gain_room.gain_room c.in_ok-loss.loss.room in
    subst (IsBetween c.args.from.now c.args.to.now)
    (λ i. record_of (sym c.of_trie.ensures i) (sym c.of_trie-2.ensures i) c.in_ok-gain_room.gain_room c.in_ok-loss.loss.room)
    (between-sets c.root-own.result.now c.root-other.result.now c.args.from.now c.args.to.now d c.root-own.ensures.same c.root-other.ensures.same
    (between-is c.root-own.result.now c.root-other.result.now d c.root-own.ensures.trie c.in_ok-alone.ensures.other c.in_ok-alone.ensures.own
    c.in_ok-gain_room.ensures c.in_ok-loss.ensures.room))
