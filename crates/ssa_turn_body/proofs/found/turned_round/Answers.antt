use Rattle.std.proofs.Common.{Vec, Global, ℕ, Option, ◌+◌, sym, subst, arith, take}
use Rattle.ssa_turn_body.specs.Found.{IsTurnedRound}
use Rattle.ssa_turn_body.proofs.Missing.{as-some}
use Rattle.ssa_turn_body.proofs.Matching.{turned-none, turned-more, turned-same, told-below}
use Rattle.ssa_turn_body.proofs.found.turned_round.Goals as goal
use Rattle.ssa_turn_body.proofs.found.turned_round.Goals.{in-Some, in-None}

pub loop-i-init : goal.loop-i-init
loop-i-init c = turned-none c.args.count _ c.in_ok-back.ensures

pub index_mut-requires : goal.index_mut-requires
index_mut-requires c =
    let fs = c.args.found.now in
    let below = told-below c.args.count fs c.loop-i.i c.in-Some.place c.loop-i-test.true
    (as-some fs c.loop-i.i c.in-Some.place c.loop-i-test.true c.in-Some.is) c.requires.below in
    let inv = c.loop-i.invariant in
    omega (arith, below, inv.long, c.loop-i.back.ok.0)

pub loop-i-preserved : goal.loop-i-preserved
loop-i-preserved c =
    let fs = c.args.found.now in
    let i = c.loop-i.i in
    elim c.match-found-i.branch [
      | in-Some w ↦
          let k = w.in-Some.place in
          subst (λ (v : Vec (Option ℕ) Global). IsTurnedRound c.args.count (take (i + 1) fs) v.items) (sym w.back-is)
          (turned-more c.args.count fs c.loop-i.back.items i k c.loop-i-test.true (as-some fs i k c.loop-i-test.true w.in-Some.is) c.requires.below
          c.requires.differ c.loop-i.invariant)
      | in-None w ↦
          subst (λ (v : Vec (Option ℕ) Global). IsTurnedRound c.args.count (take (i + 1) fs) v.items) (sym w.back-is)
          (turned-same c.args.count fs c.loop-i.back.items i c.loop-i-test.true (sym w.in-None.is) c.loop-i.invariant)
    ]
