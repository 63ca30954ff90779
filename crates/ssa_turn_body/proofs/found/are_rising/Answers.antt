use Rattle.std.proofs.Common.{◌+◌, sym, subst, take, arith}
use Rattle.ssa_turn_body.specs.Found.{somes}
use Rattle.ssa_turn_body.specs.Woven.{ArePlaces}
use Rattle.ssa_turn_body.proofs.Matching.{told-more, told-none}
use Rattle.ssa_turn_body.proofs.Missing.{as-some}
use Rattle.ssa_turn_body.proofs.Rising.{places-push, told-all}
use Rattle.ssa_turn_body.proofs.found.are_rising.Goals as goal
use Rattle.ssa_turn_body.proofs.found.are_rising.Goals.{in-Some+else-place-least+else-place-count, in-None}

pub loop-i-preserved : goal.loop-i-preserved
loop-i-preserved c =
    let fs = c.args.found.now in
    let i = c.loop-i.i in
    let inv = c.loop-i.invariant in
    elim c.match-found-i.branch [
      | in-Some+else-place-least+else-place-count w ↦
          let k = w.in-Some.place in
          let more = told-more fs i k c.loop-i-test.true (as-some fs i k c.loop-i-test.true w.in-Some.is) in
          record {
            rise =
                subst (ArePlaces 0 (somes (take (i + 1) fs))) (sym w.least-is)
                (subst (λ ps. ArePlaces 0 ps (k + 1)) (sym more) (places-push (somes (take i fs)) 0 c.loop-i.least k inv.rise w.if-place-least.false));
            within = omega (arith, w.least-is, w.if-place-count.false);
          }
      | in-None w ↦
          record {
            rise =
                subst (ArePlaces 0 (somes (take (i + 1) fs))) (sym w.least-is)
                (subst (λ ps. ArePlaces 0 ps c.loop-i.least) (sym (told-none fs i c.loop-i-test.true (sym w.in-None.is))) inv.rise);
            within = omega (arith, w.least-is, inv.within);
          }
    ]

pub returns : goal.returns
returns c = λ e. told-all c.args.found.now c.loop-i.i c.loop-i.least c.args.count c.loop-i-test.false c.loop-i.invariant.rise c.loop-i.invariant.within
