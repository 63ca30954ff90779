use Rattle.std.proofs.Common.{arith, rules, ap, Ok, ◌<◌, []}
use Rattle.std.proofs.lemmas.Result.{err_from_is_err_and}
use Rattle.ssa_lines.proofs.ReadingFacts.{TakesLine-none, TakesLine-more, ok-some}
use Rattle.ssa_lines.proofs.read_line.read_line.Goals as goal

pub loop-end-init : goal.loop-end-init
loop-end-init g c = record { taken = TakesLine-none _ _ _ (c.clear.ensures c.args.most); turns = search rules; ends = search rules }

pub returns-in_err-end-clause-takes : goal.returns-in_err-end-clause-takes
returns-in_err-end-clause-takes g c =
    let p = err_from_is_err_and c.from_residual.result c.from_residual.ensures.1 in
    rw p.1 (TakesLine-more _ _ _ _ _ _ [] c.loop-end.invariant.taken c.in_err-end.ensures.takes)

pub returns-in-Some-clause-takes : goal.returns-in-Some-clause-takes
returns-in-Some-clause-takes g c =
    TakesLine-more _ _ _ _ _ _ _ c.loop-end.invariant.taken (rw c.in-Some.is at c.in_ok-end.ensures.takes)

pub loop-end-preserved : goal.loop-end-preserved
loop-end-preserved g c =
    let less : g.R.Source.turns_left c.take_piece.new.reader < g.R.Source.turns_left c.loop-end.reader = c.in_ok-end.ensures.goes_on (ap Ok c.in_default.is) in
    record {
      taken = TakesLine-more _ _ _ _ _ _ _ c.loop-end.invariant.taken (rw c.in_default.is at c.in_ok-end.ensures.takes);
      turns = omega (arith, c.loop-end.invariant.turns);
      ends = omega (arith, c.in_ok-end.ensures.ends, c.loop-end.invariant.ends);
    }

pub returns-in_err-end-clause-ends : goal.returns-in_err-end-clause-ends
returns-in_err-end-clause-ends g c = omega (arith, c.in_err-end.ensures.ends, c.loop-end.invariant.ends)

pub returns-in-Some-clause-ends : goal.returns-in-Some-clause-ends
returns-in-Some-clause-ends g c = omega (arith, c.in_ok-end.ensures.ends, c.loop-end.invariant.ends)

pub returns-in-Some-clause-met_end : goal.returns-in-Some-clause-met_end
returns-in-Some-clause-met_end g c = λ is.
    let less = (rw c.in-Some.is at c.in_ok-end.ensures.met_end) (ok-some c.in-Some.end _ is) in
    omega (arith, less, c.loop-end.invariant.ends)
