use Rattle.std.proofs.Common.{ap, arith, ◌∙◌}
use Rattle.ssa_model.specs.definitions.History.{Bench}
use Rattle.ssa_bench.specs.Loading.{ReadsSteps}
use Rattle.ssa_bench.proofs.LoadedParts.{fault-handed}
use Rattle.ssa_bench.proofs.LoadedMoves.{stepped-more, stepped-refused, stepped-unread}
use Rattle.ssa_bench.proofs.load.read_steps.Goals as goal

pub returns-in_err-line-clause-read : goal.returns-in_err-line-clause-read
returns-in_err-line-clause-read g c =
    let fault = c.in_err-line.field-0.0 in
    fault-handed c.from_residual.result fault
    (ReadsSteps c.args.count (g.R.Source.remaining c.args.reader.now) (g.R.Source.remaining c.next_line.new.reader) c.args.room.now
    c.next_line.new.room c.args.bench.now c.loop.bench)
    c.from_residual.ensures.1
    (stepped-unread c.args.count c.loop.counter _ _ _ _ c.loop.room c.next_line.new.room c.args.bench.now c.loop.bench c.loop.bench fault
    c.loop-test.true c.loop.invariant.0 c.in_err-line.ensures.read)

pub returns-in_err-take_line-clause-read : goal.returns-in_err-take_line-clause-read
returns-in_err-take_line-clause-read g c =
    let fault = c.in_err-take_line.field-0.0 in
    fault-handed c.from_residual-in_err-take_line.result fault
    (ReadsSteps c.args.count (g.R.Source.remaining c.args.reader.now) (g.R.Source.remaining c.next_line.new.reader) c.args.room.now
    c.next_line.new.room c.args.bench.now c.take_line.new.self)
    c.from_residual-in_err-take_line.ensures.1
    (stepped-refused c.args.count c.loop.counter _ _ _ _ c.loop.room c.next_line.new.room c.args.bench.now c.loop.bench c.take_line.new.self
    c.in_ok-line.line fault
    c.loop-test.true c.loop.invariant.0 c.in_ok-line.ensures.read c.in_err-take_line.ensures.goes)

pub loop-preserved : goal.loop-preserved
loop-preserved g c =
    let moved = c.in_ok-take_line.ensures.goes in
    let place = ap (λ (b : Bench). b.timeline.place) moved.2 in
    let before = c.loop.invariant.1 in
    let deep = ap (λ (b : Bench). b.depth) moved.2 in (
      stepped-more c.args.count c.loop.counter _ _ _ _ c.loop.room c.next_line.new.room c.args.bench.now c.loop.bench c.take_line.new.self
          c.in_ok-line.line
          c.loop-test.true c.loop.invariant.0 c.in_ok-line.ensures.read moved,
      omega (arith, place, before),
      deep ∙ c.loop.invariant.2,
    )
