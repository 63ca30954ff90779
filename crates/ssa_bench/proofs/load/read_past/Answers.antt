use Rattle.std.proofs.Common.{length, ap, arith, ◌∙◌}
use Rattle.ssa_model.specs.definitions.History.{Bench, preceded}
use Rattle.ssa_file.specs.Recording.{format_view}
use Rattle.ssa_bench.specs.Loading.{ReadsMoves}
use Rattle.ssa_bench.proofs.LoadedParts.{fault-handed}
use Rattle.ssa_bench.proofs.LoadedMoves.{went-more, went-refused, went-unread}
use Rattle.ssa_bench.proofs.load.read_past.Goals as goal

pub returns-in_err-line-clause-read : goal.returns-in_err-line-clause-read
returns-in_err-line-clause-read g c =
    let fault = c.in_err-line.field-0.0 in
    fault-handed c.from_residual.result fault
    (ReadsMoves (format_view c.args.format) preceded c.args.count (g.R.Source.remaining c.args.reader.now) (g.R.Source.remaining c.next_line.new.reader) c.args.room.now
    c.next_line.new.room c.args.bench.now c.loop.bench)
    c.from_residual.ensures.1
    (went-unread (format_view c.args.format) preceded c.args.count c.loop.counter _ _ _ _ c.loop.room c.next_line.new.room c.args.bench.now c.loop.bench c.loop.bench fault
    c.loop-test.true c.loop.invariant.0 c.in_err-line.ensures.read)

pub returns-in_err-go_back_by-clause-read : goal.returns-in_err-go_back_by-clause-read
returns-in_err-go_back_by-clause-read g c =
    let fault = c.in_err-go_back_by.field-0.0 in
    fault-handed c.from_residual-in_err-go_back_by.result fault
    (ReadsMoves (format_view c.args.format) preceded c.args.count (g.R.Source.remaining c.args.reader.now) (g.R.Source.remaining c.next_line.new.reader) c.args.room.now
    c.next_line.new.room c.args.bench.now c.go_back_by.new.self)
    c.from_residual-in_err-go_back_by.ensures.1
    (went-refused (format_view c.args.format) preceded c.args.count c.loop.counter _ _ _ _ c.loop.room c.next_line.new.room c.args.bench.now c.loop.bench c.go_back_by.new.self
    c.in_ok-line.line fault
    c.loop-test.true c.loop.invariant.0 c.in_ok-line.ensures.read c.in_err-go_back_by.ensures.moves)

pub loop-preserved : goal.loop-preserved
loop-preserved g c =
    let moved = c.in_ok-go_back_by.ensures.moves in
    let place = ap (λ (b : Bench). b.timeline.place) moved.2 in
    let many = ap (λ (b : Bench). length b.timeline.later) moved.2 in
    let before = c.loop.invariant.1.1 in
    let deep = ap (λ (b : Bench). b.depth) moved.2 in (
      went-more (format_view c.args.format) preceded c.args.count c.loop.counter _ _ _ _ c.loop.room c.next_line.new.room c.args.bench.now c.loop.bench c.go_back_by.new.self
          c.in_ok-line.line
          c.loop-test.true c.loop.invariant.0 c.in_ok-line.ensures.read moved,
      (place, omega (arith, many, before)),
      deep ∙ c.loop.invariant.2,
    )
