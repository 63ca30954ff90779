use Rattle.std.proofs.Common.{ap, arith}
use Rattle.ssa_model.specs.definitions.History.{Bench}
use Rattle.ssa_model.specs.laws.LineByLine.{moves_from}
use Rattle.ssa_json.specs.Readings.{readings}
use Rattle.ssa_file.specs.Heads.{counts_view}
use Rattle.ssa_bench.specs.Loading.{ReadsOn}
use Rattle.ssa_bench.proofs.LoadedParts.{fault-handed}
use Rattle.ssa_bench.proofs.LoadedBench.{end-refused, future-refused, history-read, past-refused}
use Rattle.ssa_bench.proofs.load.read_history.Goals as goal

pub returns-in_err-read_past-clause-read : goal.returns-in_err-read_past-clause-read
returns-in_err-read_past-clause-read g c =
    let fault = c.in_err-read_past.field-0.0 in
    let counts = counts_view c.args.counts.now in
    let first = c.args.bench.now in
    let back = c.read_past.new.bench in
    let a = g.R.Source.remaining c.args.reader.now in
    let b = g.R.Source.remaining c.read_past.new.reader in
    fault-handed c.from_residual.result fault (ReadsOn (moves_from readings counts first) a b c.args.room.now back) c.from_residual.ensures.1
    (past-refused counts first back back a b b b c.args.room.now c.read_past.new.room c.read_past.new.room fault c.in_err-read_past.ensures.read)

pub returns-in_err-read_future-clause-read : goal.returns-in_err-read_future-clause-read
returns-in_err-read_future-clause-read g c =
    let fault = c.in_err-read_future.field-0.0 in
    let counts = counts_view c.args.counts.now in
    let first = c.args.bench.now in
    let last = c.read_future.new.bench in
    let a = g.R.Source.remaining c.args.reader.now in
    let d = g.R.Source.remaining c.read_future.new.reader in
    fault-handed c.from_residual-in_err-read_future.result fault (ReadsOn (moves_from readings counts first) a d c.args.room.now last)
    c.from_residual-in_err-read_future.ensures.1
    (future-refused counts first c.read_past.new.bench last a _ d d c.args.room.now c.read_past.new.room c.read_future.new.room fault
    c.go_to.new.self c.go_to.ensures c.in_ok-read_past.ensures.read c.in_err-read_future.ensures.read)

pub returns-in_err-read_end-clause-read : goal.returns-in_err-read_end-clause-read
returns-in_err-read_end-clause-read g c =
    let fault = c.in_err-read_end.field-0.0 in
    let counts = counts_view c.args.counts.now in
    let first = c.args.bench.now in
    let last = c.read_future.new.bench in
    let a = g.R.Source.remaining c.args.reader.now in
    let d = g.R.Source.remaining c.read_end.new.reader in
    fault-handed c.from_residual-in_err-read_end.result fault (ReadsOn (moves_from readings counts first) a d c.args.room.now last)
    c.from_residual-in_err-read_end.ensures.1
    (end-refused counts first c.read_past.new.bench last a _ _ d c.args.room.now c.read_past.new.room c.read_future.new.room fault
    c.go_to.new.self c.go_to.ensures c.in_ok-read_past.ensures.read c.in_ok-read_future.ensures.read c.in_err-read_end.ensures.read)

pub go_to-requires-2 : goal.go_to-requires-2
go_to-requires-2 g c =
    let place = ap (λ (b : Bench). b.timeline.place) c.go_to.ensures in
    let many = c.in_ok-read_future.ensures.many in
    let within = c.in_ok-read_future.ensures.within in
    omega (arith, place, many, within)

pub returns-clause-read : goal.returns-clause-read
returns-clause-read g c =
    history-read (counts_view c.args.counts.now) c.args.bench.now c.read_past.new.bench c.read_future.new.bench
    (g.R.Source.remaining c.args.reader.now) _ _ _ c.args.room.now c.read_past.new.room c.read_future.new.room c.go_to.new.self c.go_to-2.new.self
    c.go_to.ensures c.go_to-2.ensures c.in_ok-read_past.ensures.read c.in_ok-read_future.ensures.read c.in_ok-read_end.ensures.read
