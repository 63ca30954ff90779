use Rattle.std.proofs.Common.{◌≡◌, ◌+◌}
use Rattle.ssa_model.specs.definitions.History.{appended, past_len}
use Rattle.ssa_model.specs.laws.LineByLine.{along}
use Rattle.ssa_json.specs.Readings.{readings}
use Rattle.ssa_file.specs.Recording.{format_view}
use Rattle.ssa_bench.proofs.LoadedMoves.{Went}
use Rattle.ssa_bench.proofs.load.read_future.Given as goal

-- so many lines were read, and the bench has gone on along them
abbrev pub invariant-loop : goal.invariant-loop
invariant-loop g l =
    Went (along readings (format_view l.format) appended) l.count l.counter (g.R.Source.remaining l.initial.reader) (g.R.Source.remaining l.reader) l.initial.room l.room l.initial.bench l.bench
    × (past_len l.bench.timeline ≡ past_len l.initial.bench.timeline + l.counter)
    × (l.bench.depth ≡ l.initial.bench.depth)
