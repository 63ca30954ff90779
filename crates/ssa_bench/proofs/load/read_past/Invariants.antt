use Rattle.std.proofs.Common.{◌≡◌, ◌+◌, length}
use Rattle.ssa_model.specs.definitions.History.{past_len, preceded}
use Rattle.ssa_model.specs.laws.LineByLine.{along}
use Rattle.ssa_json.specs.Readings.{readings}
use Rattle.ssa_file.specs.Recording.{format_view}
use Rattle.ssa_bench.proofs.LoadedMoves.{Went}
use Rattle.ssa_bench.proofs.load.read_past.Given as goal

-- so many lines were read, and the bench has gone back along them
abbrev pub invariant-loop : goal.invariant-loop
invariant-loop g l =
    Went (along readings (format_view l.format) preceded) l.count l.counter (g.R.Source.remaining l.initial.reader) (g.R.Source.remaining l.reader) l.initial.room l.room l.initial.bench l.bench
    × ((past_len l.bench.timeline ≡ 0) × (length l.bench.timeline.later ≡ length l.initial.bench.timeline.later + l.counter))
    × (l.bench.depth ≡ l.initial.bench.depth)
