-- What a bench is.
use Rattle.ssa_model.specs.definitions.History as model
use Rattle.ssa_model.specs.definitions.Valid.{IsValidHistory}
use Rattle.ssa_bench.specs.declared.bench.Bench.TheInside.{Inside}

abbrev pub bench_view : Inside → model.Bench
bench_view b = record { schema = b.schema; identity = b.identity; depth = b.depth; timeline = b.timeline }

-- the history is one as commands make it, no longer than the depth
abbrev pub IsValid : Inside → Type 0
IsValid b = IsValidHistory b.schema.kind b.depth b.timeline
