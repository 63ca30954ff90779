-- Histories whose states are read back from what they are shown as.
use Rattle.std.specs.Prelude.{◌≡◌, Ok}
use Rattle.std.specs.List.{All}
use Rattle.ssa_model.specs.definitions.Answers.{bench_of, lone_bench}
use Rattle.ssa_model.specs.definitions.Limits.{most_past}
use Rattle.ssa_model.specs.definitions.BenchText.{whole_object}
use Rattle.ssa_model.specs.definitions.History.{Bench, Step}
use Rattle.ssa_model.specs.definitions.Operations.{State}
use Rattle.ssa_json.specs.Readings.{readings}

-- the object that is shown of the state with the managers' entries is taken as the state by an object file
abbrev pub IsTakenBack : Bench → State → Type 0
IsTakenBack bench s = bench_of readings bench.schema (whole_object bench s) ≡ Ok (lone_bench most_past bench.schema bench.identity s)

abbrev pub MakesTakenBack : Bench → Step → Type 0
MakesTakenBack bench s = IsTakenBack bench s.state

pub record AllTakenBack (bench : Bench) : Type 0 where
  pub first : IsTakenBack bench bench.timeline.first
  pub later : All (MakesTakenBack bench) bench.timeline.later
