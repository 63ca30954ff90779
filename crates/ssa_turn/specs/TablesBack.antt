-- Histories whose managers' sets are read back from what they are written as.
use Rattle.std.specs.List.{All}
use Rattle.ssa_model.specs.definitions.History.{Step, Timeline}
use Rattle.ssa_model.specs.definitions.Operations.{State}
use Rattle.ssa_model.specs.definitions.BenchFile.{IsReadBack}
use Rattle.ssa_model.specs.definitions.Valid.{AllEntries}
use Rattle.ssa_json.specs.Readings.{readings}

-- the sets of the state's table are read from what they are written as
abbrev pub HasTableBack : State → Type 0
HasTableBack s = AllEntries (IsReadBack readings) s.table

abbrev pub MakesTableBack : Step → Type 0
MakesTableBack s = HasTableBack s.state

-- the first state and each later one
pub record AllTablesBack (t : Timeline) : Type 0 where
  pub first : HasTableBack t.first
  pub later : All MakesTableBack t.later
