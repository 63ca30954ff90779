-- The object that is shown of a state, with its managers' entries, is taken as that state by an object file.
use Rattle.std.specs.Prelude.{◌≡◌, true, Ok}
use Rattle.ssa_model.specs.definitions.Limits.{most_past}
use Rattle.ssa_model.specs.definitions.Entries.{object_of_state}
use Rattle.ssa_model.specs.definitions.Lawful.{IsSchemaKind}
use Rattle.ssa_model.specs.definitions.Objects.{Identity, is_identity}
use Rattle.ssa_model.specs.definitions.Operations.{State}
use Rattle.ssa_model.specs.definitions.Readings.{Readings}
use Rattle.ssa_model.specs.definitions.Schema.{Schema}
use Rattle.ssa_model.specs.definitions.Answers.{bench_of, lone_bench}
use Rattle.ssa_model.specs.definitions.Valid.{AllEntries, IsValidState}
use Rattle.ssa_model.specs.definitions.BenchFile.{IsReadBack}

abbrev pub ShownStateIsTaken : Type 0
ShownStateIsTaken =
    (readings : Readings) (schema : Schema) (identity : Identity) (state : State)
    → is_identity identity ≡ true → IsSchemaKind schema.kind → IsValidState schema.kind state → AllEntries (IsReadBack readings) state.table
    → bench_of readings schema (object_of_state identity schema.kind true state)
    ≡ Ok (lone_bench most_past schema identity state)
