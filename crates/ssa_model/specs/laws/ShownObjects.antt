-- The object that is shown of a body is taken as that body, as an object file and by a command.
use Rattle.std.specs.Prelude.{◌≡◌, ◌≤◌, [], true, Ok}
use Rattle.ssa_model.specs.definitions.Kind.{Kind}
use Rattle.ssa_model.specs.definitions.PathMap.{size}
use Rattle.ssa_model.specs.definitions.Body.{Body}
use Rattle.ssa_model.specs.definitions.Limits.{most_places, most_past}
use Rattle.ssa_model.specs.definitions.Schema.{Schema}
use Rattle.ssa_model.specs.definitions.Lawful.{IsSchemaKind}
use Rattle.ssa_model.specs.definitions.Fitting.{IsBodyOf}
use Rattle.ssa_model.specs.definitions.Objects.{Identity, is_identity, object_of_body}
use Rattle.ssa_model.specs.definitions.Readings.{Readings}
use Rattle.ssa_model.specs.definitions.History.{Bench}
use Rattle.ssa_model.specs.definitions.Answers.{bench_of, command_body, lone_bench}
use Rattle.ssa_model.specs.definitions.Valid.{IsRooted}

-- a body that an object may have
pub record IsShownBody (kind : Kind) (body : Body) : Type 0 where
  pub accepted : IsSchemaKind kind
  pub fits : IsBodyOf kind body
  pub rooted : IsRooted body
  pub few : size body ≤ most_places

abbrev pub ShownMakesBench : Type 0
ShownMakesBench =
    (readings : Readings) (schema : Schema) (identity : Identity) (body : Body)
    → is_identity identity ≡ true → IsShownBody schema.kind body
    → bench_of readings schema (object_of_body identity schema.kind body)
    ≡ Ok (lone_bench most_past schema identity (record { body = body; table = [] }))

abbrev pub ShownIsCommands : Type 0
ShownIsCommands =
    (bench : Bench) (body : Body) → is_identity bench.identity ≡ true → IsShownBody bench.schema.kind body
    → command_body bench (object_of_body bench.identity bench.schema.kind body) ≡ Ok body
