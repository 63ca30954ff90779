-- The state that a record leads to, as it is told.
use Rattle.std.specs.Prelude.{◌≡◌, List, [], ◌∷◌, ◌++◌, map, Option, Some, None}
use Rattle.ssa_model.specs.definitions.Path.{Element, Path}
use Rattle.ssa_model.specs.definitions.Record.{Record}
use Rattle.ssa_turn_state.specs.States.{state_steps}
use Rattle.ssa_turn_state.specs.declared.live_state.StateDelta.{StateDelta}

-- the path of the child of an element
abbrev pub path_after : Path → Element → Path
path_after p e = p ++ e ∷ []

abbrev pub paths_after : Path → List Element → List Path
paths_after p es = map (path_after p) es

-- there is a record, and it is this one
abbrev pub IsSaidState : Option StateDelta → Record → Type 0
IsSaidState None d = ⊥
IsSaidState (Some s) d = state_steps s ≡ d
