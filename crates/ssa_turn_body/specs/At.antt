-- A tree that a body has at a path, and the changes that lead to another one there.
use Rattle.std.specs.Prelude.{◌≡◌, ◌++◌}
use Rattle.ssa_model.specs.definitions.Body.{Body}
use Rattle.ssa_model.specs.definitions.Path.{Path}
use Rattle.ssa_model.specs.definitions.PathMap.{get}
use Rattle.ssa_model.specs.definitions.Record.{body_record}
use Rattle.ssa_model.specs.laws.RecordPlaces.{replaced}
use Rattle.ssa_model.specs.laws.RecordWalks.{AreAlike, IsTree}
use Rattle.ssa_typed.specs.Rows.{body_of}
use Rattle.ssa_typed.specs.declared.node.Node.{Node}
use Rattle.ssa_turn_body.specs.Records.{body_told}
use Rattle.ssa_turn_body.specs.Rooms.{HasBodyRoom}
use Rattle.ssa_turn_body.specs.declared.steps.BodySteps.{BodySteps}

-- at and below the path the body has what the tree has
abbrev pub HasTreeAt : Body → Path → Node → Type 0
HasTreeAt b p n = (q : Path) → get b (p ++ q) ≡ get (body_of n) q

-- the body, with another tree at the path
abbrev pub with_tree : Body → Path → Node → Body
with_tree b p n = replaced b p (body_of n)

-- of each body with the first tree at the path, the changes say the record of it and of what it is with the second there
abbrev pub SayAt : BodySteps → Path → Node → Node → Type 0
SayAt s p n m = (b : Body) → IsTree b → HasTreeAt b p n → AreAlike b (with_tree b p m) → body_told s ≡ body_record b (with_tree b p m)

-- and they serve each turn of it
abbrev pub ServeAt : BodySteps → Path → Node → Node → Type 0
ServeAt s p n m = (b : Body) → IsTree b → HasTreeAt b p n → AreAlike b (with_tree b p m) → HasBodyRoom s b
