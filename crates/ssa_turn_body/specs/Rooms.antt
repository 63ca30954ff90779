-- Steps that serve each turn of a body, there and back, and say each time the record of the two bodies.
use Rattle.std.specs.Prelude.{◌≡◌}
use Rattle.ssa_model.specs.definitions.Body.{Body}
use Rattle.ssa_model.specs.definitions.Carry.{carry_body}
use Rattle.ssa_model.specs.definitions.Kind.{Kind}
use Rattle.ssa_model.specs.definitions.Record.{BodyRecord, body_record}
use Rattle.ssa_model.specs.definitions.Takes.{BodyTakes}
use Rattle.ssa_model.specs.definitions.Valid.{IsRooted}
use Rattle.ssa_model.specs.laws.RecordWalks.{AreAlike}
use Rattle.ssa_turn_body.specs.Bodies.{BodyStepsFit, IsBodyTurned}
use Rattle.ssa_turn_body.specs.Lean.{AreLean}
use Rattle.ssa_turn_body.specs.Once.{AreOnce}
use Rattle.ssa_turn_body.specs.Records.{body_told}
use Rattle.ssa_turn_body.specs.Writable.{AreWritable}
use Rattle.ssa_turn_body.specs.declared.steps.BodySteps.{BodySteps}

-- the first steps say the record of the two bodies and lead there, and the second say the record of the way back
pub record AreRecorded (s : BodySteps) (b : Body) (t : BodySteps) (c : Body) : Type 0 where
  pub alike : AreAlike b c
  pub there : body_told s ≡ body_record b c
  pub back : body_told t ≡ body_record c b
  pub leads : c ≡ carry_body (body_told s) b

-- the steps fit each tree of the body and say nothing twice, each turn is recorded, they can be written, and they hold no more than they say
pub record HasBodyRoom (s : BodySteps) (b : Body) : Type 0 where
  pub fits : BodyStepsFit s b
  pub once : AreOnce s.steps.items
  pub turns : (t : BodySteps) (c : Body) → IsBodyTurned s b t c → AreRecorded s b t c
  pub writable : AreWritable s.steps.items
  pub lean : AreLean s.steps.items

-- a turn leaves steps that serve the way back
abbrev pub TurnsKeepRoom : Type 0
TurnsKeepRoom = (s t : BodySteps) (b c : Body) → HasBodyRoom s b → IsBodyTurned s b t c → BodyStepsFit t c → HasBodyRoom t c

-- the record is that of two rooted bodies that fit one schema
abbrev pub IsBodyTaken : BodyRecord → Body → Body → Type 0
IsBodyTaken d v w = (kind : Kind) × BodyTakes kind d v w × IsRooted v × IsRooted w
