use Rattle.ssa_turn_body.proofs.NoSteps.{none-room, none-told}
use Rattle.ssa_turn_body.proofs.steps.BodySteps.none.Goals as goal

pub returns-clause-told : goal.returns-clause-told
returns-clause-told c b = none-told (record { steps = c.new.result }) b c.new.ensures.items

pub returns-clause-room : goal.returns-clause-room
returns-clause-room c b = none-room (record { steps = c.new.result }) b c.new.ensures.items
