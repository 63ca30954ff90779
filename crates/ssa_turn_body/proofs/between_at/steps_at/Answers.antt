use Rattle.ssa_path.specs.View.{path_view}
use Rattle.ssa_turn_body.proofs.BodiesAt.{at-record, at-room}
use Rattle.ssa_turn_body.proofs.between_at.steps_at.Goals as goal
use Rattle.std.proofs.Common.{refl}

pub returns-clause-record : goal.returns-clause-record
returns-clause-record c = λ b whole here alike.
    at-record (path_view c.args.path.items) c.args.from.now c.args.to c.args.path.items c.new-steps.result.items
    (record { steps = c.steps_below.new.steps })
    c.requires.from c.requires.to refl c.new-steps.ensures.items c.in_ok-steps_below.ensures.led b whole here alike

pub returns-clause-room : goal.returns-clause-room
returns-clause-room c = λ b whole here alike.
    at-room (path_view c.args.path.items) c.args.from.now c.args.to c.args.path.items c.new-steps.result.items
    (record { steps = c.steps_below.new.steps })
    c.requires.from c.requires.to refl c.new-steps.ensures.items c.in_ok-steps_below.ensures.led b whole here alike
