use Rattle.std.proofs.Common.{refl, sym, ◌∙◌}
use Rattle.ssa_turn_body.specs.Bodies.{BodyStepsFit, IsBodyTurned}
use Rattle.ssa_typed.specs.Rows.{body_of}
use Rattle.ssa_turn_body.proofs.BodyMarks.{body-marks}
use Rattle.ssa_turn_body.proofs.KeepingRoom.{turns-keep-room}
use Rattle.ssa_turn_body.proofs.Returning.{steps-fit}
use Rattle.ssa_turn_body.proofs.body.turn_body.Goals as goal

pub set_root-requires-clause-rooted : goal.set_root-requires-clause-rooted
set_root-requires-clause-rooted c =
    c.requires.rooted c.turn.new.self (body_of c.turn.new.node)
    (record {
      before = c.take_root-root.result;
      after = c.turn.new.node;
      tree_before = c.take_root-root.ensures.tree;
      tree_after = c.turn.ensures.tree;
      body_before = c.take_root-root.ensures.seen;
      body_after = refl;
      turned = c.turn.ensures.leads;
    })

pub returns-clause-back : goal.returns-clause-back
returns-clause-back c n tree same =
    steps-fit c.turn.new.self.steps.items c.turn.new.node n c.turn.ensures.tree tree
    (body-marks c.turn.new.node n c.turn.ensures.tree tree (sym c.set_root.ensures ∙ sym same)) c.turn.ensures.back

pub returns-clause-room : goal.returns-clause-room
returns-clause-room c = λ room.
    let turned : IsBodyTurned c.args.changes.now c.args.body.now c.turn.new.self c.set_root.new.self = record {
      before = c.take_root-root.result;
      after = c.turn.new.node;
      tree_before = c.take_root-root.ensures.tree;
      tree_after = c.turn.ensures.tree;
      body_before = c.take_root-root.ensures.seen;
      body_after = sym c.set_root.ensures;
      turned = c.turn.ensures.leads;
    } in
    let fits : BodyStepsFit c.turn.new.self c.set_root.new.self = λ n tree same.
    steps-fit c.turn.new.self.steps.items c.turn.new.node n c.turn.ensures.tree tree
    (body-marks c.turn.new.node n c.turn.ensures.tree tree (sym c.set_root.ensures ∙ sym same)) c.turn.ensures.back in
    turns-keep-room c.args.changes.now c.turn.new.self c.args.body.now c.set_root.new.self room turned fits
