-- Two turns of a tree or of a body leave it and the steps as they were.
use Rattle.std.proofs.Common.{refl, sym, ◌∙◌, reverse}
use Rattle.ssa_turn_body.specs.Bodies.{TurnsLeadBack}
use Rattle.ssa_turn_body.specs.Turns.{TreeTurnsLeadBack}
use Rattle.ssa_turn_body.proofs.BodyMarks.{body-marks, body-same}
use Rattle.ssa_turn_body.proofs.Returning.{leads-tree, turned-twice}

-- a second turn leaves the tree and the steps as they were
pub tree-back : TreeTurnsLeadBack
tree-back s t u v w x tree fit there again =
    turned-twice s.steps.items t.steps.items u.steps.items v w w x tree (leads-tree s.steps.items v (reverse t.steps.items) w tree there) (λ q. refl) fit
    there again

-- a second turn leaves the body and the steps as they were
pub bodies-back : TurnsLeadBack
bodies-back s t u b c d fit there again =
    let same = body-marks there.after again.before there.tree_after again.tree_before (there.body_after ∙ sym again.body_before) in
    let trip =
    turned-twice s.steps.items t.steps.items u.steps.items there.before there.after again.before again.after there.tree_before again.tree_before same
    (fit there.before there.tree_before there.body_before) there.turned again.turned in (
      sym again.body_after ∙ body-same again.after there.before again.tree_after there.tree_before trip.0 ∙ there.body_before,
      trip.1,
    )
