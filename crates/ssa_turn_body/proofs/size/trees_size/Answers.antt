use Rattle.std.proofs.Common.{◌-◌, ◌^◌, min, length, ap, ◌∙◌, arith}
use Rattle.std.proofs.lemmas.List.{take_all}
use Rattle.ssa_typed.specs.Rows.{rows}
use Rattle.ssa_turn_body.specs.Marks.{Child}
use Rattle.ssa_turn_body.specs.Sizes.{trees_size}
use Rattle.ssa_turn_body.proofs.Sizes.{sum-more}
use Rattle.ssa_turn_body.proofs.size.trees_size.Goals as goal

pub loop-child-preserved : goal.loop-child-preserved
loop-child-preserved c =
    sum-more (λ (h : Child). length (rows h.1)) c.args.held.now c.loop-child.child-index c.child-item.result c.loop-child.size c.size.result
    c.saturating_add-size.result (omega arith) c.child-item.is c.loop-child.invariant c.size.ensures c.saturating_add-size.ensures

pub returns : goal.returns
returns c =
    c.loop-child.invariant
    ∙ ap (λ hs. min (trees_size hs) (2 ^ 64 - 1)) (take_all c.loop-child.child-index c.args.held.now c.loop-child-test.false)
