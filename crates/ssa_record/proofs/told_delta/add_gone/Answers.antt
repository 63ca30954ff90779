use Rattle.std.proofs.Common.{ap, ◌∙◌}
use Rattle.ssa_model.specs.definitions.PathMap.{insert}
use Rattle.ssa_path.specs.View.{path_view}
use Rattle.ssa_record.proofs.CutPaths.{gone-more}
use Rattle.ssa_record.proofs.told_delta.add_gone.Goals as goal

pub loop-element-preserved : goal.loop-element-preserved
loop-element-preserved c =
    gone-more (path_view c.args.place.now) c.args.gone.now c.loop-element.element-index c.element-item.result c.args.cut.now c.loop-element.cut
    c.insert.new.self
    c.loop-element-test.true c.element-item.is c.loop-element.invariant (c.in_ok-insert.ensures.ok
    ∙ ap (λ g. insert g tt c.loop-element.cut) c.in_ok-path.ensures)
