use Rattle.std.proofs.Common.{subst}
use Rattle.std.specs.List.{All}
use Rattle.std.proofs.lemmas.List.{take_all}
use Rattle.ssa_path.specs.SortKeys.{BeginsWith}
use Rattle.ssa_path.specs.View.{element_view}
use Rattle.ssa_path.proofs.LeadingTexts.{begins-more}
use Rattle.ssa_path.proofs.sort_key.shared_start.Goals as goal

pub loop-child-preserved : goal.loop-child-preserved
loop-child-preserved g c =
    begins-more (element_view c.args.first.now) c.args.children.now c.loop-child.child-index c.child-item.result c.loop-child.start.now
    c.in_ok-start-2.start.now c.loop-child-test.true c.child-item.is c.loop-child.invariant
    c.in_ok-start-2.ensures

pub returns : goal.returns
returns g c =
    subst (All (λ d. BeginsWith c.loop-child.start.now (element_view c.args.first.now) (element_view d.0)))
    (take_all c.loop-child.child-index c.args.children.now c.loop-child-test.false) c.loop-child.invariant
