use Rattle.std.proofs.Common.{sym, ◌∙◌}
use Rattle.ssa_path.specs.View.{element_view}
use Rattle.ssa_typed.proofs.SortedOut.{place-at}
use Rattle.ssa_typed.proofs.merged_order.Places.find_near.Goals as goal

pub returns-then-is_same : goal.returns-then-is_same
returns-then-is_same c =
    place-at (element_view c.args.element.now) c.args.live.now c.args.near c.index-live-near.result c.requires.apart c.if-near-live.true
    (sym c.is_same.ensures ∙ c.if-is_same.true)
