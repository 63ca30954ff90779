use Rattle.std.proofs.Common.{sym, ◌∙◌}
use Rattle.ssa_path.specs.View.{element_view}
use Rattle.ssa_typed.proofs.SortedOut.{place-at}
use Rattle.ssa_typed.proofs.live_places.stands_at.Goals as goal

pub returns-then-place-live : goal.returns-then-place-live
returns-then-place-live c = λ same.
    place-at (element_view c.args.element.now) c.args.live.now c.args.place c.index-live-place.result c.requires c.if-place-live.true
    (sym c.is_same.ensures ∙ same)
