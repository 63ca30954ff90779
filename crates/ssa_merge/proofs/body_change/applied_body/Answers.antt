use Rattle.std.proofs.Common.{◌∙◌}
use Rattle.ssa_model.specs.definitions.Operations.{pruned}
use Rattle.ssa_merge.specs.Managers.{key_view}
use Rattle.ssa_merge.specs.States.{state_view}
use Rattle.ssa_merge.proofs.AppliedParts.{applied-pruned, applied-rooted, lost-there, places-told, pruned-may-go}
use Rattle.ssa_merge.proofs.body_change.applied_body.Goals as goal

pub returns-then-together-lt18446744073709551615-clause-body : goal.returns-then-together-lt18446744073709551615-clause-body
returns-then-together-lt18446744073709551615-clause-body c =
    applied-pruned (state_view c.args.state.now) (key_view c.args.key.now) c.args.config c.points_tell_places-2.ensures c.args.gone.now c.requires.gone
    c.parts_are_of_places.ensures c.parts_are_of_places-2.ensures

pub returns-then-together-lt18446744073709551615-clause-stands : goal.returns-then-together-lt18446744073709551615-clause-stands
returns-then-together-lt18446744073709551615-clause-stands c =
    let state = state_view c.args.state.now in
    let a = key_view c.args.key.now in (
      c.requires.alike,
      pruned-may-go state a c.args.config c.points_tell_places-2.ensures c.args.gone.now c.requires.gone,
      applied-rooted state a c.args.config c.points_tell_places-2.ensures c.args.gone.now c.requires.gone c.parts_are_of_places.ensures
          c.parts_are_of_places-2.ensures c.points_tell_places.ensures c.requires.alike c.stands_rooted.ensures c.stands_rooted-2.ensures c.requires.owned,
      c.requires.order c.if-in_order.true,
    )

pub laid_over-requires-clause-gone : goal.laid_over-requires-clause-gone
laid_over-requires-clause-gone c =
    pruned-may-go (state_view c.args.state.now) (key_view c.args.key.now) c.args.config c.points_tell_places-2.ensures c.args.gone.now c.requires.gone

pub laid_over-requires-clause-rooted : goal.laid_over-requires-clause-rooted
laid_over-requires-clause-rooted c =
    applied-rooted (state_view c.args.state.now) (key_view c.args.key.now) c.args.config c.points_tell_places-2.ensures c.args.gone.now c.requires.gone
    c.parts_are_of_places.ensures c.parts_are_of_places-2.ensures c.points_tell_places.ensures c.requires.alike c.stands_rooted.ensures
    c.stands_rooted-2.ensures c.requires.owned

pub returns-clause-body : goal.returns-clause-body
returns-clause-body c =
    c.in_ok-body.ensures
    ∙ applied-pruned (state_view c.args.state.now) (key_view c.args.key.now) c.args.config c.points_tell_places-2.ensures c.args.gone.now c.requires.gone
    c.parts_are_of_places.ensures c.parts_are_of_places-2.ensures

pub returns-then-together-lt18446744073709551615-clause-places : goal.returns-then-together-lt18446744073709551615-clause-places
returns-then-together-lt18446744073709551615-clause-places c =
    let live = c.args.state.now.body in
    let after = pruned (state_view c.args.state.now) (key_view c.args.key.now) c.args.config in
    places-told live c.args.config c.args.gone.now (lost-there live after c.args.gone.now c.requires.gone) c.size.result c.args.new_places
    c.saturating_add-together.result c.len.result c.saturating_sub.result c.requires.brings c.size.ensures c.saturating_add-together.ensures
    c.if-together-lt18446744073709551615.true c.len.ensures c.saturating_sub.ensures
