use Rattle.std.proofs.Common.{ap, sym, ◌∙◌}
use Rattle.std.proofs.lemmas.Result.{IfOk-weaker}
use Rattle.ssa_model.specs.definitions.Body.{removed}
use Rattle.ssa_merge.specs.Managers.{key_view}
use Rattle.ssa_merge.specs.States.{state_view}
use Rattle.ssa_merge.proofs.AppliedParts.{none-given-up}
use Rattle.ssa_merge.proofs.KeptPlaces.{above_gone, gone-are-free, left-with-pruned}
use Rattle.ssa_merge.proofs.given_up.lost.Goals as goal

pub returns-then-is_empty : goal.returns-then-is_empty
returns-then-is_empty c =
    c.new.ensures
    ∙ none-given-up (state_view c.args.state.now) (key_view c.args.key.now) c.args.config.now c.points_tell_places-2.ensures c.args.gone.now c.requires.gone
    (sym c.is_empty.ensures ∙ c.if-is_empty.true) c.points_tell_places.ensures

pub lost_with-requires-clause-free : goal.lost_with-requires-clause-free
lost_with-requires-clause-free c =
    let a = key_view c.args.key.now in
    gone-are-free (state_view c.args.state.now) a c.args.config.now c.args.gone.now c.in_ok-held.held c.requires.gone
    (c.in_ok-held.ensures ∙ ap (λ t. above_gone t a c.args.gone.now) c.entries.ensures.same)

pub returns : goal.returns
returns c =
    let state = state_view c.args.state.now in
    let a = key_view c.args.key.now in
    let config = c.args.config.now in
    IfOk-weaker c.lost_with.result _ _
    (λ s is. is
    ∙ ap (removed state.body) (left-with-pruned state a config c.args.gone.now c.in_ok-held.held c.requires.gone
    (c.in_ok-held.ensures ∙ ap (λ t. above_gone t a c.args.gone.now) c.entries.ensures.same)
    c.requires.owned c.points_tell_places.ensures c.points_tell_places-2.ensures c.parts_are_of_places.ensures c.parts_are_of_places-2.ensures))
    c.lost_with.ensures
