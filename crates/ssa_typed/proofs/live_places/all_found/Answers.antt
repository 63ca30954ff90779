use Rattle.std.proofs.Common.{◌≡◌, subst, true}
use Rattle.std.specs.Prelude.{is_some}
use Rattle.std.specs.List.{All}
use Rattle.std.proofs.lemmas.List.{take_all}
use Rattle.ssa_typed.proofs.LivePlaces.{found-on}
use Rattle.ssa_typed.proofs.live_places.all_found.Goals as goal

pub loop-place-preserved : goal.loop-place-preserved
loop-place-preserved c = found-on c.args.places.now c.loop-place.place-index c.loop-place-test.true c.if-is_none.ensures c.loop-place.invariant

pub returns : goal.returns
returns c = λ _. subst (All (λ o. is_some o ≡ true)) (take_all c.loop-place.place-index c.args.places.now c.loop-place-test.false) c.loop-place.invariant
