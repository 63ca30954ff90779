use Rattle.std.proofs.Common.{rules}
use Rattle.std.proofs.lemmas.List.Sorted.{answers_always}
use Rattle.ssa_typed.proofs.LivePlaces.{none-found}
use Rattle.ssa_typed.proofs.live_places.numbered_place.Goals as goal

pub returns-in-Err : goal.returns-in-Err
returns-in-Err c =
    none-found c.args.numbered.now c.args.number c.in-Err.field-0 c.requires
    (c.in-Err.ensures.position (λ p. p.0) (answers_always _ _ _ (λ f a r g called. search rules)))
