use Rattle.std.proofs.Common.{Vec, Global, ℕ, ap, sym, ◌∙◌, ◌++◌, ◌∷◌, []}
use Rattle.ssa_turn_body.proofs.Missing.{as-some}
use Rattle.ssa_turn_body.proofs.Matching.{told-more, told-none}
use Rattle.ssa_turn_body.proofs.found.told_places.Goals as goal
use Rattle.ssa_turn_body.proofs.found.told_places.Goals.{in-Some+in_ok-push-in-Some, in-None}

pub loop-i-preserved : goal.loop-i-preserved
loop-i-preserved c =
    let fs = c.args.found.now in
    let i = c.loop-i.i in
    elim c.match-found-i.branch [
      | in-Some+in_ok-push-in-Some w ↦
          let k = w.in-Some.place in
          ap (λ (v : Vec ℕ Global). v.items) w.places-is ∙ w.in_ok-push-in-Some.ensures.items ∙ ap (λ xs. xs ++ k ∷ []) c.loop-i.invariant
          ∙ sym (told-more fs i k c.loop-i-test.true (as-some fs i k c.loop-i-test.true w.in-Some.is))
      | in-None w ↦ ap (λ (v : Vec ℕ Global). v.items) w.places-is ∙ c.loop-i.invariant ∙ sym (told-none fs i c.loop-i-test.true (sym w.in-None.is))
    ]
