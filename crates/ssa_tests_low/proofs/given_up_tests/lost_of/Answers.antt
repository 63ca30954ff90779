use Rattle.std.proofs.Common.{◌≡◌, true, not, ap, sym, ◌∙◌}
use Rattle.ssa_model.specs.definitions.Body.{Body}
use Rattle.ssa_model.specs.definitions.PathMap.{PathSet, has, has_at_or_below, paths, same_set, set_of}
use Rattle.ssa_model.proofs.Basics.{not_true}
use Rattle.ssa_model.proofs.PathMaps.{same_set-true}
use Rattle.ssa_typed.specs.LostWith.{AreFree}
use Rattle.ssa_typed.proofs.LostPlaces.{passed}
use Rattle.ssa_tests_low.proofs.given_up_tests.lost_of.Goals as goal

-- where all the paths given up are among those that nobody holds and the configuration lacks, it is free of them
all-free : (config : Body) (gone held unheld free : PathSet) → unheld ≡ set_of (paths gone) (λ p. not (has_at_or_below held p))
    → free ≡ set_of (paths unheld) (λ p. not (has config p)) → same_set free gone ≡ true → AreFree config gone held
all-free config gone held unheld free unheld_is free_is same g going =
    let lacked = passed unheld (λ p. not (has config p)) g (sym (ap (λ s. has s g) free_is) ∙ (ap (λ s. has s g) (same_set-true free gone same) ∙ going)) in
    let kept = passed gone (λ p. not (has_at_or_below held p)) g (sym (ap (λ s. has s g) unheld_is) ∙ lacked.0) in
    (not_true (has config g) lacked.1, not_true (has_at_or_below held g) kept.1)

pub lost_with-requires-clause-free : goal.lost_with-requires-clause-free
lost_with-requires-clause-free c =
    all-free c.args.config.now c.args.gone.now c.args.held.now c.in_ok-unheld.unheld c.in_ok-free.free c.in_ok-unheld.ensures c.in_ok-free.ensures
    (sym c.is_same.ensures ∙ c.if-not-is_same.false)

pub returns-clause-free : goal.returns-clause-free
returns-clause-free c =
    all-free c.args.config.now c.args.gone.now c.args.held.now c.in_ok-unheld.unheld c.in_ok-free.free c.in_ok-unheld.ensures c.in_ok-free.ensures
    (sym c.is_same.ensures ∙ c.if-not-is_same.false)
