-- That a set has only ownable paths where none is found that is not.
use Rattle.std.proofs.Common.{◌≡◌, List, [], ◌∷◌, true, false, not, ◌&&◌, Some, None, refl, sym, ap, ◌∙◌}
use Rattle.std.proofs.lemmas.Option.{none-some, same_Some}
use Rattle.std.specs.Cmp.{first_so, second_so}
use Rattle.ssa_model.specs.definitions.Body.{Body, is_ownable}
use Rattle.ssa_model.specs.definitions.GivenEntries.{not_ownable}
use Rattle.ssa_model.specs.definitions.Path.{Path, same_path}
use Rattle.ssa_model.specs.definitions.PathMap.{PathSet, has, paths}
use Rattle.ssa_model.specs.definitions.Valid.{OwnedOwnable}
use Rattle.ssa_model.proofs.PathMaps.{has-paths, is_one_of, same_path-itself}
use Rattle.ssa_model.proofs.Lists.{is_one_of-filter}
use Rattle.ssa_model.proofs.Tables.{true_or}
use Rattle.ssa_model.proofs.Tests.{by_test}
use Rattle.ssa_merge.specs.EntryReading.{first_of}
use Rattle.ssa_model.proofs.Basics.{not_true as no, yes_no}

first-in : (ps : List Path) (p : Path) → first_of ps ≡ Some p → is_one_of ps p ≡ true
first-in [] p h = absurd (none-some p h)
first-in (q ∷ ps) p h = true_or (same_path p q) (is_one_of ps p) (ap (same_path p) (same_Some q p h) ∙ same_path-itself p)

none-in : (ps : List Path) (p : Path) → first_of ps ≡ None → is_one_of ps p ≡ false
none-in [] p h = refl
none-in (q ∷ ps) p h = absurd (none-some q (sym h))

module _ (b : Body) (s : PathSet) where
  -- those that nobody can own
  not-here : (p : Path) → is_one_of (not_ownable b s) p ≡ (has s p && not (is_ownable b p))
  not-here p = is_one_of-filter (λ q. not (is_ownable b q)) (paths s) p ∙ ap (λ t. t && not (is_ownable b p)) (sym (has-paths s p))

  -- none is found
  pub all-ownable : first_of (not_ownable b s) ≡ None → OwnedOwnable b s
  all-ownable h p there =
      by_test (is_ownable b p) (λ t. t) (λ f. yes_no (is_one_of (not_ownable b s) p) (not-here p ∙ (λ i. there i && not (f i))) (none-in (not_ownable b s) p h))

  -- one is found
  pub one-not : (p : Path) → first_of (not_ownable b s) ≡ Some p → OwnedOwnable b s → ⊥
  one-not p h all =
      let one = sym (not-here p) ∙ first-in (not_ownable b s) p h in
      yes_no (is_ownable b p) (all p (first_so (has s p) (not (is_ownable b p)) one)) (no (is_ownable b p) (second_so (has s p) (not (is_ownable b p)) one))
