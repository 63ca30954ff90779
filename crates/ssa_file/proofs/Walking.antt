-- The steps along which a history goes.
use Rattle.std.proofs.Common.{◌≡◌, ℕ, zero, suc, ◌+◌, ◌<◌, List, [], ◌∷◌, length, drop, slice_get, Some, refl, ap, ◌∙◌, arith}
use Rattle.std.proofs.lemmas.List.{drop_more}
use Rattle.std.proofs.lemmas.Option.{get_or_from_slice_get, slice_get_within}
use Rattle.ssa_model.specs.definitions.History.{Step}

-- what is left from a step on
pub left-from : (ss : List Step) (n : ℕ) (s : Step) → slice_get ss n ≡ Some s → drop n ss ≡ s ∷ drop (n + 1) ss
left-from ss n s here = drop_more ss n s (slice_get_within ss n s here) ∙ ap (λ x. x ∷ drop (n + 1) ss) (get_or_from_slice_get ss n s s here)

-- there is a step at each place
pub step-there : (ss : List Step) (n : ℕ) → n < length ss → (s : Step) × (slice_get ss n ≡ Some s)
step-there [] n h = absurd (omega (arith, h))
step-there (s ∷ ss) zero h = (s, refl)
step-there (s ∷ ss) (suc n) h = step-there ss n (omega (arith, h))
