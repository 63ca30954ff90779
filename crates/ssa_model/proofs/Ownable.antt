-- Which paths of a body can be owned: all but its root and `metadata`.
use Rattle.std.proofs.Common.{◌≡◌, [], ◌∷◌, Bool, false, not, ◌&&◌, ◌||◌, refl, sym, ap, ◌∙◌}
use Rattle.std.specs.Prelude.{codes}
use Rattle.std.specs.declared.cmp.Ordering.{Ordering}
use Rattle.std.specs.declared.cmp.Ordering.TheVariants.{Less, Equal, Greater}
use Rattle.std.specs.Ordering.{is_eq, nat_cmp, ordering_then}
use Rattle.std.specs.Cmp.Lexicographic.{slice_cmp}
use Rattle.ssa_model.specs.definitions.Path.{Path, field, key, value, same_path}
use Rattle.ssa_model.specs.definitions.PathMap.{has}
use Rattle.ssa_model.specs.definitions.Body.{Body, is_ownable}
use Rattle.ssa_model.specs.definitions.Valid.{metadata_path}
use Rattle.ssa_model.proofs.Basics.{and-true, and-false}

-- the path is the root or `metadata`, which nobody may own
abbrev pub is_never : Path → Bool
is_never p = same_path p metadata_path || (same_path p [] || false)

only-metadata : (o : Ordering) → (is_eq (ordering_then o Equal) || (false || false)) ≡ is_eq o
only-metadata Less = refl
only-metadata Equal = refl
only-metadata Greater = refl

not-longer : (o : Ordering) → (is_eq (ordering_then o Greater) || (false || false)) ≡ false
not-longer Less = refl
not-longer Equal = refl
not-longer Greater = refl

-- a path can be owned exactly where the body has it and it is neither of these
pub ownable-is : (b : Body) (p : Path) → is_ownable b p ≡ (has b p && not (is_never p))
ownable-is b [] = sym (and-false (has b []))
ownable-is b (field n ∷ []) = ap (λ t. has b (field n ∷ []) && not t) (sym (only-metadata (slice_cmp nat_cmp n (codes "metadata"))))
ownable-is b (field n ∷ e ∷ p) = sym (ap (λ t. has b (field n ∷ e ∷ p) && not t) (not-longer (slice_cmp nat_cmp n (codes "metadata")))
    ∙ and-true (has b (field n ∷ e ∷ p)))
ownable-is b (key ks ∷ p) = sym (and-true (has b (key ks ∷ p)))
ownable-is b (value s ∷ p) = sym (and-true (has b (value s ∷ p)))
