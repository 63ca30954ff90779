-- The order of texts by their bytes, part by part.
use Rattle.std.proofs.Common.{◌≡◌, ℕ, List, [], ◌∷◌, ◌++◌, Ordering, Less, Equal, Greater, refl, sym}
use Rattle.std.specs.Ordering.{nat_cmp, ordering_then}
use Rattle.std.specs.Cmp.Lexicographic.{slice_cmp}
use Rattle.std.specs.FinMap.{nat_cmp-IsAntisymmetric}
use Rattle.ssa_model.proofs.Basics.{same-tails as tails}

-- texts in the order of their bytes
abbrev pub text_cmp : List ℕ → List ℕ → Ordering
text_cmp = slice_cmp nat_cmp

-- whatever follows them, the texts agree only where these beginnings are one
abbrev pub AreWords : List ℕ → List ℕ → Type 0
AreWords a b = (r s : List ℕ) → a ++ r ≡ b ++ s → a ≡ b

none_first : (y : ℕ) (b : List ℕ) → [] ≡ y ∷ b → ⊥
none_first y b e = cc

either : (o q p r : Ordering) → (o ≡ Equal → q ≡ ordering_then p r) → ordering_then o q ≡ ordering_then (ordering_then o p) r
either Less q p r h = refl
either Equal q p r h = h refl
either Greater q p r h = refl

-- words decide, and what follows them after
pub cmp-words : (a b r s : List ℕ) → AreWords a b → text_cmp (a ++ r) (b ++ s) ≡ ordering_then (text_cmp a b) (text_cmp r s)
cmp-words [] [] r s h = refl
cmp-words [] (y ∷ b) r s h = absurd (none_first y b (h ((y ∷ b) ++ s) s refl))
cmp-words (x ∷ a) [] r s h = absurd (none_first x a (sym (h r ((x ∷ a) ++ r) refl)))
cmp-words (x ∷ a) (y ∷ b) r s h =
    either (nat_cmp x y) (text_cmp (a ++ r) (b ++ s)) (text_cmp a b) (text_cmp r s) (λ e.
    let same : x ≡ y = nat_cmp-IsAntisymmetric x y e in
    cmp-words a b r s (λ u v q. tails x y a b (h u v (λ i. same i ∷ q i))))
