-- The test of equality tells scalars apart.
use Rattle.std.proofs.Common.{◌≡◌, ℕ, ℤ, pos, negsuc, Bool, true, false, refl, sym, ap, subst, arith, true≢false}
use Rattle.std.specs.Prelude.{◌==◌, ◌↔◌, IsTrue}
use Rattle.std.proofs.lemmas.Bool.Decides.{nat_tests}
use Rattle.ssa_model.specs.definitions.Json.{Scalar, text, whole, truth, same_whole, same_truth, same_scalar}
use Rattle.ssa_model.proofs.Tables.{same_text-true, text-itself}

same_nat-true : (a b : ℕ) → (a == b) ≡ true → a ≡ b
same_nat-true a b e = grind (arith, nat_tests)

same_whole-true : (y z : ℤ) → same_whole y z ≡ true → y ≡ z
same_whole-true (pos a) (pos b) e = ap pos (same_nat-true a b e)
same_whole-true (pos a) (negsuc b) e = absurd (true≢false (sym e))
same_whole-true (negsuc a) (pos b) e = absurd (true≢false (sym e))
same_whole-true (negsuc a) (negsuc b) e = ap negsuc (same_nat-true a b e)

same_truth-true : (a b : Bool) → same_truth a b ≡ true → a ≡ b
same_truth-true true b e = sym e
same_truth-true false true e = absurd (true≢false (sym e))
same_truth-true false false e = refl

-- scalars that are told the same are one
pub same_scalar-true : (s t : Scalar) → same_scalar s t ≡ true → s ≡ t
same_scalar-true (text a) (text b) e = ap text (same_text-true a b e)
same_scalar-true (whole a) (whole b) e = ap whole (same_whole-true a b e)
same_scalar-true (truth a) (truth b) e = ap truth (same_truth-true a b e)
same_scalar-true (text a) (whole b) e = absurd (true≢false (sym e))
same_scalar-true (text a) (truth b) e = absurd (true≢false (sym e))
same_scalar-true (whole a) (text b) e = absurd (true≢false (sym e))
same_scalar-true (whole a) (truth b) e = absurd (true≢false (sym e))
same_scalar-true (truth a) (text b) e = absurd (true≢false (sym e))
same_scalar-true (truth a) (whole b) e = absurd (true≢false (sym e))

same_nat-itself : (a : ℕ) → (a == a) ≡ true
same_nat-itself a = grind (arith, nat_tests)

same_truth-itself : (a : Bool) → same_truth a a ≡ true
same_truth-itself true = refl
same_truth-itself false = refl

-- a scalar is told the same as itself
pub same_scalar-itself : (s : Scalar) → same_scalar s s ≡ true
same_scalar-itself (text t) = text-itself t
same_scalar-itself (whole (pos n)) = same_nat-itself n
same_scalar-itself (whole (negsuc n)) = same_nat-itself n
same_scalar-itself (truth b) = same_truth-itself b

-- so the test decides equality
pub same_scalar-decides : (s t : Scalar) → IsTrue (same_scalar s t) ↔ (s ≡ t)
same_scalar-decides s t = (same_scalar-true s t, λ e. subst (λ x. same_scalar s x ≡ true) e (same_scalar-itself s))
