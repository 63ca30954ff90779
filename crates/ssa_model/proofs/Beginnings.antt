-- Beginnings of paths, what follows them, and the first beginning that a body has not.
use Rattle.std.proofs.Common.{◌≡◌, [], ◌∷◌, ◌++◌, Bool, true, false, ◌&&◌, Some, None, refl, sym, ap, ◌∙◌, true≢false}
use Rattle.std.proofs.lemmas.Option.{none-some, same_Some}
use Rattle.std.specs.Cmp.{first_so, second_so}
use Rattle.std.specs.Prelude.{if◌then◌else◌}
use Rattle.ssa_model.specs.definitions.Path.{Element, Path, same_element, under, parent, rest_of, last_element}
use Rattle.ssa_model.proofs.Fitting.{same_element-true}
use Rattle.ssa_model.proofs.Tables.{element-itself}
use Rattle.ssa_model.proofs.Basics.{yes_no}
use Rattle.ssa_model.proofs.Tests.{by_test}

-- ---- what follows a beginning

-- a beginning of a path, and what follows it there, are the path
pub rest_of-is : (g q r : Path) → rest_of g q ≡ Some r → g ++ r ≡ q
rest_of-is [] q r h = sym (same_Some q r h)
rest_of-is (e ∷ g) [] r h = absurd (none-some r h)
rest_of-is (e ∷ g) (f ∷ q) r h =
    by_test (same_element e f)
    (λ t. let rest = rest_of-is g q r (sym (ap (λ b. if b then rest_of g q else None) t) ∙ h) in λ i. same_element-true e f t i ∷ rest i)
    (λ k. absurd (none-some r (sym (ap (λ b. if b then rest_of g q else None) k) ∙ h)))

-- of two paths in a row, what follows the first is the second
pub rest_of-append : (g r : Path) → rest_of g (g ++ r) ≡ Some r
rest_of-append [] r = refl
rest_of-append (e ∷ g) r = ap (λ b. if b then rest_of g (g ++ r) else None) (element-itself e) ∙ rest_of-append g r

-- where a path is under another, something follows that one in it
pub rest_of-under : (g q : Path) → under g q ≡ true → (r : Path) × (rest_of g q ≡ Some r)
rest_of-under [] q h = (q, refl)
rest_of-under (e ∷ g) [] h = absurd (true≢false (sym h))
rest_of-under (e ∷ g) (f ∷ q) h =
    let rest = rest_of-under g q (second_so (same_element e f) (under g q) h) in
    (rest.0, ap (λ b. if b then rest_of g q else None) (first_so (same_element e f) (under g q) h) ∙ rest.1)

-- ---- the last element

-- the parent of a path with one element more is the path
pub parent-push : (q : Path) (e : Element) → parent (q ++ e ∷ []) ≡ q
parent-push [] e = refl
parent-push (f ∷ []) e = refl
parent-push (f ∷ g ∷ q) e = ap (λ p. f ∷ p) (parent-push (g ∷ q) e)

-- the last element of a path with one element more is this element
pub last-push : (q : Path) (e : Element) → last_element (q ++ e ∷ []) ≡ Some e
last-push [] e = refl
last-push (f ∷ []) e = refl
last-push (f ∷ g ∷ q) e = last-push (g ∷ q) e

-- a path that has a last element is its parent with this element
pub parent-last : (g : Path) (e : Element) → last_element g ≡ Some e → g ≡ parent g ++ e ∷ []
parent-last [] e h = absurd (none-some e h)
parent-last (f ∷ []) e h = ap (λ x. x ∷ []) (same_Some f e h)
parent-last (f ∷ g ∷ p) e h = ap (λ q. f ∷ q) (parent-last (g ∷ p) e h)

-- ---- the first beginning without

-- a beginning of the path that fails the test while its parent passes
abbrev pub Departs : (Path → Bool) → Path → Type 0
Departs h q = (g : Path) × (under g q ≡ true) × (h g ≡ false) × (h (parent g) ≡ true)

parent_below : (e : Element) (h : Path → Bool) (p : Path) → h (e ∷ []) ≡ true → h (e ∷ p) ≡ false → h (e ∷ parent p) ≡ true → h (parent (e ∷ p)) ≡ true
parent_below e h [] here off up = yes_no (h (e ∷ [])) here off
parent_below e h (f ∷ p) here off up = up

-- where the root passes a test and a path fails it, the path has such a beginning
pub departs : (h : Path → Bool) (q : Path) → h [] ≡ true → h q ≡ false → Departs h q
departs h [] r off = yes_no (h []) r off
departs h (e ∷ q) r off =
    by_test (h (e ∷ []))
    (λ t.
    let d = departs (λ s. h (e ∷ s)) q t off in
    (e ∷ d.0, (λ i. element-itself e i && d.1 i), d.2, parent_below e h d.0 t d.2 d.3))
    (λ f. (e ∷ [], (λ i. element-itself e i && true), f, r))
