-- Tests: told by their value, tests of equality, and what a filter keeps by a test.
use Rattle.std.proofs.Common.{◌≡◌, List, [], ◌∷◌, Bool, true, false, cond, ◌&&◌, T, refl, sym, ap, ◌∙◌, true≢false}
use Rattle.std.specs.Prelude.{filter}
use Rattle.std.specs.Cmp.{first_so, second_so}
use Rattle.std.specs.Cmp.Lexicographic.{pointwise}

-- by the value of a test
pub by_test : {A : Type 0} (b : Bool) → (b ≡ true → A) → (b ≡ false → A) → A
by_test true t f = t refl
by_test false t f = f refl

-- tests of which each tells the other answer alike
pub same_tests : (s t : Bool) → (s ≡ true → t ≡ true) → (t ≡ true → s ≡ true) → s ≡ t
same_tests true t f g = sym (f refl)
same_tests false true f g = g refl
same_tests false false f g = refl

-- a test that is known to hold passes
pub holds : (b : Bool) → T b → b ≡ true
holds true h = refl
holds false h = absurd h

-- and one that passes is known to hold
pub held : (b : Bool) → b ≡ true → T b
held true e = tt
held false e = absurd (true≢false (sym e))

module _ {A : Type 0} (same : A → A → Bool) (is : (x y : A) → same x y ≡ true → x ≡ y) where
  -- a test of equality answers alike both ways
  pub symmetric : (x y : A) → same x y ≡ same y x
  symmetric x y =
      by_test (same x y)
      (λ t. ap (λ z. same z y) (is x y t) ∙ ap (λ z. same y z) (sym (is x y t)))
      (λ f. by_test (same y x) (λ t. ap (λ z. same z y) (sym (is y x t)) ∙ ap (λ z. same y z) (is y x t)) (λ g. f ∙ sym g))

  -- the test of two lists, element by element, is one too
  pub pointwise-true : (xs ys : List A) → pointwise same xs ys ≡ true → xs ≡ ys
  pointwise-true [] [] h = refl
  pointwise-true [] (y ∷ ys) h = absurd (true≢false (sym h))
  pointwise-true (x ∷ xs) [] h = absurd (true≢false (sym h))
  pointwise-true (x ∷ xs) (y ∷ ys) h = λ i. is x y (first_so (same x y) (pointwise same xs ys) h) i
      ∷ pointwise-true xs ys (second_so (same x y) (pointwise same xs ys) h) i

-- a test that each element passes with itself, each list passes with itself
pub pointwise-itself : {A : Type 0} (same : A → A → Bool) → ((x : A) → same x x ≡ true) → (xs : List A) → pointwise same xs xs ≡ true
pointwise-itself same itself [] = refl
pointwise-itself same itself (x ∷ xs) = λ i. itself x i && pointwise-itself same itself xs i

-- ---- what a filter keeps

-- where all pass, all are kept
pub filter-all : {A : Type 0} (test : A → Bool) → ((x : A) → test x ≡ true) → (xs : List A) → filter test xs ≡ xs
filter-all test all [] = refl
filter-all test all (x ∷ xs) = λ i. cond (all x i) (x ∷ filter-all test all xs i) (filter-all test all xs i)

module _ {A : Type 0} (test : A → Bool) (x : A) (xs : List A) where
  -- a first element that passes is kept in front
  pub filter-kept : test x ≡ true → filter test (x ∷ xs) ≡ x ∷ filter test xs
  filter-kept h = ap (λ b. cond b (x ∷ filter test xs) (filter test xs)) h

  -- a first element that fails is dropped
  pub filter-dropped : test x ≡ false → filter test (x ∷ xs) ≡ filter test xs
  filter-dropped h = ap (λ b. cond b (x ∷ filter test xs) (filter test xs)) h
