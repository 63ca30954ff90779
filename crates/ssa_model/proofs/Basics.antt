-- Lemmas of truth values, options, numbers and orders, for all proofs of the workspace.
use Rattle.std.proofs.Common.{◌≡◌, ℕ, ◌≤◌, List, ◌∷◌, Bool, true, false, not, ◌&&◌, ◌||◌, cond, Option, Some, None, Ordering, refl, sym, ap, ◌∙◌, arith, true≢false}
use Rattle.std.proofs.lemmas.Bool.Decides.{nat_tests}
use Rattle.std.specs.Prelude.{nat_lt, nat_le, is_some}
use Rattle.std.specs.Ordering.{is_eq, is_lt, ordering_then, ordering_reverse}
use Rattle.std.specs.declared.cmp.Ordering.TheVariants.{Less, Equal, Greater}

-- ---- truth values

-- and with what holds
pub and-true : (a : Bool) → (a && true) ≡ a
and-true true = refl
and-true false = refl

-- and with what does not hold
pub and-false : (a : Bool) → (a && false) ≡ false
and-false true = refl
and-false false = refl

-- or with what does not hold
pub or-false : (b : Bool) → (b || false) ≡ b
or-false true = refl
or-false false = refl

-- the first two of three change places
pub or_swap : (a b c : Bool) → (a || (b || c)) ≡ (b || (a || c))
or_swap true true c = refl
or_swap true false c = refl
or_swap false b c = refl

-- what is said twice is said once
pub or_twice : (a b : Bool) → (a || b) ≡ (a || (a || b))
or_twice true b = refl
or_twice false b = refl

-- what is not false is true
pub not_false : (b : Bool) → not b ≡ false → b ≡ true
not_false true e = refl
not_false false e = sym e

-- what is not true is false
pub not_true : (s : Bool) → not s ≡ true → s ≡ false
not_true true e = absurd (true≢false (sym e))
not_true false e = refl

-- one of two holds where the second does
pub or_true : (s t : Bool) → t ≡ true → (s || t) ≡ true
or_true true t e = refl
or_true false t e = e

-- two hold together
pub both-true : (a b : Bool) → a ≡ true → b ≡ true → (a && b) ≡ true
both-true a b e f = λ i. e i && f i

-- where neither holds, the first does not
pub first_false : (s t : Bool) → (s || t) ≡ false → s ≡ false
first_false true t e = e
first_false false t e = refl

-- where neither holds, the second does not
pub second_false : (s t : Bool) → (s || t) ≡ false → t ≡ false
second_false true t e = absurd (true≢false e)
second_false false t e = e

-- and spreads over or
pub spread : (i a b : Bool) → ((i && a) || (i && b)) ≡ (i && (a || b))
spread true a b = refl
spread false a b = refl

-- what is lost of one and gained of the other gives the other
pub there_and_back : (a b : Bool) → ((a && not (a && not b)) || (b && not a)) ≡ b
there_and_back true true = refl
there_and_back true false = refl
there_and_back false true = refl
there_and_back false false = refl

-- nothing is true and false
pub yes_no : {A : Type 0} (b : Bool) → b ≡ true → b ≡ false → A
yes_no b t f = absurd (true≢false (sym t ∙ f))

-- ---- options

-- what is not there is none
pub none-there : {X : Type 0} (o : Option X) → is_some o ≡ false → o ≡ None
none-there None e = refl
none-there (Some x) e = absurd (true≢false e)

-- what is there is not none
pub some≢none : {A : Type 0} (x : A) → ◌≡◌ {A = Option A} (Some x) None → ⊥
some≢none x e = true≢false (ap is_some e)

-- the same options have the same in them
pub some-same : {A : Type 0} (x y : A) → ◌≡◌ {A = Option A} (Some x) (Some y) → x ≡ y
some-same x y e = ap (λ o. elim o [ None ↦ x | Some z ↦ z ]) e

-- one that is there, or another one
pub some_or : (b : Bool) (o : Option (Unit {0})) → is_some (cond b (Some tt) o) ≡ (b || is_some o)
some_or true o = refl
some_or false o = refl

-- ---- numbers

-- no more is not less
pub at_most : (m n : ℕ) → n ≤ m → nat_lt m n ≡ false
at_most m n h = grind (arith, nat_tests)

-- a test that was passed
pub le-of : (a b : ℕ) → nat_le a b ≡ true → a ≤ b
le-of a b h = grind (arith, nat_tests)

-- a test that is passed
pub nat_le-of : (a b : ℕ) → a ≤ b → nat_le a b ≡ true
nat_le-of a b h = grind (arith, nat_tests)

-- the same lists go on with the same
pub same-tails : (x y : ℕ) (u v : List ℕ) → x ∷ u ≡ y ∷ v → u ≡ v
same-tails x y u v e = cc

-- ---- orders

-- an order that nothing follows is equal where it was
pub then_equal : (o : Ordering) → is_eq (ordering_then o Equal) ≡ is_eq o
then_equal Less = refl
then_equal Equal = refl
then_equal Greater = refl

-- an order that a greater one follows is never equal
pub then_greater : (o : Ordering) → is_eq (ordering_then o Greater) ≡ false
then_greater Less = refl
then_greater Equal = refl
then_greater Greater = refl

-- two orders are equal one after the other where both are
pub then_both : (o q : Ordering) → is_eq (ordering_then o q) ≡ (is_eq o && is_eq q)
then_both Less q = refl
then_both Equal q = refl
then_both Greater q = refl

-- an order that nothing follows
pub then_none : (o : Ordering) → ordering_then o Equal ≡ o
then_none Less = refl
then_none Equal = refl
then_none Greater = refl

-- an order turned round is equal where it was
pub reversed : (o : Ordering) → is_eq (ordering_reverse o) ≡ is_eq o
reversed Less = refl
reversed Equal = refl
reversed Greater = refl

-- what is tested as less is less
pub lower : (o : Ordering) → is_lt o ≡ true → o ≡ Less
lower Less e = refl
lower Equal e = absurd (true≢false (sym e))
lower Greater e = absurd (true≢false (sym e))
