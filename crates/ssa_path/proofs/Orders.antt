-- The order of elements tells them apart, and small laws of tests.
use Rattle.std.proofs.Common.{◌≡◌, Bool, true, false, ◌&&◌, ◌||◌, Ordering, Less, Equal, Greater, refl, sym, ap, true≢false}
use Rattle.std.specs.Cmp.{on_total, IsTotalOrder}
use Rattle.std.specs.Cmp.Lexicographic.{nat_list_cmp_total}
use Rattle.std.specs.Ordering.{is_eq, is_lt}
use Rattle.ssa_model.specs.definitions.Path.{element_text, element_cmp}

-- the order of elements is total
pub element_cmp_total : IsTotalOrder element_cmp
element_cmp_total = on_total element_text nat_list_cmp_total

-- what is below is not equal
pub not_tied : (o : Ordering) → is_lt o ≡ true → is_eq o ≡ false
not_tied Less e = refl
not_tied Equal e = absurd (true≢false (sym e))
not_tied Greater e = refl

-- where two tests pass, the first does
pub both_first : (a b : Bool) → (a && b) ≡ true → a ≡ true
both_first true b e = refl
both_first false b e = e

-- where two tests pass, the second does
pub both_second : (a b : Bool) → (a && b) ≡ true → b ≡ true
both_second true b e = e
both_second false b e = absurd (true≢false (sym e))

-- where the first test fails, not both pass
pub none_first : (b c : Bool) → b ≡ false → (b && c) ≡ false
none_first b c h = ap (λ x. x && c) h

-- whether one of three tests passes does not hang on how they are grouped
pub or_assoc : (a b c : Bool) → (a || (b || c)) ≡ ((a || b) || c)
or_assoc true b c = refl
or_assoc false b c = refl

-- whether all of three tests pass does not hang on how they are grouped
pub and_assoc : (a b c : Bool) → (a && (b && c)) ≡ ((a && b) && c)
and_assoc true b c = refl
and_assoc false b c = refl
