-- Rows whose tags differ do not repeat.
use Rattle.std.proofs.Common.{◌≡◌, ℕ, ◌+◌, List, [], ◌∷◌, map, Bool, true, false, ◌||◌, Some, None, refl, sym, ap, ◌∙◌, subst, true≢false}
use Rattle.std.specs.Prelude.{if◌then◌else◌}
use Rattle.std.specs.Cmp.{Equal-is, nat_cmp_total, tied_itself}
use Rattle.std.specs.List.{list_any, AllByRecursion, IsDistinct}
use Rattle.std.specs.List.Sorted.{IsPermutation, IsStrictlyIncreasing}
use Rattle.std.specs.Ordering.{eq_by_cmp, is_eq, nat_cmp}
use Rattle.std.proofs.lemmas.Cmp.{eq_by_cmp_equiv}
use Rattle.std.proofs.lemmas.List.Sorted.{IsPermutation-sym}
use Rattle.std.proofs.lemmas.Map.Keys.{IsDistinct-IsPermutation, IsDistinct-from_sorted, sorted_from_strictly_increasing}
use Rattle.ssa_schema.specs.Repeats.{Row, key_tag, row_cmp, row_view, same_row, repeat_from}
use Rattle.ssa_schema.specs.declared.fit.item_key.ItemKey.{ItemKey}
use Rattle.ssa_schema.specs.Tags.{row_tag}
use Rattle.ssa_schema.proofs.Rows.{row-exact}

abbrev same_tag : ℕ → ℕ → Bool
same_tag = eq_by_cmp nat_cmp

-- rows that are one have one tag
apart : (x y : Row) → same_tag (row_tag x) (row_tag y) ≡ false → same_row y x ≡ false
apart x y h = elim (same_row y x) as (λ b. same_row y x ≡ b → b ≡ false) [
  | true ↦ λ e.
      let one : y ≡ x = row-exact y x ((Equal-is (row_cmp y x)).0 e) in
      absurd (true≢false (sym (ap is_eq (tied_itself nat_cmp_total (row_tag x))) ∙ ap (λ r. same_tag (row_tag x) (row_tag r)) (sym one) ∙ h))
  | false ↦ λ e. refl
] refl

-- none of these rows is one of those before
abbrev Clear : List Row → List Row → Type 0
Clear before = AllByRecursion (λ row. list_any (same_row row) before ≡ false)

clear-none : (xs : List Row) → Clear [] xs
clear-none [] = tt
clear-none (x ∷ xs) = (refl, clear-none xs)

-- nor where one more comes before them, whose tag none of them has
clear-more : (x : Row) (before xs : List Row) → AllByRecursion (λ tag. same_tag (row_tag x) tag ≡ false) (map row_tag xs)
    → Clear before xs → Clear (x ∷ before) xs
clear-more x before [] differ clear = tt
clear-more x before (y ∷ ys) differ clear =
    ((λ i. apart x y differ.0 i || clear.0 i), clear-more x before ys differ.1 clear.1)

never-repeats : (k : ℕ) (before xs : List Row) → Clear before xs → IsDistinct same_tag (map row_tag xs) → repeat_from same_row k before xs ≡ None
unfolding IsDistinct
never-repeats k before [] clear differ = refl
never-repeats k before (x ∷ xs) clear differ =
    ap (λ b. if b then Some k else repeat_from same_row (k + 1) (x ∷ before) xs) clear.0
    ∙ never-repeats (k + 1) (x ∷ before) xs (clear-more x before xs differ.0 clear.1) differ.1

tags-of-rows : (ks : List ItemKey) → map key_tag ks ≡ map row_tag (map row_view ks)
tags-of-rows [] = refl
tags-of-rows (k ∷ ks) = ap (λ ts. key_tag k ∷ ts) (tags-of-rows ks)

-- where the keys' tags rise once they are put in order, no key repeats
pub rising-tags : (ks : List ItemKey) (sorted : List ℕ) → IsPermutation (map key_tag ks) sorted → IsStrictlyIncreasing sorted
    → repeat_from same_row 0 [] (map row_view ks) ≡ None
rising-tags ks sorted moved rise =
    let differ = IsDistinct-from_sorted nat_cmp sorted (sorted_from_strictly_increasing sorted rise) in
    let tags = IsDistinct-IsPermutation same_tag (eq_by_cmp_equiv nat_cmp_total).symm sorted (map key_tag ks)
    (IsPermutation-sym (map key_tag ks) sorted moved) differ in
    never-repeats 0 [] (map row_view ks) (clear-none (map row_view ks)) (subst (IsDistinct same_tag) (tags-of-rows ks) tags)
