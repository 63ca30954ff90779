-- The keys of items: their order, and their places while they are sorted.
use Rattle.std.proofs.Common.{◌≡◌, ℕ, suc, ◌+◌, ◌-◌, ◌<◌, List, [], ◌∷◌, ◌++◌, ◌≤◌, length, get_or, drop, take, map, Bool, true, false, ◌&&◌, ◌||◌, Some, None, Ordering, Less, Equal, Greater, refl, sym, ap, ap₂, ◌∙◌, arith, true≢false}
use Rattle.std.proofs.lemmas.List.{map-append, drop_all, take_all, take_more, length-map, length-take-le}
use Rattle.std.proofs.lemmas.List.Folds.{list_any-append}
use Rattle.std.specs.List.Sorted.{IsSortedBy, IsStableBy}
use Rattle.std.proofs.lemmas.Map.Lookups.{exact_unsigned}
use Rattle.std.specs.Prelude.{if◌then◌else◌}
use Rattle.std.specs.Borrow.{Bor}
use Rattle.std.specs.List.{list_any}
use Rattle.std.specs.Ordering.{is_eq, is_lt, nat_cmp, ordering_then}
use Rattle.std.specs.Cmp.{IsTotalOrder, Equal-is, nat_cmp_total, on_total, then_total, tied_itself}
use Rattle.std.specs.Cmp.Lexicographic.{lists_total, nat_list_cmp_total}
use Rattle.std.specs.FinMap.{slice_cmp-IsAntisymmetric}
use Rattle.ssa_model.specs.definitions.Json.{Scalar, same_scalar, scalar_text}
use Rattle.ssa_model.specs.definitions.Path.{value}
use Rattle.ssa_model.proofs.Texts.{same_element_same}
use Rattle.ssa_json.specs.View.{scalar_view}
use Rattle.ssa_json.specs.declared.value.Scalar as json
use Rattle.ssa_model.proofs.Scalars.{same_scalar-true, same_scalar-itself}
use Rattle.ssa_model.proofs.Tests.{same_tests}
use Rattle.ssa_model.proofs.Basics.{and-true, and-false, then_both}
use Rattle.ssa_path.proofs.Lists.{left-at, taken-at}
use Rattle.ssa_schema.specs.Tags.{row_tag}
use Rattle.ssa_schema.specs.Repeats.{Row, scalars_view, row_view, scalar_cmp, row_cmp, same_row, repeat_from, least_repeat, TaggedRow, tagged, tagged_view, tagged_cmp, same_tagged, placed_view}
use Rattle.ssa_schema.specs.declared.fit.item_key.ItemKey.{ItemKey}
use Rattle.ssa_schema.specs.declared.fit.tagged_key.TaggedKey.{TaggedKey}
use Rattle.ssa_schema.proofs.Repeats.{numbered, numbered-more, least-is-first}

-- the order of rows is total
pub row_cmp_total : IsTotalOrder row_cmp
row_cmp_total = lists_total (on_total scalar_text nat_list_cmp_total)

same-value : (a b : Scalar) → value a ≡ value b → a ≡ b
same-value a b e = cc

-- scalars that tie are one
pub scalar-exact : (a b : Scalar) → scalar_cmp a b ≡ Equal → a ≡ b
scalar-exact a b e = same-value a b (same_element_same (value a) (value b) e)

-- rows that tie are one
pub row-exact : (a b : Row) → row_cmp a b ≡ Equal → a ≡ b
row-exact = slice_cmp-IsAntisymmetric scalar-exact

-- scalars are the same where their order says so
same_scalars : (s t : Scalar) → same_scalar s t ≡ is_eq (scalar_cmp s t)
same_scalars s t =
    same_tests (same_scalar s t) (is_eq (scalar_cmp s t))
    (λ h. ap (λ r. is_eq (scalar_cmp s r)) (sym (same_scalar-true s t h)) ∙ ap is_eq (tied_itself (on_total scalar_text nat_list_cmp_total) s))
    (λ h. ap (same_scalar s) (sym (scalar-exact s t ((Equal-is (scalar_cmp s t)).0 h))) ∙ same_scalar-itself s)

-- rows are the same where their first scalars are, and their rests
same_rows : (s t : Scalar) (r q : Row) → (same_scalar s t && same_row r q) ≡ same_row (s ∷ r) (t ∷ q)
same_rows s t r q = ap (λ b. b && same_row r q) (same_scalars s t) ∙ sym (then_both (scalar_cmp s t) (row_cmp r q))

-- the same of lists of scalars that have a first one
pub same_lists : (xs ys : List (Bor json.Scalar)) (x y : Bor json.Scalar) → 1 ≤ length xs → 1 ≤ length ys → x ≡ get_or xs 0 x → y ≡ get_or ys 0 y
    → (same_scalar (scalar_view x.now) (scalar_view y.now)
    && same_row (scalars_view (take (length xs - 1) (drop 1 xs))) (scalars_view (take (length ys - 1) (drop 1 ys))))
    ≡ same_row (scalars_view xs) (scalars_view ys)
same_lists [] ys x y some some_other is is_other = absurd (omega arith)
same_lists (a ∷ xs) [] x y some some_other is is_other = absurd (omega arith)
same_lists (a ∷ xs) (b ∷ ys) x y some some_other is is_other =
    let rest : take (suc (length xs) - 1) xs ≡ xs = take_all (suc (length xs) - 1) xs (omega arith) in
    let others : take (suc (length ys) - 1) ys ≡ ys = take_all (suc (length ys) - 1) ys (omega arith) in
    (λ i. same_scalar (scalar_view (is i).now) (scalar_view (is_other i).now) && same_row (scalars_view (rest i)) (scalars_view (others i)))
    ∙ same_rows (scalar_view a.now) (scalar_view b.now) (scalars_view xs) (scalars_view ys)

pub same_rows_of_one : (s t : Scalar) → same_scalar s t ≡ same_row (s ∷ []) (t ∷ [])
same_rows_of_one s t = sym (and-true (same_scalar s t)) ∙ same_rows s t [] []

-- ---- rows behind their tags

-- the order of rows behind tags is total
pub tagged_cmp_total : IsTotalOrder tagged_cmp
tagged_cmp_total = then_total (on_total (λ (t : TaggedRow). t.0) nat_cmp_total) (on_total (λ (t : TaggedRow). t.1) row_cmp_total)

then-parts : (o q : Ordering) → ordering_then o q ≡ Equal → (o ≡ Equal) × (q ≡ Equal)
then-parts Less q e = absurd (true≢false (sym (ap is_eq e)))
then-parts Equal q e = (refl, e)
then-parts Greater q e = absurd (true≢false (sym (ap is_eq e)))

-- rows behind tags that tie are one, and their tags are
tagged-exact : (a b : TaggedRow) → tagged_cmp a b ≡ Equal → a ≡ b
tagged-exact a b e =
    let parts = then-parts (nat_cmp a.0 b.0) (row_cmp a.1 b.1) e in
    λ i. (exact_unsigned a.0 b.0 parts.0 i, row-exact a.1 b.1 parts.1 i)

-- rows behind their own tags are the same where the rows are
same-as-rows : (r s : Row) → same_tagged (tagged r) (tagged s) ≡ same_row r s
same-as-rows r s =
    then_both (nat_cmp (row_tag r) (row_tag s)) (row_cmp r s)
    ∙ elim (row_cmp r s) as (λ o. row_cmp r s ≡ o → (is_eq (nat_cmp (row_tag r) (row_tag s)) && is_eq o) ≡ is_eq o) [
      | Less ↦ λ h. and-false _
      | Equal ↦ λ h. and-true _ ∙ ap (λ t. is_eq (nat_cmp (row_tag r) (row_tag t))) (sym (row-exact r s h))
          ∙ ap is_eq (tied_itself nat_cmp_total (row_tag r))
      | Greater ↦ λ h. and-false _
    ] refl

-- what a key shows, behind its tag
abbrev pub tagged_of : ItemKey → TaggedRow
tagged_of k = tagged (row_view k)

any-as-rows : (r : Row) (ks : List ItemKey) → list_any (same_tagged (tagged r)) (map tagged_of ks) ≡ list_any (same_row r) (map row_view ks)
any-as-rows r [] = refl
any-as-rows r (k ∷ ks) = λ i. same-as-rows r (row_view k) i || any-as-rows r ks i

-- the first that repeats is the same behind tags
repeat-as-rows : (n : ℕ) (before ks : List ItemKey)
    → repeat_from same_tagged n (map tagged_of before) (map tagged_of ks) ≡ repeat_from same_row n (map row_view before) (map row_view ks)
repeat-as-rows n before [] = refl
repeat-as-rows n before (k ∷ ks) = λ i. if any-as-rows (row_view k) before i then Some n else repeat-as-rows (n + 1) (k ∷ before) ks i

-- ---- keys compared with those in front of them

-- what is found of those in front of a place, and of what is left, is found of all
pub record IsSought (ks : List ItemKey) (i : ℕ) : Type 0 where
  front : List Row
  front-is : (r : Row) → list_any (same_row r) front ≡ list_any (same_row r) (map row_view (take i ks))
  rest : repeat_from same_row i front (map row_view (drop i ks)) ≡ repeat_from same_row 0 [] (map row_view ks)

pub sought-none : (ks : List ItemKey) → IsSought ks 0
sought-none ks = record { front = []; front-is = λ r. refl; rest = refl }

any-more : (b c : Bool) → (c || b) ≡ (b || (c || false))
any-more true true = refl
any-more true false = refl
any-more false true = refl
any-more false false = refl

-- where nothing is left, none is found
pub sought-all : (ks : List ItemKey) (i : ℕ) → length ks ≤ i → IsSought ks i → None ≡ repeat_from same_row 0 [] (map row_view ks)
sought-all ks i le h = ap (λ l. repeat_from same_row i h.front (map row_view l)) (sym (drop_all i ks le)) ∙ h.rest

-- what is found of the next key and of those behind it
sought-next : (ks : List ItemKey) (i : ℕ) (k : ItemKey) (b : Bool) → i < length ks → k ≡ get_or ks i k
    → b ≡ list_any (same_row (row_view k)) (map row_view (take i ks)) → (h : IsSought ks i)
    → (if b then Some i else repeat_from same_row (i + 1) (row_view k ∷ h.front) (map row_view (drop (i + 1) ks)))
    ≡ repeat_from same_row 0 [] (map row_view ks)
sought-next ks i k b lt is told h =
    let next = row_view k in
    ap (λ t. if t then Some i else repeat_from same_row (i + 1) (next ∷ h.front) (map row_view (drop (i + 1) ks))) (told ∙ sym (h.front-is next))
    ∙ ap (λ l. repeat_from same_row i h.front (map row_view l)) (sym (left-at ks i k lt is)) ∙ h.rest

-- the next key is one of those in front of it
pub sought-found : (ks : List ItemKey) (i : ℕ) (k : ItemKey) → i < length ks → k ≡ get_or ks i k
    → true ≡ list_any (same_row (row_view k)) (map row_view (take i ks)) → IsSought ks i
    → Some i ≡ repeat_from same_row 0 [] (map row_view ks)
sought-found ks i k lt is told h = sought-next ks i k true lt is told h

-- the next key is none of those in front of it
pub sought-more : (ks : List ItemKey) (i : ℕ) (k : ItemKey) → i < length ks → k ≡ get_or ks i k
    → false ≡ list_any (same_row (row_view k)) (map row_view (take i ks)) → IsSought ks i → IsSought ks (i + 1)
sought-more ks i k lt is told h = record {
  front = row_view k ∷ h.front;
  front-is = λ r.
      ap (λ b. same_row r (row_view k) || b) (h.front-is r) ∙ any-more (list_any (same_row r) (map row_view (take i ks))) (same_row r (row_view k))
      ∙ sym (list_any-append (same_row r) (map row_view (take i ks)) (row_view k ∷ []))
      ∙ ap (list_any (same_row r)) (sym (map-append row_view (take i ks) (k ∷ [])) ∙ ap (map row_view) (sym (taken-at ks i k lt is)));
  rest = sought-next ks i k false lt is told h;
}

-- ---- keys with their places

-- the one is below the other
abbrev pub before : TaggedKey → TaggedKey → Bool
before p q = is_lt (tagged_cmp (tagged_view p) (tagged_view q))

length-rows : (ks : List ItemKey) (i : ℕ) → i < length ks → length (map tagged_of (take i ks)) ≡ i
length-rows ks i within = length-map (take i ks) tagged_of ∙ length-take-le i ks (omega arith)

-- the next item's key is lent, with its tag and its place
pub placed-more : (ks : List ItemKey) (i : ℕ) (k : ItemKey) (b : TaggedKey) (xs now : List TaggedKey) → i < length ks → k ≡ get_or ks i k
    → b.place ≡ i → tagged_view b ≡ tagged_of k → placed_view xs ≡ numbered 0 (map tagged_of (take i ks)) → now ≡ xs ++ b ∷ []
    → placed_view now ≡ numbered 0 (map tagged_of (take (i + 1) ks))
placed-more ks i k b xs now within is at of made more =
    let rows = map tagged_of (take i ks) in
    let long = length-rows ks i within in
    let here : i ≡ 0 + length rows = omega arith in
    let next : map tagged_of (take (i + 1) ks) ≡ rows ++ tagged_of k ∷ [] =
    ap (map tagged_of) (take_more ks i k within) ∙ map-append tagged_of (take i ks) _ ∙ ap (λ x. rows ++ tagged_of x ∷ []) (sym is) in
    ap placed_view more ∙ map-append (λ (p : TaggedKey). (p.place, tagged_view p)) xs (b ∷ [])
    ∙ ap₂ (λ ps n. ps ++ (n, tagged_view b) ∷ []) made (at ∙ here)
    ∙ ap (λ r. numbered 0 rows ++ (0 + length rows, r) ∷ []) of
    ∙ numbered-more 0 rows (tagged_of k) ∙ ap (numbered 0) (sym next)

-- the least place of equal neighbours among the sorted keys is that of the first that repeats
pub first-place : (ks : List ItemKey) (xs ys : List TaggedKey) → placed_view xs ≡ numbered 0 (map tagged_of ks) → IsStableBy before xs ys
    → IsSortedBy before ys → least_repeat same_tagged (placed_view ys) ≡ repeat_from same_row 0 [] (map row_view ks)
first-place ks xs ys is stable up =
    least-is-first (λ p. p.place) tagged_view tagged_cmp tagged_cmp_total tagged-exact xs ys (map tagged_of ks) is stable up
    ∙ repeat-as-rows 0 [] ks
