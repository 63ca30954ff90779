-- The live places of a configuration's elements.
use Rattle.std.proofs.Common.{◌≡◌, ℕ, zero, suc, ◌+◌, ◌<◌, ◌≤◌, List, [], ◌∷◌, ◌++◌, length, get_or, take, drop, map, Bool, true, false, ◌==◌, cond, Option, Some, None, Err, Ok, Result, Less, Equal, Greater, refl, sym, ap, subst, ◌∙◌, arith, tests, true≢false}
use Rattle.std.specs.Prelude.{is_some}
use Rattle.std.specs.List.{All}
use Rattle.std.specs.List.Sorted.{IsBinarySearchResult, IsNonDecreasingBy, IsPermutation}
use Rattle.std.specs.Ordering.{nat_cmp, ordering_index}
use Rattle.std.proofs.lemmas.Bool.Decides.{nat_tests}
use Rattle.std.proofs.lemmas.List.{drop_more, get_or-map, length-map, map-append, take_all}
use Rattle.std.proofs.lemmas.List.Elements.{All-head, All-push, All-tail}
use Rattle.std.proofs.lemmas.List.Sorted.{All-permutation, IsPermutation-map, IsPermutation-sym}
use Rattle.ssa_model.specs.definitions.Path.{Element, same_element}
use Rattle.ssa_model.proofs.Fitting.{same_element-true}
use Rattle.ssa_path.specs.Children.{child_at}
use Rattle.ssa_path.specs.SortKeys.{element_key}
use Rattle.ssa_path.specs.View.{element_view}
use Rattle.ssa_path.proofs.Lists.{taken-at}
use Rattle.ssa_path.proofs.SortKeys.{three-ways}
use Rattle.ssa_typed.specs.MergedOrder.{live_places, numbers, places, IsNumbered}
use Rattle.ssa_typed.proofs.Building.{Child}
use Rattle.ssa_typed.proofs.SortedOut.{absent-none, is_absent, new-place}

-- ---- the places that are left

within-left : {A : Type 0} (xs ys : List A) (i : ℕ) (y : A) → drop i xs ≡ y ∷ ys → i < length xs
within-left [] ys zero y h = cc
within-left [] ys (suc i) y h = cc
within-left (x ∷ xs) ys zero y h = omega arith
within-left (x ∷ xs) ys (suc i) y h = let rest = within-left xs ys i y h in omega arith

first-left : {A : Type 0} (x y : A) (xs ys : List A) → x ∷ xs ≡ y ∷ ys → (x ≡ y) × (xs ≡ ys)
first-left x y xs ys h = (cc, cc)

-- Of the children that are left, the places that are left are told.
module _ (cs all left : List Child) (d : Child) (found : List (Option ℕ)) (i : ℕ) (is : all ≡ d ∷ left) (h : drop i found ≡ live_places cs all) where
  now : drop i found ≡ child_at (element_view d.0) (places cs) ∷ live_places cs left
  now = h ∙ ap (live_places cs) is

  pub placed-within : i < length found
  placed-within = within-left found (live_places cs left) i (child_at (element_view d.0) (places cs)) now

  parts : (o : Option ℕ) → (get_or found i o ≡ child_at (element_view d.0) (places cs)) × (drop (i + 1) found ≡ live_places cs left)
  parts o = first-left (get_or found i o) (child_at (element_view d.0) (places cs)) (drop (i + 1) found) (live_places cs left)
      (sym (drop_more found i o placed-within) ∙ now)

  -- the next is that of the next child
  pub placed-here : (o : Option ℕ) → o ≡ get_or found i o → child_at (element_view d.0) (places cs) ≡ o
  placed-here o is_there = sym (parts o).0 ∙ sym is_there

  -- the others are those of the others
  pub placed-on : drop (i + 1) found ≡ live_places cs left
  placed-on = (parts None).1

-- the place of the next child is told
pub placed-more : (cs ds : List Child) (i : ℕ) (d : Child) (o : Option ℕ) (found more : List (Option ℕ)) → i < length ds → d ≡ get_or ds i d
    → child_at (element_view d.0) (places cs) ≡ o → found ≡ live_places cs (take i ds) → more ≡ found ++ o ∷ [] → more ≡ live_places cs (take (i + 1) ds)
placed-more cs ds i d o found more lt is at h pushed =
    pushed ∙ (λ j. h j ++ sym at j ∷ [])
    ∙ sym (map-append (λ (x : Child). child_at (element_view x.0) (places cs)) (take i ds) (d ∷ []))
    ∙ sym (ap (live_places cs) (taken-at ds i d lt is))

-- what is told of a child is the place of its own element
pub told-at : (cs ds : List Child) (i : ℕ) (d : Child) (o : Option ℕ) (found : List (Option ℕ)) → i < length ds → d ≡ get_or ds i d → found ≡ live_places cs ds
    → o ≡ get_or found i o → child_at (element_view d.0) (places cs) ≡ o
told-at cs ds i d o found lt is told read =
    let f = λ (x : Child). child_at (element_view x.0) (places cs) in
    ap f is ∙ sym (get_or-map f ds i d o lt) ∙ sym (ap (λ l. get_or l i o) told) ∙ sym read

-- what is read within is read, whatever would be without
pub read-alike : (found : List (Option ℕ)) (i : ℕ) → i < length found → get_or found i None ≡ get_or found i (get_or found i None)
read-alike found i lt =
    let o = get_or found i None in
    (first-left _ _ _ _ (sym (drop_more found i None lt) ∙ drop_more found i o lt)).0

-- one more is found
pub found-on : (found : List (Option ℕ)) (i : ℕ) → i < length found → is_some (get_or found i None) ≡ true
    → All (λ o. is_some o ≡ true) (take i found) → All (λ o. is_some o ≡ true) (take (i + 1) found)
found-on found i lt there h =
    let o = get_or found i None in
    subst (All (λ o. is_some o ≡ true)) (sym (taken-at found i o lt (read-alike found i lt)))
    (All-push (λ o. is_some o ≡ true) (take i found) o h there)

-- where all are told
pub all-placed : (cs ds : List Child) (i : ℕ) (found : List (Option ℕ)) → length ds ≤ i → found ≡ live_places cs (take i ds) → found ≡ live_places cs ds
all-placed cs ds i found done h = h ∙ ap (live_places cs) (take_all i ds done)

-- ---- numbers

module _ (first : Element) (skip : ℕ) (e : Element) where
  abbrev IsOther : ℕ → Type 0
  IsOther n = (n == element_key first skip e) ≡ false

  none-numbered : (cs : List Child) → All IsOther (numbers first skip cs) → child_at e cs ≡ None
  none-numbered [] h = refl
  none-numbered (c ∷ cs) h =
      let n = element_key first skip (element_view c.0) in
      elim (same_element e (element_view c.0)) as (λ b. same_element e (element_view c.0) ≡ b → cond b (Some c.1) (child_at e cs) ≡ None) [
        | true ↦ λ s.
            let same : element_key first skip e ≡ n = ap (element_key first skip) (same_element-true e (element_view c.0) s) in
            let other : (n == element_key first skip e) ≡ false = All-head IsOther n (numbers first skip cs) h in
            absurd (grind (arith, nat_tests))
        | false ↦ λ s. none-numbered cs (All-tail IsOther n (numbers first skip cs) h)
      ] refl

  -- an element whose number no live one has is new
  pub absent-number : (cs : List Child) (ps : List (ℕ × ℕ)) → IsNumbered (numbers first skip cs) ps → All IsOther (map (λ p. p.0) ps)
      → child_at e (places cs) ≡ None
  absent-number cs ps h other =
      let all = All-permutation IsOther (map (λ p. p.0) ps) (numbers first skip cs)
      (IsPermutation-sym (numbers first skip cs) (map (λ p. p.0) ps) h.moved) other in
      absent-none (child_at e (places cs)) (new-place e cs ∙ ap is_absent (none-numbered cs all))

-- numbers put in order
pub are-numbered : (all : List ℕ) (made sorted : List (ℕ × ℕ)) → map (λ p. p.0) made ≡ all → IsPermutation made sorted
    → IsNonDecreasingBy (λ p. p.0) sorted → IsNumbered all sorted
are-numbered all made sorted is moved rise = record {
  moved = subst (λ l. IsPermutation l (map (λ (p : ℕ × ℕ). p.0) sorted)) is (IsPermutation-map (λ (p : ℕ × ℕ). p.0) made sorted moved);
  rise = rise;
}

-- what is behind no place of the search is no number
pub none-found : (ps : List (ℕ × ℕ)) (n i : ℕ) → IsNonDecreasingBy (λ p. p.0) ps → IsBinarySearchResult (λ p. nat_cmp p.0 n) ps (Err i)
    → All (λ m. (m == n) ≡ false) (map (λ (p : ℕ × ℕ). p.0) ps)
none-found ps n i rise found = λ k d lt.
    let parts = found (λ a b x le within. higher (get_or ps a x).0 (get_or ps b x).0 (rise a b x le within)) in
    let long : length (map (λ (p : ℕ × ℕ). p.0) ps) ≡ length ps = length-map ps (λ (p : ℕ × ℕ). p.0) in
    let within : k < length ps = omega arith in
    ap (λ m. m == n) (get_or-map (λ (p : ℕ × ℕ). p.0) ps k (d, 0) d within)
    ∙ three-ways k i (λ before. under (get_or ps k (d, 0)).0 (parts.0 k (d, 0) (omega arith) before))
    (λ behind. above (get_or ps k (d, 0)).0 (parts.1 k (d, 0) (omega arith) within))
    (λ here. above (get_or ps k (d, 0)).0 (parts.1 k (d, 0) (omega arith) within))
  where
    higher : (a b : ℕ) → a ≤ b → ordering_index (nat_cmp a n) ≤ ordering_index (nat_cmp b n)
    higher a b le = grind (arith, tests)

    under : (m : ℕ) → nat_cmp m n ≡ Less → (m == n) ≡ false
    under m h = grind (arith, nat_tests)

    above : (m : ℕ) → nat_cmp m n ≡ Greater → (m == n) ≡ false
    above m h = grind (arith, nat_tests)
