-- Two tries are the same where their places and children are, one by one.
use Rattle.std.proofs.Common.{◌≡◌, ◌≢◌, ℕ, suc, ◌+◌, ◌<◌, ◌≤◌, List, [], ◌∷◌, ◌++◌, length, get_or, drop, Option, Some, None, Bool, true, false, ◌&&◌, not, refl, sym, ap, subst, ◌∙◌, true≢false, arith}
use Rattle.std.proofs.lemmas.List.{drop_all}
use Rattle.std.specs.Option.{MatchOption, is_some}
use mathlib.Core.Bool.{beq}
use Rattle.std.specs.Cmp.Lexicographic.{pointwise}
use Rattle.ssa_model.specs.definitions.Path.{Element, Path, same_element, same_path}
use Rattle.ssa_model.specs.definitions.PathMap.{same_set, listed}
use Rattle.ssa_path.specs.Children.{elements, is_below, rises}
use Rattle.ssa_path.specs.View.{element_view}
use Rattle.ssa_path.specs.Trie.{are_filled_tries, has_some, here_path, is_filled, is_trie, paths, paths_after, paths_below}
use Rattle.ssa_path.specs.declared.element.Elem.{Elem}
use Rattle.ssa_path.specs.declared.trie.Trie.{Trie}
use Rattle.ssa_path.specs.declared.trie.Trie.TheViews.{out-Trie}
use Rattle.ssa_path.proofs.InOrder.{paths-listed, rise-trie}
use Rattle.ssa_path.proofs.Levels.{paths-level, same_path-reading, trie-parts}
use Rattle.ssa_path.proofs.Lists.{left-at}
use Rattle.ssa_path.proofs.Orders.{and_assoc, both_first, both_second, not_tied, none_first}
use Rattle.ssa_model.proofs.Fitting.{same_element-true}
use Rattle.ssa_model.proofs.ShownNames.{turned as same_either_way}
use Rattle.ssa_model.proofs.Tables.{element-itself as same_element-itself}
use Rattle.ssa_model.proofs.Basics.{and-false as and_false}

abbrev same_paths : List Path → List Path → Bool
same_paths = pointwise same_path

abbrev Children : Type 0
Children = List (Elem × Trie)

-- ---- paths that begin with other elements differ

-- none of these paths begins as the first of those with e in front does
abbrev IsApart : Element → List Path → Type 0
IsApart e r = (p : Path) (x : List Path) → (same_paths ((e ∷ p) ∷ x) r ≡ false) × (same_paths r ((e ∷ p) ∷ x) ≡ false)

unlike : (e f : Element) (p q : Path) → same_element e f ≡ false → same_path (e ∷ p) (f ∷ q) ≡ false
unlike e f p q h = same_path-reading.more e f p q ∙ none_first (same_element e f) (same_path p q) h

apart-after : (e f : Element) (ps r : List Path) → same_element e f ≡ false → same_element f e ≡ false → IsApart e r → IsApart e (paths_after f ps ++ r)
apart-after e f [] r h g rest p x = rest p x
apart-after e f (q ∷ ps) r h g rest p x = (
  none_first (same_path (e ∷ p) (f ∷ q)) _ (unlike e f p q h),
  none_first (same_path (f ∷ q) (e ∷ p)) _ (unlike f e q p g),
)

apart-below : (e : Element) (cs : Children) → is_below e (elements cs) ≡ true → IsApart e (paths_below cs)
apart-below e [] h = λ p x. (refl, refl)
apart-below e (c ∷ cs) h =
    let other = not_tied _ (both_first _ _ h) in
    apart-after e (element_view c.0) (paths c.1) (paths_below cs) other (same_either_way e (element_view c.0) ∙ other) (apart-below e cs (both_second _ _ h))

-- ---- one child after another

same-block : (e : Element) (ps qs r s : List Path) → IsApart e r → IsApart e s
    → same_paths (paths_after e ps ++ r) (paths_after e qs ++ s) ≡ (same_paths ps qs && same_paths r s)
same-block e [] [] r s a b = refl
same-block e [] (q ∷ qs) r s a b = (a q (paths_after e qs ++ s)).1
same-block e (p ∷ ps) [] r s a b = (b p (paths_after e ps ++ r)).0
same-block e (p ∷ ps) (q ∷ qs) r s a b =
    (λ i. first i && same-block e ps qs r s a b i) ∙ and_assoc (same_path p q) (same_paths ps qs) (same_paths r s)
  where
    first : same_path (e ∷ p) (e ∷ q) ≡ same_path p q
    first = same_path-reading.more e e p q ∙ ap (λ t. t && same_path p q) (same_element-itself e)

other-block : (e f : Element) (ps qs r s : List Path) → same_element e f ≡ false → has_some ps ≡ true → has_some qs ≡ true
    → same_paths (paths_after e ps ++ r) (paths_after f qs ++ s) ≡ false
other-block e f [] qs r s h a b = absurd (true≢false (sym a))
other-block e f (p ∷ ps) [] r s h a b = absurd (true≢false (sym b))
other-block e f (p ∷ ps) (q ∷ qs) r s h a b = none_first (same_path (e ∷ p) (f ∷ q)) _ (unlike e f p q h)

-- children have the same paths where the heads have one element and the same paths, and so have the others
pub same-first : (c d : Elem × Trie) (cs ds : Children) → rises (elements (c ∷ cs)) ≡ true → rises (elements (d ∷ ds)) ≡ true
    → are_filled_tries (c ∷ cs) ≡ true → are_filled_tries (d ∷ ds) ≡ true
    → same_paths (paths_below (c ∷ cs)) (paths_below (d ∷ ds))
    ≡ (same_element (element_view c.0) (element_view d.0) && (same_paths (paths c.1) (paths d.1) && same_paths (paths_below cs) (paths_below ds)))
same-first c d cs ds rise other_rise tries other_tries =
    let e = element_view c.0 in
    let f = element_view d.0 in
    elim (same_element e f) as (λ t. same_element e f ≡ t → same_paths (paths_below (c ∷ cs)) (paths_below (d ∷ ds))
    ≡ (t && (same_paths (paths c.1) (paths d.1) && same_paths (paths_below cs) (paths_below ds)))) [
      | true ↦ λ h.
          let is = same_element-true e f h in
          ap (λ g. same_paths (paths_below (c ∷ cs)) (paths_after g (paths d.1) ++ paths_below ds)) (sym is)
          ∙ same-block e (paths c.1) (paths d.1) (paths_below cs) (paths_below ds) (apart-below e cs (both_first _ _ rise))
          (apart-below e ds (ap (λ g. is_below g (elements ds)) is ∙ both_first _ _ other_rise))
      | false ↦ λ h. other-block e f (paths c.1) (paths d.1) (paths_below cs) (paths_below ds) h
          (both_second (is_trie c.1) _ (both_first (is_trie c.1 && is_filled c.1) _ tries))
          (both_second (is_trie d.1) _ (both_first (is_trie d.1 && is_filled d.1) _ other_tries))
    ] refl

some-more : (e : Element) (ps r : List Path) → has_some ps ≡ true → (same_paths (paths_after e ps ++ r) [] ≡ false)
    × (same_paths [] (paths_after e ps ++ r) ≡ false)
some-more e [] r h = absurd (true≢false (sym h))
some-more e (p ∷ ps) r h = (refl, refl)

-- a child more than the other has
pub one-more : (c : Elem × Trie) (cs : Children) → are_filled_tries (c ∷ cs) ≡ true → (same_paths (paths_below (c ∷ cs)) [] ≡ false)
    × (same_paths [] (paths_below (c ∷ cs)) ≡ false)
one-more c cs tries = some-more (element_view c.0) (paths c.1) (paths_below cs)
    (both_second (is_trie c.1) _ (both_first (is_trie c.1 && is_filled c.1) _ tries))

-- children with the same paths are as many
same-width : (cs ds : Children) → rises (elements cs) ≡ true → rises (elements ds) ≡ true → are_filled_tries cs ≡ true → are_filled_tries ds ≡ true
    → same_paths (paths_below cs) (paths_below ds) ≡ true → length cs ≡ length ds
same-width [] [] rise other_rise tries other_tries same = refl
same-width [] (d ∷ ds) rise other_rise tries other_tries same = absurd (true≢false (sym same ∙ (one-more d ds other_tries).1))
same-width (c ∷ cs) [] rise other_rise tries other_tries same = absurd (true≢false (sym same ∙ (one-more c cs tries).0))
same-width (c ∷ cs) (d ∷ ds) rise other_rise tries other_tries same =
    let both = sym (same-first c d cs ds rise other_rise tries other_tries) ∙ same in
    ap suc (same-width cs ds (both_second _ _ rise) (both_second _ _ other_rise)
    (both_second (is_trie c.1 && is_filled c.1) _ tries) (both_second (is_trie d.1 && is_filled d.1) _ other_tries)
    (both_second (same_paths (paths c.1) (paths d.1)) _ (both_second (same_element (element_view c.0) (element_view d.0)) _ both)))

-- ---- a walk over the children of both

-- what is left of the children of both decides
pub record IsComparing (all others cs ds : Children) : Type 0 where
  -- what is left of the first list rises
  pub rise : rises (elements cs) ≡ true
  -- what is left of the second list rises
  pub others_rise : rises (elements ds) ≡ true
  -- each of the first list is a trie with some path
  pub tries : are_filled_tries cs ≡ true
  -- each of the second list is a trie with some path
  pub others_tries : are_filled_tries ds ≡ true
  -- all children have the same paths where what is left has
  pub decides : same_paths (paths_below all) (paths_below others) ≡ same_paths (paths_below cs) (paths_below ds)

-- before the walk all children of two tries are left
pub comparing-none : (s t : Trie) (cs ds : Children) → cs ≡ (out-Trie s).below.items → ds ≡ (out-Trie t).below.items → is_trie s ≡ true → is_trie t ≡ true
    → IsComparing cs ds cs ds
comparing-none s t cs ds is other_is h g =
    let own = trie-parts s cs is h in
    let other = trie-parts t ds other_is g in
    record { rise = own.0; others_rise = other.0; tries = own.1; others_tries = other.1; decides = refl }

-- the heads of what is left decide, together with those behind them
pub comparing-first : (all others : Children) (c d : Elem × Trie) (cs ds : Children) → IsComparing all others (c ∷ cs) (d ∷ ds)
    → same_paths (paths_below all) (paths_below others) ≡ (same_element (element_view c.0) (element_view d.0)
    && (same_paths (paths c.1) (paths d.1) && same_paths (paths_below cs) (paths_below ds)))
comparing-first all others c d cs ds h = h.decides ∙ same-first c d cs ds h.rise h.others_rise h.tries h.others_tries

-- heads with one element and the same paths are passed
pub comparing-more : (all others : Children) (c d : Elem × Trie) (cs ds : Children) → same_element (element_view c.0) (element_view d.0) ≡ true
    → same_paths (paths c.1) (paths d.1) ≡ true → IsComparing all others (c ∷ cs) (d ∷ ds) → IsComparing all others cs ds
comparing-more all others c d cs ds a b h = record {
  rise = both_second _ _ h.rise;
  others_rise = both_second _ _ h.others_rise;
  tries = both_second (is_trie c.1 && is_filled c.1) _ h.tries;
  others_tries = both_second (is_trie d.1 && is_filled d.1) _ h.others_tries;
  decides = comparing-first all others c d cs ds h ∙ (λ i. a i && (b i && same_paths (paths_below cs) (paths_below ds)));
}

-- the heads of what is left, where the one list goes on at this place and the other with this child
pub comparing-at : (all others : Children) (i : ℕ) (c d : Elem × Trie) (ds rest : Children) → i < length all → c ≡ get_or all i c → rest ≡ d ∷ ds
    → IsComparing all others (drop i all) rest → IsComparing all others (c ∷ drop (i + 1) all) (d ∷ ds)
comparing-at all others i c d ds rest lt is other_is h = subst (IsComparing all others (c ∷ drop (i + 1) all)) other_is
    (subst (λ l. IsComparing all others l rest) (left-at all i c lt is) h)

-- ---- what ends the walk

no_more : (ds : Children) → length ds ≡ 0 → ds ≡ []
no_more [] h = refl
no_more (d ∷ ds) h = absurd (omega arith)

-- where only the first list goes on, the paths differ
pub own-longer : (all others rest : Children) (i : ℕ) (c : Elem × Trie) → i < length all → c ≡ get_or all i c → length rest ≡ 0
    → IsComparing all others (drop i all) rest → same_paths (paths_below all) (paths_below others) ≡ false
own-longer all others rest i c lt is none h =
    let left = left-at all i c lt is in
    h.decides ∙ (λ j. same_paths (paths_below (left j)) (paths_below (no_more rest none j)))
    ∙ (one-more c (drop (i + 1) all) (ap are_filled_tries (sym left) ∙ h.tries)).0

-- where the heads have different elements, the paths differ
pub element-differs : (all others : Children) (c d : Elem × Trie) (cs ds : Children) → same_element (element_view c.0) (element_view d.0) ≡ false
    → IsComparing all others (c ∷ cs) (d ∷ ds) → same_paths (paths_below all) (paths_below others) ≡ false
element-differs all others c d cs ds differs h = comparing-first all others c d cs ds h
    ∙ none_first (same_element (element_view c.0) (element_view d.0)) _ differs

-- where the heads have different paths, so have all
pub paths-differ : (all others : Children) (c d : Elem × Trie) (cs ds : Children) → same_paths (paths c.1) (paths d.1) ≡ false
    → IsComparing all others (c ∷ cs) (d ∷ ds) → same_paths (paths_below all) (paths_below others) ≡ false
paths-differ all others c d cs ds differ h =
    comparing-first all others c d cs ds h
    ∙ ap (λ b. same_element (element_view c.0) (element_view d.0) && b)
    (none_first (same_paths (paths c.1) (paths d.1)) (same_paths (paths_below cs) (paths_below ds)) differ)
    ∙ and_false (same_element (element_view c.0) (element_view d.0))

-- the other list ends too, or goes on
pub own-ends : {X : Type 0} (S : Type 0) (next : Option X) (child : X → Elem × Trie) (is_none : Bool) (all others rest more : Children) (i : ℕ)
    → MatchOption next ((length rest ≡ 0) × S) (λ x. rest ≡ child x ∷ more) → is_some next ≡ not is_none → length all ≤ i
    → IsComparing all others (drop i all) rest → is_none ≡ same_paths (paths_below all) (paths_below others)
own-ends S None child true all others rest more i steps is le h =
    sym (h.decides ∙ (λ j. same_paths (paths_below (drop_all i all le j)) (paths_below (no_more rest steps.0 j))))
own-ends S None child false all others rest more i steps is le h = absurd (true≢false (sym is))
own-ends S (Some x) child true all others rest more i steps is le h = absurd (true≢false is)
own-ends S (Some x) child false all others rest more i steps is le h =
    sym (h.decides ∙ (λ j. same_paths (paths_below (drop_all i all le j)) (paths_below (steps j)))
    ∙ (one-more (child x) more (ap are_filled_tries (sym steps) ∙ h.others_tries)).1)

-- ---- a place over its children

root-apart : (cs : Children) (x : List Path) → (same_paths ([] ∷ x) (paths_below cs) ≡ false) × (same_paths (paths_below cs) ([] ∷ x) ≡ false)
root-apart [] x = (refl, refl)
root-apart (c ∷ cs) x = first (element_view c.0) (paths c.1) (root-apart cs x)
  where
    first : (e : Element) (ps : List Path) → (same_paths ([] ∷ x) (paths_below cs) ≡ false) × (same_paths (paths_below cs) ([] ∷ x) ≡ false)
        → (same_paths ([] ∷ x) (paths_after e ps ++ paths_below cs) ≡ false) × (same_paths (paths_after e ps ++ paths_below cs) ([] ∷ x) ≡ false)
    first e [] rest = rest
    first e (p ∷ ps) rest = (refl, refl)

same-here : (a b : Bool) (cs ds : Children) → not (beq a b) ≡ false
    → same_paths (here_path a ++ paths_below cs) (here_path b ++ paths_below ds) ≡ same_paths (paths_below cs) (paths_below ds)
same-here true true cs ds h = refl
same-here false false cs ds h = refl
same-here true false cs ds h = absurd (true≢false h)
same-here false true cs ds h = absurd (true≢false h)

other-here : (a b : Bool) (cs ds : Children) → not (beq a b) ≡ true → same_paths (here_path a ++ paths_below cs) (here_path b ++ paths_below ds) ≡ false
other-here true true cs ds h = absurd (true≢false (sym h))
other-here false false cs ds h = absurd (true≢false (sym h))
other-here true false cs ds h = (root-apart ds (paths_below cs)).0
other-here false true cs ds h = (root-apart cs (paths_below ds)).1

-- where both places are in their sets or neither, the children decide
pub same-level : (s t : Trie) (cs ds : Children) → cs ≡ (out-Trie s).below.items → ds ≡ (out-Trie t).below.items
    → not (beq (out-Trie s).here (out-Trie t).here) ≡ false → same_paths (paths s) (paths t) ≡ same_paths (paths_below cs) (paths_below ds)
same-level s t cs ds is other_is h =
    (λ i. same_paths (paths-level s i) (paths-level t i))
    ∙ same-here (out-Trie s).here (out-Trie t).here (out-Trie s).below.items (out-Trie t).below.items h
    ∙ (λ i. same_paths (paths_below (sym is i)) (paths_below (sym other_is i)))

-- where one place is in its set and the other is not, the paths differ
pub other-level : (s t : Trie) → not (beq (out-Trie s).here (out-Trie t).here) ≡ true → same_paths (paths s) (paths t) ≡ false
other-level s t h =
    (λ i. same_paths (paths-level s i) (paths-level t i))
    ∙ other-here (out-Trie s).here (out-Trie t).here (out-Trie s).below.items (out-Trie t).below.items h

-- where one place has more children than the other, the paths differ
pub other-width : (s t : Trie) → is_trie s ≡ true → is_trie t ≡ true → not (beq (out-Trie s).here (out-Trie t).here) ≡ false
    → length (out-Trie s).below.items ≢ length (out-Trie t).below.items → same_paths (paths s) (paths t) ≡ false
other-width s t h g here differ =
    let cs = (out-Trie s).below.items in
    let ds = (out-Trie t).below.items in
    let own = trie-parts s cs refl h in
    let other = trie-parts t ds refl g in
    same-level s t cs ds refl refl here
    ∙ not-true _ (λ same. differ (same-width cs ds own.0 other.0 own.1 other.1 same))
  where
    not-true : (b : Bool) → b ≢ true → b ≡ false
    not-true true k = absurd (k refl)
    not-true false k = refl

-- ---- the sets

-- two tries have the same paths where their sets are the same
pub same-listed : (s t : Trie) → is_trie s ≡ true → is_trie t ≡ true → same_paths (paths s) (paths t) ≡ same_set (listed (paths s)) (listed (paths t))
same-listed s t h g = λ i. same_paths (sym (paths-listed (paths s) (rise-trie s h)) i) (sym (paths-listed (paths t) (rise-trie t g)) i)
