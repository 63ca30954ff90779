-- Paths taken out of the children of a place where they stand: those that have none left still stand among the others.
use Rattle.std.proofs.Common.{◌≡◌, ℕ, zero, suc, ◌+◌, ◌<◌, List, [], ◌∷◌, ◌++◌, length, get_or, set, drop, take, Bool, true, false, not, ◌&&◌, ◌||◌, Some, None, Less, Equal, Greater, refl, sym, ap, subst, ◌∙◌, append-nil, arith, true≢false}
use Rattle.std.specs.Bool.{MatchBool}
use Rattle.std.proofs.lemmas.List.{drop-set-lt, take_more_set, take-append-drop}
use Rattle.ssa_model.proofs.Basics.{first_false}
use Rattle.ssa_path.specs.declared.combine.Combination.TheVariants.{WithoutOver}
use Rattle.ssa_path.specs.declared.element.Elem.{Elem}
use Rattle.ssa_path.specs.declared.trie.Trie.{Trie}
use Rattle.ssa_path.specs.Children.{child_at, elements, heads_order, rises}
use Rattle.ssa_path.specs.Combine.{IsCombination, IsCombined}
use Rattle.ssa_path.specs.View.{element_view}
use Rattle.ssa_path.specs.Trie.{kept, is_trie, is_filled, are_filled_tries}
use Rattle.ssa_path.proofs.Combining.{Children, IsCombining, both-within, combining-all, combining-both, combining-other, combining-own, other-within, own-within}
use Rattle.ssa_path.proofs.Finding.{IsFinding, finding-all, finding-alone, finding-both}
use Rattle.ssa_path.proofs.Kept.{has-any-is, kept-goes, kept-stays}
use Rattle.ssa_path.proofs.Lists.{left-at, taken-at}
use Rattle.ssa_path.proofs.Orders.{both_first, both_second}

-- ---- one child more

some-at-place : {A : Type 0} (xs : List A) (i : ℕ) → i < length xs → (c : A) × (c ≡ get_or xs i c)
some-at-place [] i lt = absurd (omega arith)
some-at-place (x ∷ xs) zero lt = (x, refl)
some-at-place (x ∷ xs) (suc i) lt = some-at-place xs i (omega arith)

-- a child that keeps some path is kept behind the others
next-kept : (now : Children) (i : ℕ) (c : Elem × Trie) → i < length now → c ≡ get_or now i c → is_trie c.1 ≡ true → is_filled c.1 ≡ true
    → kept (take (i + 1) now) ≡ kept (take i now) ++ c ∷ []
next-kept now i c lt is trie filled = ap kept (taken-at now i c lt is) ∙ kept-stays (take i now) [] c (has-any-is c trie ∙ filled)

-- what has been made of the children up to a place is kept there, unless none of them went bare
abbrev pub AllKept : Bool → Children → Type 0
AllKept any_bare cs = any_bare ≡ false → kept cs ≡ cs

all-next : (now : Children) (i : ℕ) (c : Elem × Trie) (any_bare : Bool) → i < length now → c ≡ get_or now i c → is_trie c.1 ≡ true → is_filled c.1 ≡ true
    → AllKept any_bare (take i now) → AllKept any_bare (take (i + 1) now)
all-next now i c any_bare lt is trie filled all none =
    next-kept now i c lt is trie filled ∙ ap (λ l. l ++ c ∷ []) (all none) ∙ sym (taken-at now i c lt is)

pub grown-behind : (b : Bool) (now : Children) (i : ℕ) (c u : Elem × Trie) → is_filled u.1 ≡ b → i < length now → u.0 ≡ c.0 → is_trie u.1 ≡ true
    → MatchBool b ((x : Elem) × (element_view x ≡ element_view c.0) × (kept (take (i + 1) (set now i u)) ≡ kept (take i now) ++ (x, u.1) ∷ []))
    (kept (take (i + 1) (set now i u)) ≡ kept (take i now))
grown-behind true now i c u is lt same trie =
    (u.0, ap element_view same, ap kept (take_more_set now i u lt) ∙ kept-stays (take i now) [] u (has-any-is u trie ∙ is))
grown-behind false now i c u is lt same trie =
    ap kept (take_more_set now i u lt) ∙ kept-goes (take i now) [] u (has-any-is u trie ∙ is) ∙ append-nil (kept (take i now))

or-false-other : (a b : Bool) → (a || not b) ≡ false → b ≡ true
or-false-other false true h = refl
or-false-other false false h = absurd (true≢false h)
or-false-other true b h = absurd (true≢false h)

pub all-made : (now : Children) (i : ℕ) (u : Elem × Trie) (any_bare bare : Bool) → i < length now → is_trie u.1 ≡ true → bare ≡ not (is_filled u.1)
    → AllKept any_bare (take i now) → AllKept (any_bare || bare) (take (i + 1) (set now i u))
all-made now i u any_bare bare lt trie is all none =
    let filled = or-false-other any_bare (is_filled u.1) (ap (λ b. any_bare || b) (sym is) ∙ none) in
    let more = take_more_set now i u lt in
    ap kept more ∙ kept-stays (take i now) [] u (has-any-is u trie ∙ filled) ∙ ap (λ l. l ++ u ∷ []) (all (first_false any_bare bare none)) ∙ sym more

pub all-taken : (now : Children) (i : ℕ) → drop i now ≡ [] → take i now ≡ now
all-taken now i none = sym (append-nil (take i now)) ∙ ap (λ l. take i now ++ l) (sym none) ∙ take-append-drop i now

-- ---- a walk over both lists

-- up to these places the paths of the others are taken out, where now is what the children have come to
pub record IsTaking (cs ds now : Children) (i j : ℕ) (any_bare : Bool) : Type 0 where
  -- what is combined of what is left, behind what is kept so far, is combined of both lists
  pub walk : IsCombining WithoutOver cs ds (drop i now) (drop j ds) (kept (take i now))
  -- where none is told to have no path left, all are kept
  pub all_kept : AllKept any_bare (take i now)

pub taking-none : (cs ds : Children) → rises (elements cs) ≡ true → are_filled_tries cs ≡ true → rises (elements ds) ≡ true → are_filled_tries ds ≡ true
    → IsTaking cs ds cs 0 0 false
taking-none cs ds rise tries others_rise others_tries = record {
  walk = record { own_rise = rise; own_tries = tries; others_rise = others_rise; others_tries = others_tries; rest = λ us h. h };
  all_kept = λ none. refl;
}

-- the next child of the own list alone stays
pub taking-own : (cs ds now : Children) (i j : ℕ) (any_bare : Bool) → heads_order (drop i now) (drop j ds) ≡ Some Less
    → IsTaking cs ds now i j any_bare → IsTaking cs ds now (i + 1) j any_bare
taking-own cs ds now i j any_bare order h =
    let lt = own-within now (drop j ds) i order in
    let some = some-at-place now i lt in
    let c = some.0 in
    let left = left-at now i c lt some.1 in
    let walk = subst (λ l. IsCombining WithoutOver cs ds l (drop j ds) (kept (take i now))) left h.walk in
    let parts = both_first (is_trie c.1 && is_filled c.1) _ walk.own_tries in
    let trie = both_first (is_trie c.1) _ parts in
    let filled = both_second (is_trie c.1) _ parts in
    record {
      walk = combining-own WithoutOver cs ds c (drop (i + 1) now) (drop j ds) (kept (take i now)) (kept (take (i + 1) now)) true
          (subst (λ l. heads_order l (drop j ds) ≡ Some Less) left order) refl
          (c, record { element = refl; shape_is = refl }, next-kept now i c lt some.1 trie filled) walk;
      all_kept = all-next now i c any_bare lt some.1 trie filled h.all_kept;
    }

-- the next child of the other list alone takes out nothing
pub taking-other : (cs ds now : Children) (i j : ℕ) (any_bare : Bool) → heads_order (drop i now) (drop j ds) ≡ Some Greater
    → IsTaking cs ds now i j any_bare → IsTaking cs ds now i (j + 1) any_bare
taking-other cs ds now i j any_bare order h =
    let lt = other-within (drop i now) ds j order in
    let some = some-at-place ds j lt in
    let left = left-at ds j some.0 lt some.1 in
    record {
      walk = combining-other WithoutOver cs ds (drop i now) some.0 (drop (j + 1) ds) (kept (take i now)) (kept (take i now)) false
          (subst (λ l. heads_order (drop i now) l ≡ Some Greater) left order) refl refl
          (subst (λ l. IsCombining WithoutOver cs ds (drop i now) l (kept (take i now))) left h.walk);
      all_kept = h.all_kept;
    }

-- the next child of both lists comes to what is left of it
pub taking-both : (cs ds now : Children) (i j : ℕ) (any_bare bare : Bool) (c d u : Elem × Trie) → heads_order (drop i now) (drop j ds) ≡ Some Equal
    → c ≡ get_or now i c → d ≡ get_or ds j d → u.0 ≡ c.0 → IsCombination WithoutOver c.1 d.1 u.1 → bare ≡ not (is_filled u.1)
    → IsTaking cs ds now i j any_bare → IsTaking cs ds (set now i u) (i + 1) (j + 1) (any_bare || bare)
taking-both cs ds now i j any_bare bare c d u order is_c is_d same made told h =
    let in_both = both-within now ds i j order in
    let left = left-at now i c in_both.0 is_c in
    let other = left-at ds j d in_both.1 is_d in
    let out = kept (take i now) in
    let next = drop-set-lt (i + 1) now i u (omega arith) in
    record {
      walk = subst (λ l. IsCombining WithoutOver cs ds l (drop (j + 1) ds) (kept (take (i + 1) (set now i u)))) (sym next)
          (combining-both WithoutOver cs ds c d (drop (i + 1) now) (drop (j + 1) ds) out (kept (take (i + 1) (set now i u))) u.1
          (subst (λ l. heads_order (c ∷ drop (i + 1) now) l ≡ Some Equal) other (subst (λ l. heads_order l (drop j ds) ≡ Some Equal) left order))
          made (grown-behind (is_filled u.1) now i c u refl in_both.0 same made.trie)
          (subst (λ l. IsCombining WithoutOver cs ds (c ∷ drop (i + 1) now) l out) other
          (subst (λ l. IsCombining WithoutOver cs ds l (drop j ds) out) left h.walk)));
      all_kept = all-made now i u any_bare bare in_both.0 made.trie told h.all_kept;
    }

-- where nothing is left of either list, what is kept is combined of both
pub taking-all : (cs ds now : Children) (i j : ℕ) (any_bare : Bool) → drop i now ≡ [] → drop j ds ≡ [] → IsTaking cs ds now i j any_bare
    → IsCombined WithoutOver cs ds (kept now) × AllKept any_bare now
taking-all cs ds now i j any_bare none none_other h =
    let all = all-taken now i none in (
      subst (λ l. IsCombined WithoutOver cs ds (kept l)) all (combining-all WithoutOver cs ds _ _ _ none none_other h.walk),
      subst (AllKept any_bare) all h.all_kept,
    )

-- ---- a walk over the own list

-- up to this place the paths of the others are taken out, each child's counterpart looked for among all of them
pub record IsTakingFound (cs ds now : Children) (i : ℕ) (any_bare : Bool) : Type 0 where
  -- what is made of what is left, behind what is kept so far, is made of the own list
  pub walk : IsFinding WithoutOver cs ds (drop i now) (kept (take i now))
  -- where none is told to have no path left, all are kept
  pub all_kept : AllKept any_bare (take i now)

pub found-none : (cs ds : Children) → rises (elements cs) ≡ true → are_filled_tries cs ≡ true → IsTakingFound cs ds cs 0 false
found-none cs ds rise tries = record { walk = record { own_rise = rise; own_tries = tries; rest = λ us h. h }; all_kept = λ none. refl }

-- the next child is a trie
pub found-next : (cs ds now : Children) (i : ℕ) (any_bare : Bool) (c : Elem × Trie) → i < length now → c ≡ get_or now i c
    → IsTakingFound cs ds now i any_bare → is_trie c.1 ≡ true
found-next cs ds now i any_bare c lt is h =
    let walk = subst (λ l. IsFinding WithoutOver cs ds l (kept (take i now))) (left-at now i c lt is) h.walk in
    both_first (is_trie c.1) _ (both_first (is_trie c.1 && is_filled c.1) _ walk.own_tries)

-- the next child has no counterpart and stays
pub found-own : (cs ds now : Children) (i : ℕ) (any_bare : Bool) (c : Elem × Trie) → rises (elements ds) ≡ true → i < length now → c ≡ get_or now i c
    → child_at (element_view c.0) ds ≡ None → IsTakingFound cs ds now i any_bare → IsTakingFound cs ds now (i + 1) any_bare
found-own cs ds now i any_bare c rise lt is none h =
    let walk = subst (λ l. IsFinding WithoutOver cs ds l (kept (take i now))) (left-at now i c lt is) h.walk in
    let parts = both_first (is_trie c.1 && is_filled c.1) _ walk.own_tries in
    let trie = both_first (is_trie c.1) _ parts in
    let filled = both_second (is_trie c.1) _ parts in
    record {
      walk = finding-alone WithoutOver cs ds c (drop (i + 1) now) (kept (take i now)) (kept (take (i + 1) now)) true refl rise none refl
          (c, record { element = refl; shape_is = refl }, next-kept now i c lt is trie filled) walk;
      all_kept = all-next now i c any_bare lt is trie filled h.all_kept;
    }

-- the next child comes to what is left of it without its counterpart
pub found-both : (cs ds now : Children) (i : ℕ) (any_bare bare : Bool) (c u : Elem × Trie) (d : Trie) → rises (elements ds) ≡ true → i < length now
    → c ≡ get_or now i c → child_at (element_view c.0) ds ≡ Some d → u.0 ≡ c.0 → IsCombination WithoutOver c.1 d u.1 → bare ≡ not (is_filled u.1)
    → IsTakingFound cs ds now i any_bare → IsTakingFound cs ds (set now i u) (i + 1) (any_bare || bare)
found-both cs ds now i any_bare bare c u d rise lt is some same made told h =
    let next = drop-set-lt (i + 1) now i u (omega arith) in
    let new = kept (take (i + 1) (set now i u)) in
    record {
      walk = subst (λ l. IsFinding WithoutOver cs ds l new) (sym next)
          (finding-both WithoutOver cs ds c (drop (i + 1) now) (kept (take i now)) new d u.1 refl rise some made
          (grown-behind (is_filled u.1) now i c u refl lt same made.trie)
          (subst (λ l. IsFinding WithoutOver cs ds l (kept (take i now))) (left-at now i c lt is) h.walk));
      all_kept = all-made now i u any_bare bare lt made.trie told h.all_kept;
    }

-- where nothing is left of the own list, what is kept is combined of both
pub found-all : (cs ds now : Children) (i : ℕ) (any_bare : Bool) → drop i now ≡ [] → IsTakingFound cs ds now i any_bare
    → IsCombined WithoutOver cs ds (kept now) × AllKept any_bare now
found-all cs ds now i any_bare none h =
    let all = all-taken now i none in (
      subst (λ l. IsCombined WithoutOver cs ds (kept l)) all (finding-all WithoutOver cs ds _ _ refl none h.walk),
      subst (AllKept any_bare) all h.all_kept,
    )
