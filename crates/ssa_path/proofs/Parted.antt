-- Two lists of children that rise, parted into what each has alone.
use Rattle.std.proofs.Common.{◌≡◌, ℕ, ◌+◌, [], ◌∷◌, ◌++◌, get_or, drop, Bool, true, false, not, ◌&&◌, Some, None, Less, Equal, Greater, refl, sym, ap, subst, ◌∙◌}
use Rattle.std.specs.Bool.{MatchBool}
use Rattle.std.specs.Ordering.{ordering_reverse}
use Rattle.ssa_model.specs.definitions.Path.{element_cmp}
use Rattle.ssa_path.specs.declared.combine.Combination.TheVariants.{Minus}
use Rattle.ssa_path.specs.declared.element.Elem.{Elem}
use Rattle.ssa_path.specs.declared.trie.Trie.{Trie}
use Rattle.ssa_path.specs.declared.trie.Trie.TheOpen.{Trie-F}
use Rattle.ssa_path.specs.declared.trie.Trie.TheViews.{out-Trie, roll-Trie}
use Rattle.ssa_path.specs.Children.{heads_order}
use Rattle.ssa_path.specs.Combine.{IsCombination, IsCombined, IsGrown, IsKept}
use Rattle.ssa_path.specs.Parting.{IsLeft}
use Rattle.ssa_path.specs.Parting.IsLeft.{Nothing_left, Some_left}
use Rattle.ssa_path.specs.View.{element_view}
use Rattle.ssa_path.specs.Trie.{is_one_of, paths, is_trie, is_filled, IsWithin}
use Rattle.ssa_path.proofs.Combining.{Children, IsCombining, both-within, both-gone, both-at, own-at, other-at, combined-place, combining-all, heads-none}
use Rattle.ssa_path.proofs.Orders.{element_cmp_total, both_second}
use Rattle.ssa_path.proofs.Levels.{one-level-root, some-none, trie-parts}
use Rattle.ssa_path.proofs.Lists.{left-at}

-- ---- how the heads of two lists compare the other way round

reversed : (a b : Elem) → element_cmp (element_view b) (element_view a) ≡ ordering_reverse (element_cmp (element_view a) (element_view b))
reversed a b = element_cmp_total.antisymm (element_view b) (element_view a)

turned-Less : (cs ds : Children) → heads_order cs ds ≡ Some Less → heads_order ds cs ≡ Some Greater
turned-Less [] [] e = cc
turned-Less [] (d ∷ ds) e = let wrong : Greater ≡ Less = cc in cc
turned-Less (c ∷ cs) [] e = refl
turned-Less (c ∷ cs) (d ∷ ds) e = let less : element_cmp (element_view c.0) (element_view d.0) ≡ Less = cc in
    ap Some (reversed c.0 d.0 ∙ ap ordering_reverse less)

turned-Greater : (cs ds : Children) → heads_order cs ds ≡ Some Greater → heads_order ds cs ≡ Some Less
turned-Greater [] [] e = cc
turned-Greater [] (d ∷ ds) e = refl
turned-Greater (c ∷ cs) [] e = let wrong : Less ≡ Greater = cc in cc
turned-Greater (c ∷ cs) (d ∷ ds) e = let greater : element_cmp (element_view c.0) (element_view d.0) ≡ Greater = cc in
    ap Some (reversed c.0 d.0 ∙ ap ordering_reverse greater)

turned-Equal : (cs ds : Children) → heads_order cs ds ≡ Some Equal → heads_order ds cs ≡ Some Equal
turned-Equal [] [] e = cc
turned-Equal [] (d ∷ ds) e = let wrong : Greater ≡ Equal = cc in cc
turned-Equal (c ∷ cs) [] e = let wrong : Less ≡ Equal = cc in cc
turned-Equal (c ∷ cs) (d ∷ ds) e = let tie : element_cmp (element_view c.0) (element_view d.0) ≡ Equal = cc in
    ap Some (reversed c.0 d.0 ∙ ap ordering_reverse tie)

-- ---- what is left of one child beside another

none-left : (x y : Bool) → (x ≡ true → y ≡ true) → false ≡ (x && not y)
none-left false y h = refl
none-left true y h = ap not (sym (h refl))

within-left : (x y : Bool) → false ≡ (x && not y) → x ≡ true → y ≡ true
within-left true true e h = refl
within-left true false e h = e
within-left false y e h = cc

grown-left : (filled : Bool) (c d : Elem × Trie) (t : Trie) (old new : Children) → is_filled t ≡ filled → IsCombination Minus c.1 d.1 t
    → MatchBool filled ((x : Elem) × (element_view x ≡ element_view c.0) × (new ≡ old ++ (x, t) ∷ [])) (new ≡ old) → IsLeft c d old new
grown-left true c d t old new is made (x, same, items) = Some_left (x, t) same made is items
grown-left false c d t old new is made items =
    Nothing_left (λ p. within-left _ _ (ap (λ ps. is_one_of ps p) (sym (some-none (paths t) is)) ∙ made.paths_are p)) items

-- what one child has and the other lacks is what is left of it
pub left-grown : (c d : Elem × Trie) (t : Trie) (old new : Children) → IsCombination Minus c.1 d.1 t → IsGrown (element_view c.0) t old new → IsLeft c d old new
left-grown c d t old new made grown = grown-left (is_filled t) c d t old new refl made grown

-- ---- steps along both lists

gone-both : (cs0 ds0 : Children) (c d : Elem × Trie) (cs ds out new : Children) → heads_order (c ∷ cs) (d ∷ ds) ≡ Some Equal → IsWithin (paths c.1) (paths d.1)
    → new ≡ out → IsCombining Minus cs0 ds0 (c ∷ cs) (d ∷ ds) out → IsCombining Minus cs0 ds0 cs ds new
gone-both cs0 ds0 c d cs ds out new order within same h = record {
  own_rise = both_second _ _ h.own_rise;
  own_tries = both_second (is_trie c.1 && is_filled c.1) _ h.own_tries;
  others_rise = both_second _ _ h.others_rise;
  others_tries = both_second (is_trie d.1 && is_filled d.1) _ h.others_tries;
  rest = λ us g. rw same (h.rest us (both-gone Minus c d cs ds us order h.own_rise h.others_rise (λ p. none-left _ _ (within p)) g));
}

-- the next child of both lists is passed, behind what is left of the first
left-both : (cs ds : Children) (i j : ℕ) (c d : Elem × Trie) (out new : Children) → heads_order (drop i cs) (drop j ds) ≡ Some Equal → c ≡ get_or cs i c
    → d ≡ get_or ds j d → IsLeft c d out new → IsCombining Minus cs ds (drop i cs) (drop j ds) out
    → IsCombining Minus cs ds (drop (i + 1) cs) (drop (j + 1) ds) new
left-both cs ds i j c d out new order is_c is_d (Nothing_left within same) h =
    let in_both = both-within cs ds i j order in
    let left = left-at cs i c in_both.0 is_c in
    let other = left-at ds j d in_both.1 is_d in
    gone-both cs ds c d (drop (i + 1) cs) (drop (j + 1) ds) out new
    (subst (λ l. heads_order (c ∷ drop (i + 1) cs) l ≡ Some Equal) other (subst (λ l. heads_order l (drop j ds) ≡ Some Equal) left order)) within same
    (subst (λ l. IsCombining Minus cs ds (c ∷ drop (i + 1) cs) l out) other (subst (λ l. IsCombining Minus cs ds l (drop j ds) out) left h))
left-both cs ds i j c d out new order is_c is_d (Some_left u same made filled items) h =
    let grown : IsGrown (element_view c.0) u.1 out new =
    subst (λ b. MatchBool b ((x : Elem) × (element_view x ≡ element_view c.0) × (new ≡ out ++ (x, u.1) ∷ [])) (new ≡ out)) (sym filled) (u.0, same, items) in
    both-at Minus cs ds i j c d out new u.1 order is_c is_d made grown h

combining-start : (m n : Trie) (out : Children) → is_trie m ≡ true → is_trie n ≡ true → out ≡ []
    → IsCombining Minus (out-Trie m).below.items (out-Trie n).below.items (out-Trie m).below.items (out-Trie n).below.items out
combining-start m n out a b none =
    let own = trie-parts m _ refl a in
    let other = trie-parts n _ refl b in
    record { own_rise = own.0; own_tries = own.1; others_rise = other.0; others_tries = other.1; rest = λ us h. rw none h }

-- what each list has alone so far, where so many of each were passed
pub record IsParting (cs ds : Children) (i j : ℕ) (own other : Children) : Type 0 where
  pub of_own : IsCombining Minus cs ds (drop i cs) (drop j ds) own
  pub of_other : IsCombining Minus ds cs (drop j ds) (drop i cs) other

-- before the first child of either, none is had alone
pub parting-start : (m n : Trie) (own other : Children) → is_trie m ≡ true → is_trie n ≡ true → own ≡ [] → other ≡ []
    → IsParting (out-Trie m).below.items (out-Trie n).below.items 0 0 own other
parting-start m n own other a b own_none other_none = record {
  of_own = combining-start m n own a b own_none;
  of_other = combining-start n m other b a other_none;
}

-- the next child of the first list is its alone
pub own-alone : (cs ds : Children) (i j : ℕ) (c : Elem × Trie) (own new other : Children) → heads_order (drop i cs) (drop j ds) ≡ Some Less → c ≡ get_or cs i c
    → IsKept true c own new → IsParting cs ds i j own other → IsParting cs ds (i + 1) j new other
own-alone cs ds i j c own new other order is made h = record {
  of_own = own-at Minus cs ds i j c own new true order is refl made h.of_own;
  of_other = other-at Minus ds cs j i c other other false (turned-Less (drop i cs) (drop j ds) order) is refl refl h.of_other;
}

-- the next child of the second list is its alone
pub other-alone : (cs ds : Children) (i j : ℕ) (d : Elem × Trie) (own other new : Children) → heads_order (drop i cs) (drop j ds) ≡ Some Greater
    → d ≡ get_or ds j d → IsKept true d other new → IsParting cs ds i j own other → IsParting cs ds i (j + 1) own new
other-alone cs ds i j d own other new order is made h = record {
  of_own = other-at Minus cs ds i j d own own false order is refl refl h.of_own;
  of_other = own-at Minus ds cs j i d other new true (turned-Greater (drop i cs) (drop j ds) order) is refl made h.of_other;
}

-- the next child of both lists is parted
pub both-left : (cs ds : Children) (i j : ℕ) (c d : Elem × Trie) (own own_new other other_new : Children) → heads_order (drop i cs) (drop j ds) ≡ Some Equal
    → c ≡ get_or cs i c → d ≡ get_or ds j d → IsLeft c d own own_new → IsLeft d c other other_new → IsParting cs ds i j own other
    → IsParting cs ds (i + 1) (j + 1) own_new other_new
both-left cs ds i j c d own own_new other other_new order is_c is_d of_own of_other h = record {
  of_own = left-both cs ds i j c d own own_new order is_c is_d of_own h.of_own;
  of_other = left-both ds cs j i d c other other_new (turned-Equal (drop i cs) (drop j ds) order) is_d is_c of_other h.of_other;
}

-- where no child is left, each list's own are found
pub parting-all : (cs ds : Children) (i j : ℕ) (own other : Children) → heads_order (drop i cs) (drop j ds) ≡ None → IsParting cs ds i j own other
    → IsCombined Minus cs ds own × IsCombined Minus ds cs other
parting-all cs ds i j own other none h =
    let ends = heads-none (drop i cs) (drop j ds) none in
    (combining-all Minus cs ds _ _ own ends.0 ends.1 h.of_own, combining-all Minus ds cs _ _ other ends.1 ends.0 h.of_other)

-- ---- a place over what was parted below

-- a place that the one set has alone, with the children that it has alone, is what it has alone
pub alone-place : (x : Trie-F Trie) (m n : Trie) → x.here ≡ ((out-Trie m).here && not (out-Trie n).here)
    → IsCombined Minus (out-Trie m).below.items (out-Trie n).below.items x.below.items → IsCombination Minus m n (roll-Trie x)
alone-place x m n here h = combined-place Minus x m n (here ∙ ap (λ b. (out-Trie m).here && not b) (sym (one-level-root n))) h
