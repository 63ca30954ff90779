-- Two lists of children that rise, put together from their ends on.
use Rattle.std.proofs.Common.{◌≡◌, ℕ, ◌+◌, ◌<◌, List, [], ◌∷◌, ◌++◌, length, get_or, drop, Bool, true, false, ◌&&◌, ◌||◌, Some, None, Ordering, Less, Equal, Greater, refl, sym, ap, subst, ◌∙◌, true≢false, append_assoc, append-nil, arith, length-drop}
use Rattle.std.specs.Bool.{MatchBool}
use Rattle.std.specs.Ordering.{is_lt, is_eq, ordering_reverse}
use Rattle.std.specs.List.{list_any}
use Rattle.ssa_model.specs.definitions.Path.{Element, Path, element_cmp, same_element, same_path, under}
use Rattle.ssa_path.specs.declared.combine.Combination.{Combination}
use Rattle.ssa_path.specs.declared.combine.Combination.TheVariants.{Union, Minus, Meet, WithoutOver, Over}
use Rattle.ssa_path.specs.declared.element.Elem.{Elem}
use Rattle.ssa_path.specs.declared.trie.Trie.{Trie}
use Rattle.ssa_path.specs.declared.trie.Trie.TheOpen.{Trie-F}
use Rattle.ssa_path.specs.declared.trie.Trie.TheViews.{out-Trie, roll-Trie}
use Rattle.ssa_path.specs.Children.{elements, is_below, rises, heads_order}
use Rattle.ssa_path.specs.Combine.{concerns, is_concerned, keeps, IsCombination, IsCombined, IsKept, IsGrown}
use Rattle.ssa_path.specs.View.{element_view}
use Rattle.ssa_path.specs.Trie.{Shape, is_one_of, paths, paths_below, is_trie, is_filled, has_some, are_filled_tries, IsCopy}
use Rattle.ssa_path.proofs.Orders.{element_cmp_total, not_tied, both_first, both_second}
use Rattle.ssa_path.proofs.Levels.{GoesOn, same_path-reading, under-reading, any-child, any-made, any-level, child-more, one-made-root, one-level-root, is_trie-made, some-none}
use Rattle.ssa_path.proofs.Lists.{left-at}
use Rattle.ssa_model.proofs.Fitting.{same_element-true}
use Rattle.ssa_model.proofs.Basics.{or-false as or_false, both-true as both, lower}

-- ---- how the heads of two lists compare

-- where the first list has ended, the head of the second comes first
pub heads-other : {A B : Type 0} (cs : List (Elem × A)) (ds : List (Elem × B)) → cs ≡ [] → 0 < length ds → heads_order cs ds ≡ Some Greater
heads-other [] [] e h = absurd (omega arith)
heads-other [] (d ∷ ds) e h = refl
heads-other (c ∷ cs) ds e h = cc

-- where the second list has ended, the head of the first comes first
pub heads-own : {A B : Type 0} (cs : List (Elem × A)) (ds : List (Elem × B)) → ds ≡ [] → 0 < length cs → heads_order cs ds ≡ Some Less
heads-own [] ds e h = absurd (omega arith)
heads-own (c ∷ cs) [] e h = refl
heads-own (c ∷ cs) (d ∷ ds) e h = cc

apart : (o q : Ordering) {X : Type 0} → is_lt o ≡ true → is_lt q ≡ false → Some o ≡ Some q → X
apart o q g h e = let same : o ≡ q = cc in absurd (true≢false (sym g ∙ ap is_lt same ∙ h))

some_none : (o : Ordering) {X : Type 0} → None ≡ Some o → X
some_none o e = cc

heads-Less : {A B : Type 0} (cs : List (Elem × A)) (ds : List (Elem × B)) → heads_order cs ds ≡ Some Less → 0 < length cs
heads-Less [] [] e = some_none Less e
heads-Less [] (d ∷ ds) e = apart Less Greater refl refl (sym e)
heads-Less (c ∷ cs) ds e = omega arith

heads-Greater : {A B : Type 0} (cs : List (Elem × A)) (ds : List (Elem × B)) → heads_order cs ds ≡ Some Greater → 0 < length ds
heads-Greater [] [] e = some_none Greater e
heads-Greater (c ∷ cs) [] e = apart Less Greater refl refl e
heads-Greater cs (d ∷ ds) e = omega arith

heads-Equal-own : {A B : Type 0} (cs : List (Elem × A)) (ds : List (Elem × B)) → heads_order cs ds ≡ Some Equal → 0 < length cs
heads-Equal-own [] [] e = some_none Equal e
heads-Equal-own [] (d ∷ ds) e = let wrong : Greater ≡ Equal = cc in cc
heads-Equal-own (c ∷ cs) ds e = omega arith

heads-Equal-other : {A B : Type 0} (cs : List (Elem × A)) (ds : List (Elem × B)) → heads_order cs ds ≡ Some Equal → 0 < length ds
heads-Equal-other [] [] e = some_none Equal e
heads-Equal-other (c ∷ cs) [] e = apart Less Equal refl refl e
heads-Equal-other cs (d ∷ ds) e = omega arith

-- where no head comes first, both lists have ended
pub heads-none : {A B : Type 0} (cs : List (Elem × A)) (ds : List (Elem × B)) → heads_order cs ds ≡ None → (cs ≡ []) × (ds ≡ [])
heads-none [] [] e = (refl, refl)
heads-none (c ∷ cs) [] e = cc
heads-none [] (d ∷ ds) e = cc
heads-none (c ∷ cs) (d ∷ ds) e = cc

within : {A : Type 0} (cs : List A) (i : ℕ) → 0 < length (drop i cs) → i < length cs
within cs i h = let n = length-drop i cs in omega arith

-- where the head of the first list comes first, its place is within the list
pub own-within : {A B : Type 0} (cs : List (Elem × A)) (ds : List (Elem × B)) (i : ℕ) → heads_order (drop i cs) ds ≡ Some Less → i < length cs
own-within cs ds i e = within cs i (heads-Less (drop i cs) ds e)

-- where the head of the second list comes first, its place is within the list
pub other-within : {A B : Type 0} (cs : List (Elem × A)) (ds : List (Elem × B)) (j : ℕ) → heads_order cs (drop j ds) ≡ Some Greater → j < length ds
other-within cs ds j e = within ds j (heads-Greater cs (drop j ds) e)

-- where the heads tie, both places are within their lists
pub both-within : {A B : Type 0} (cs : List (Elem × A)) (ds : List (Elem × B)) (i j : ℕ) → heads_order (drop i cs) (drop j ds) ≡ Some Equal → (i < length cs)
    × (j < length ds)
both-within cs ds i j e = (within cs i (heads-Equal-own (drop i cs) (drop j ds) e), within ds j (heads-Equal-other (drop i cs) (drop j ds) e))

-- ---- what is below an element

below-trans : (e f : Element) (gs : List Element) → element_cmp e f ≡ Less → is_below f gs ≡ true → is_below e gs ≡ true
below-trans e f [] h b = refl
below-trans e f (g ∷ gs) h b = both _ _ (ap is_lt (element_cmp_total.trans e f g h (lower _ (both_first _ _ b)))) (below-trans e f gs h (both_second _ _ b))

-- a head of the first list that comes first is below all of the second list
pub own-first : {A B : Type 0} (c : Elem × A) (cs : List (Elem × A)) (ds : List (Elem × B)) → heads_order (c ∷ cs) ds ≡ Some Less → rises (elements ds) ≡ true
    → is_below (element_view c.0) (elements ds) ≡ true
own-first c cs [] e h = refl
own-first c cs (d ∷ ds) e h =
    let less : element_cmp (element_view c.0) (element_view d.0) ≡ Less = cc in
    both _ _ (ap is_lt less) (below-trans (element_view c.0) (element_view d.0) (elements ds) less (both_first _ _ h))

-- a head of the second list that comes first is below all of the first list
pub other-first : {A B : Type 0} (cs : List (Elem × A)) (d : Elem × B) (ds : List (Elem × B)) → heads_order cs (d ∷ ds) ≡ Some Greater
    → rises (elements cs) ≡ true → is_below (element_view d.0) (elements cs) ≡ true
other-first [] d ds e h = refl
other-first (c ∷ cs) d ds e h =
    let greater : element_cmp (element_view c.0) (element_view d.0) ≡ Greater = cc in
    let less : element_cmp (element_view d.0) (element_view c.0) ≡ Less = element_cmp_total.antisymm (element_view d.0) (element_view c.0)
    ∙ ap ordering_reverse greater in
    both _ _ (ap is_lt less) (below-trans (element_view d.0) (element_view c.0) (elements cs) less (both_first _ _ h))

-- children behind an element have no path that begins with it
pub absent : (R : Path → Path → Bool) → GoesOn R → (e f : Element) (cs : List (Elem × Trie)) (p : Path) → same_element e f ≡ true
    → is_below f (elements cs) ≡ true → list_any (R (e ∷ p)) (paths_below cs) ≡ false
absent R more e f [] p s h = refl
absent R more e f (c ∷ cs) p s h =
    let other : same_element e (element_view c.0) ≡ false = ap (λ x. same_element x (element_view c.0)) (same_element-true e f s)
    ∙ not_tied _ (both_first _ _ h) in
    child-more R more e c cs p
    ∙ (λ i. (other i && list_any (R p) (paths c.1)) || absent R more e f cs p s (both_second _ _ h) i)

-- ---- how the other set concerns a path

pub concerns-more : (how : Combination) → GoesOn (concerns how)
concerns-more Union = same_path-reading.more
concerns-more Minus = same_path-reading.more
concerns-more Meet = same_path-reading.more
concerns-more WithoutOver = under-reading.more
concerns-more Over = under-reading.more

-- ---- one element more in front: s says whether the path begins with it, x and y what the lists hold there, v what is made of that

keeps-none : (how : Combination) → keeps how false false ≡ false
keeps-none Union = refl
keeps-none Minus = refl
keeps-none Meet = refl
keeps-none WithoutOver = refl
keeps-none Over = refl

front : (how : Combination) (s x y a b u v : Bool) → v ≡ keeps how x y → (s ≡ true → (a ≡ false) × (b ≡ false)) → u ≡ keeps how a b
    → ((s && v) || u) ≡ keeps how ((s && x) || a) ((s && y) || b)
front how false x y a b u v made none rest = rest
front how true x y a b u v made none rest =
    let own : a ≡ false = (none refl).0 in
    let other : b ≡ false = (none refl).1 in
    let empty : u ≡ false = rest ∙ (λ i. keeps how (own i) (other i)) ∙ keeps-none how in
    ap (λ w. v || w) empty ∙ or_false v ∙ made ∙ (λ i. keeps how (sym (or_false x) i) (sym (or_false y) i))
    ∙ (λ i. keeps how (x || sym own i) (y || sym other i))

pub keeps-own : (how : Combination) (x : Bool) → keeps how true false ≡ true → x ≡ keeps how x false
keeps-own Union true h = refl
keeps-own Union false h = refl
keeps-own Minus true h = refl
keeps-own Minus false h = refl
keeps-own Meet x h = absurd (true≢false (sym h))
keeps-own WithoutOver true h = refl
keeps-own WithoutOver false h = refl
keeps-own Over x h = absurd (true≢false (sym h))

pub drops-own : (how : Combination) (x : Bool) → keeps how true false ≡ false → false ≡ keeps how x false
drops-own Union x h = absurd (true≢false h)
drops-own Minus x h = absurd (true≢false h)
drops-own Meet true h = refl
drops-own Meet false h = refl
drops-own WithoutOver x h = absurd (true≢false h)
drops-own Over true h = refl
drops-own Over false h = refl

keeps-other : (how : Combination) (ps : List Path) (p : Path) → keeps how false true ≡ true → is_one_of ps p ≡ keeps how false (is_concerned how ps p)
keeps-other Union ps p h = refl
keeps-other Minus ps p h = absurd (true≢false (sym h))
keeps-other Meet ps p h = absurd (true≢false (sym h))
keeps-other WithoutOver ps p h = absurd (true≢false (sym h))
keeps-other Over ps p h = absurd (true≢false (sym h))

pub drops-other : (how : Combination) (y : Bool) → keeps how false true ≡ false → false ≡ keeps how false y
drops-other Union y h = absurd (true≢false h)
drops-other Minus y h = refl
drops-other Meet y h = refl
drops-other WithoutOver y h = refl
drops-other Over y h = refl

-- a test that never passes adds nothing to another
pub gone : (s a : Bool) → ((s && false) || a) ≡ a
gone true a = refl
gone false a = refl

-- ---- steps, from the end of the lists to their front

-- of no children nothing is combined
pub combined-none : (how : Combination) → IsCombined how [] [] []
combined-none how = record { paths_are = λ e p. sym (keeps-none how); risen = refl; tries = refl; lower = λ e g h. refl }

abbrev pub Children : Type 0
Children = List (Elem × Trie)

abbrev pub holds : Children → Element → Path → Bool
holds cs e p = is_one_of (paths_below cs) (e ∷ p)

-- the other list's paths concern the path
abbrev pub meets : Combination → Children → Element → Path → Bool
meets how ds e p = is_concerned how (paths_below ds) (e ∷ p)

meets-child : (how : Combination) (e : Element) (d : Elem × Trie) (ds : Children) (p : Path)
    → meets how (d ∷ ds) e p ≡ ((same_element e (element_view d.0) && is_concerned how (paths d.1) p) || meets how ds e p)
meets-child how = child-more (concerns how) (concerns-more how)

-- what rises behind the heads of both lists, with the head's element in front
module _ (how : Combination) (f : Element) (cs ds us : Children) (own : is_below f (elements cs) ≡ true) (other : is_below f (elements ds) ≡ true)
    (h : IsCombined how cs ds us) where
  none_behind : (e : Element) (p : Path) → same_element e f ≡ true → (holds cs e p ≡ false) × (meets how ds e p ≡ false)
  none_behind e p s = (absent same_path same_path-reading.more e f cs p s own, absent (concerns how) (concerns-more how) e f ds p s other)

  -- what is made of the heads, where x and y are what they hold
  fronted : (x y v : Path → Bool) → ((p : Path) → v p ≡ keeps how (x p) (y p)) → (e : Element) (p : Path)
      → ((same_element e f && v p) || holds us e p) ≡ keeps how ((same_element e f && x p) || holds cs e p) ((same_element e f && y p) || meets how ds e p)
  fronted x y v made e p = front how (same_element e f) (x p) (y p) (holds cs e p) (meets how ds e p) (holds us e p) (v p) (made p) (none_behind e p)
      (h.paths_are e p)

  first-below : is_below f (elements us) ≡ true
  first-below = h.lower f own other

  -- the child u in front of the others
  risen-more : (u : Elem × Trie) → element_view u.0 ≡ f → rises (elements (u ∷ us)) ≡ true
  risen-more u e = both _ _ (ap (λ g. is_below g (elements us)) e ∙ first-below) h.risen

  tries-more : (u : Elem × Trie) → is_trie u.1 ≡ true → is_filled u.1 ≡ true → are_filled_tries (u ∷ us) ≡ true
  tries-more u a b = both _ _ (both _ _ a b) h.tries

-- with a child in front, a path is held by this child, under its element, or by the others
pub holds-first : (u : Elem × Trie) (us : Children) (f : Element) (e : Element) (p : Path) → element_view u.0 ≡ f
    → holds (u ∷ us) e p ≡ ((same_element e f && is_one_of (paths u.1) p) || holds us e p)
holds-first u us f e p is = any-child same_path same_path-reading e u us p ∙ ap (λ g. (same_element e g && is_one_of (paths u.1) p) || holds us e p) is

abbrev pub nothing : Path → Bool
nothing p = false

meets-first : (how : Combination) (d : Elem × Trie) (ds : Children) (f : Element) (e : Element) (p : Path) → element_view d.0 ≡ f
    → meets how (d ∷ ds) e p ≡ ((same_element e f && is_concerned how (paths d.1) p) || meets how ds e p)
meets-first how d ds f e p is = meets-child how e d ds p ∙ ap (λ g. (same_element e g && is_concerned how (paths d.1) p) || meets how ds e p) is

-- the own list's head has the first element
pub own-kept : (how : Combination) (c : Elem × Trie) (cs ds us : Children) (u : Elem × Trie) → heads_order (c ∷ cs) ds ≡ Some Less
    → rises (elements (c ∷ cs)) ≡ true → rises (elements ds) ≡ true → are_filled_tries (c ∷ cs) ≡ true
    → keeps how true false ≡ true → IsCopy c u → IsCombined how cs ds us → IsCombined how (c ∷ cs) ds (u ∷ us)
own-kept how c cs ds us u order own_rise other_rise tries kept copy h =
    let f = element_view c.0 in
    let own = both_first (is_below f (elements cs)) _ own_rise in
    let other = own-first c cs ds order other_rise in
    let parts = both_first (is_trie c.1 && is_filled c.1) _ tries in
    record {
      paths_are = λ e p.
          holds-first u us f e p copy.element
          ∙ ap (λ (s : Shape). (same_element e f && is_one_of s.0 p) || holds us e p) copy.shape_is
          ∙ fronted how f cs ds us own other h (is_one_of (paths c.1)) nothing (is_one_of (paths c.1)) (λ q. keeps-own how (is_one_of (paths c.1) q) kept) e p
          ∙ (λ i. keeps how (sym (any-child same_path same_path-reading e c cs p) i) (gone (same_element e f) (meets how ds e p) i));
      risen = risen-more how f cs ds us own other h u copy.element;
      tries = tries-more how f cs ds us own other h u (ap (λ (s : Shape). s.1) copy.shape_is
          ∙ both_first (is_trie c.1) _ parts) (ap (λ (s : Shape). has_some s.0) copy.shape_is ∙ both_second (is_trie c.1) _ parts);
      lower = λ e a b. both _ _ (ap (λ g. is_lt (element_cmp e g)) copy.element ∙ both_first _ _ a) (h.lower e (both_second _ _ a) b);
    }

-- a head of the first list alone is left out, where the combination keeps no such path
pub own-dropped : (how : Combination) (c : Elem × Trie) (cs ds us : Children) → heads_order (c ∷ cs) ds ≡ Some Less → rises (elements (c ∷ cs)) ≡ true
    → rises (elements ds) ≡ true
    → keeps how true false ≡ false → IsCombined how cs ds us → IsCombined how (c ∷ cs) ds us
own-dropped how c cs ds us order own_rise other_rise kept h =
    let f = element_view c.0 in
    let own = both_first (is_below f (elements cs)) _ own_rise in
    let other = own-first c cs ds order other_rise in
    record {
      paths_are = λ e p.
          sym (gone (same_element e f) (holds us e p))
          ∙ fronted how f cs ds us own other h (is_one_of (paths c.1)) nothing nothing (λ q. drops-own how (is_one_of (paths c.1) q) kept) e p
          ∙ (λ i. keeps how (sym (any-child same_path same_path-reading e c cs p) i) (gone (same_element e f) (meets how ds e p) i));
      risen = h.risen;
      tries = h.tries;
      lower = λ e a b. h.lower e (both_second _ _ a) b;
    }

-- the other list's head has the first element
pub other-kept : (how : Combination) (cs : Children) (d : Elem × Trie) (ds us : Children) (u : Elem × Trie) → heads_order cs (d ∷ ds) ≡ Some Greater
    → rises (elements cs) ≡ true → rises (elements (d ∷ ds)) ≡ true → are_filled_tries (d ∷ ds) ≡ true
    → keeps how false true ≡ true → IsCopy d u → IsCombined how cs ds us → IsCombined how cs (d ∷ ds) (u ∷ us)
other-kept how cs d ds us u order own_rise other_rise tries kept copy h =
    let f = element_view d.0 in
    let own = other-first cs d ds order own_rise in
    let other = both_first (is_below f (elements ds)) _ other_rise in
    let parts = both_first (is_trie d.1 && is_filled d.1) _ tries in
    record {
      paths_are = λ e p.
          holds-first u us f e p copy.element
          ∙ ap (λ (s : Shape). (same_element e f && is_one_of s.0 p) || holds us e p) copy.shape_is
          ∙ fronted how f cs ds us own other h nothing (is_concerned how (paths d.1)) (is_one_of (paths d.1)) (λ q. keeps-other how (paths d.1) q kept) e p
          ∙ (λ i. keeps how (gone (same_element e f) (holds cs e p) i) (sym (meets-child how e d ds p) i));
      risen = risen-more how f cs ds us own other h u copy.element;
      tries = tries-more how f cs ds us own other h u (ap (λ (s : Shape). s.1) copy.shape_is
          ∙ both_first (is_trie d.1) _ parts) (ap (λ (s : Shape). has_some s.0) copy.shape_is ∙ both_second (is_trie d.1) _ parts);
      lower = λ e a b. both _ _ (ap (λ g. is_lt (element_cmp e g)) copy.element ∙ both_first _ _ b) (h.lower e a (both_second _ _ b));
    }

-- a head of the second list alone is left out, where the combination keeps no such path
pub other-dropped : (how : Combination) (cs : Children) (d : Elem × Trie) (ds us : Children) → heads_order cs (d ∷ ds) ≡ Some Greater
    → rises (elements cs) ≡ true → rises (elements (d ∷ ds)) ≡ true
    → keeps how false true ≡ false → IsCombined how cs ds us → IsCombined how cs (d ∷ ds) us
other-dropped how cs d ds us order own_rise other_rise kept h =
    let f = element_view d.0 in
    let own = other-first cs d ds order own_rise in
    let other = both_first (is_below f (elements ds)) _ other_rise in
    record {
      paths_are = λ e p.
          sym (gone (same_element e f) (holds us e p))
          ∙ fronted how f cs ds us own other h nothing (is_concerned how (paths d.1)) nothing (λ q. drops-other how (is_concerned how (paths d.1) q) kept) e p
          ∙ (λ i. keeps how (gone (same_element e f) (holds cs e p) i) (sym (meets-child how e d ds p) i));
      risen = h.risen;
      tries = h.tries;
      lower = λ e a b. h.lower e a (both_second _ _ b);
    }

-- heads that tie have one element
pub tied-heads : {A B : Type 0} (c : Elem × A) (d : Elem × B) (cs : List (Elem × A)) (ds : List (Elem × B)) → heads_order (c ∷ cs) (d ∷ ds) ≡ Some Equal
    → element_view c.0 ≡ element_view d.0
tied-heads c d cs ds e =
    let tie : element_cmp (element_view c.0) (element_view d.0) ≡ Equal = cc in
    same_element-true (element_view c.0) (element_view d.0) (ap is_eq tie)

-- both heads have the first element
pub both-kept : (how : Combination) (c d : Elem × Trie) (cs ds us : Children) (u : Elem × Trie) → heads_order (c ∷ cs) (d ∷ ds) ≡ Some Equal
    → rises (elements (c ∷ cs)) ≡ true → rises (elements (d ∷ ds)) ≡ true
    → element_view u.0 ≡ element_view c.0 → IsCombination how c.1 d.1 u.1 → is_filled u.1 ≡ true → IsCombined how cs ds us
    → IsCombined how (c ∷ cs) (d ∷ ds) (u ∷ us)
both-kept how c d cs ds us u order own_rise other_rise is made filled h =
    let f = element_view c.0 in
    let same = tied-heads c d cs ds order in
    let own = both_first (is_below f (elements cs)) _ own_rise in
    let other = ap (λ g. is_below g (elements ds)) same ∙ both_first (is_below (element_view d.0) (elements ds)) _ other_rise in
    record {
      paths_are = λ e p.
          holds-first u us f e p is
          ∙ fronted how f cs ds us own other h (is_one_of (paths c.1)) (is_concerned how (paths d.1)) (is_one_of (paths u.1)) made.paths_are e p
          ∙ (λ i. keeps how (sym (any-child same_path same_path-reading e c cs p) i) (sym (meets-first how d ds f e p (sym same)) i));
      risen = risen-more how f cs ds us own other h u is;
      tries = tries-more how f cs ds us own other h u made.trie filled;
      lower = λ e a b. both _ _ (ap (λ g. is_lt (element_cmp e g)) is ∙ both_first _ _ a) (h.lower e (both_second _ _ a) (both_second _ _ b));
    }

-- heads of one element are left out, where their combination keeps no path
pub both-gone : (how : Combination) (c d : Elem × Trie) (cs ds us : Children) → heads_order (c ∷ cs) (d ∷ ds) ≡ Some Equal
    → rises (elements (c ∷ cs)) ≡ true → rises (elements (d ∷ ds)) ≡ true
    → ((p : Path) → false ≡ keeps how (is_one_of (paths c.1) p) (is_concerned how (paths d.1) p)) → IsCombined how cs ds us
    → IsCombined how (c ∷ cs) (d ∷ ds) us
both-gone how c d cs ds us order own_rise other_rise none h =
    let f = element_view c.0 in
    let same = tied-heads c d cs ds order in
    let own = both_first (is_below f (elements cs)) _ own_rise in
    let other = ap (λ g. is_below g (elements ds)) same ∙ both_first (is_below (element_view d.0) (elements ds)) _ other_rise in
    record {
      paths_are = λ e p.
          sym (gone (same_element e f) (holds us e p))
          ∙ fronted how f cs ds us own other h (is_one_of (paths c.1)) (is_concerned how (paths d.1)) nothing none e p
          ∙ (λ i. keeps how (sym (any-child same_path same_path-reading e c cs p) i) (sym (meets-first how d ds f e p (sym same)) i));
      risen = h.risen;
      tries = h.tries;
      lower = λ e a b. h.lower e (both_second _ _ a) (both_second _ _ b);
    }

-- heads of one element are left out, where their combination has no path
pub both-dropped : (how : Combination) (c d : Elem × Trie) (cs ds us : Children) (t : Trie) → heads_order (c ∷ cs) (d ∷ ds) ≡ Some Equal
    → rises (elements (c ∷ cs)) ≡ true → rises (elements (d ∷ ds)) ≡ true
    → IsCombination how c.1 d.1 t → is_filled t ≡ false → IsCombined how cs ds us → IsCombined how (c ∷ cs) (d ∷ ds) us
both-dropped how c d cs ds us t order own_rise other_rise made none h =
    both-gone how c d cs ds us order own_rise other_rise (λ q. ap (λ ps. is_one_of ps q) (sym (some-none (paths t) none)) ∙ made.paths_are q) h

-- ---- a walk over both lists

-- whatever is made of what is left of both lists, behind what was made so far it is made of both lists
pub record IsCombining (how : Combination) (cs0 ds0 cs ds out : Children) : Type 0 where
  -- what is left of the first list rises
  pub own_rise : rises (elements cs) ≡ true
  -- each of it is a trie with some path
  pub own_tries : are_filled_tries cs ≡ true
  -- what is left of the second list rises
  pub others_rise : rises (elements ds) ≡ true
  -- each of it is a trie with some path
  pub others_tries : are_filled_tries ds ≡ true
  -- what is combined of what is left, behind what is there, is combined of both lists
  pub rest : (us : Children) → IsCombined how cs ds us → IsCombined how cs0 ds0 (out ++ us)

-- where nothing is left, what is there is combined of both lists
pub combining-all : (how : Combination) (cs0 ds0 cs ds out : Children) → cs ≡ [] → ds ≡ [] → IsCombining how cs0 ds0 cs ds out → IsCombined how cs0 ds0 out
combining-all how cs0 ds0 cs ds out e f h =
    let left : IsCombined how cs ds [] = rw (e, f) (combined-none how) in
    subst (IsCombined how cs0 ds0) (append-nil out) (h.rest [] left)

pushed : (how : Combination) (cs0 ds0 : Children) (out us : Children) (u : Elem × Trie) → IsCombined how cs0 ds0 (out ++ u ∷ us)
    → IsCombined how cs0 ds0 ((out ++ u ∷ []) ++ us)
pushed how cs0 ds0 out us u h = subst (IsCombined how cs0 ds0) (sym (append_assoc out (u ∷ []) us)) h

pub combining-own : (how : Combination) (cs0 ds0 : Children) (c : Elem × Trie) (cs ds out new : Children) (kept : Bool) → heads_order (c ∷ cs) ds ≡ Some Less
    → kept ≡ keeps how true false → IsKept kept c out new
    → IsCombining how cs0 ds0 (c ∷ cs) ds out → IsCombining how cs0 ds0 cs ds new
combining-own how cs0 ds0 c cs ds out new true order is (u, copy, items) h = record {
  own_rise = both_second _ _ h.own_rise;
  own_tries = both_second (is_trie c.1 && is_filled c.1) _ h.own_tries;
  others_rise = h.others_rise;
  others_tries = h.others_tries;
  rest = λ us g. rw items (pushed how cs0 ds0 out us u (h.rest (u ∷ us)
      (own-kept how c cs ds us u order h.own_rise h.others_rise h.own_tries (sym is) copy g)));
}
combining-own how cs0 ds0 c cs ds out new false order is items h = record {
  own_rise = both_second _ _ h.own_rise;
  own_tries = both_second (is_trie c.1 && is_filled c.1) _ h.own_tries;
  others_rise = h.others_rise;
  others_tries = h.others_tries;
  rest = λ us g. rw items (h.rest us (own-dropped how c cs ds us order h.own_rise h.others_rise (sym is) g));
}

pub combining-other : (how : Combination) (cs0 ds0 cs : Children) (d : Elem × Trie) (ds out new : Children) (kept : Bool) → heads_order cs (d ∷ ds) ≡ Some Greater
    → kept ≡ keeps how false true → IsKept kept d out new
    → IsCombining how cs0 ds0 cs (d ∷ ds) out → IsCombining how cs0 ds0 cs ds new
combining-other how cs0 ds0 cs d ds out new true order is (u, copy, items) h = record {
  own_rise = h.own_rise;
  own_tries = h.own_tries;
  others_rise = both_second _ _ h.others_rise;
  others_tries = both_second (is_trie d.1 && is_filled d.1) _ h.others_tries;
  rest = λ us g. rw items (pushed how cs0 ds0 out us u (h.rest (u ∷ us)
      (other-kept how cs d ds us u order h.own_rise h.others_rise h.others_tries (sym is) copy g)));
}
combining-other how cs0 ds0 cs d ds out new false order is items h = record {
  own_rise = h.own_rise;
  own_tries = h.own_tries;
  others_rise = both_second _ _ h.others_rise;
  others_tries = both_second (is_trie d.1 && is_filled d.1) _ h.others_tries;
  rest = λ us g. rw items (h.rest us (other-dropped how cs d ds us order h.own_rise h.others_rise (sym is) g));
}

grown-cases : (filled : Bool) (how : Combination) (cs0 ds0 : Children) (c d : Elem × Trie) (cs ds out new : Children) (t : Trie) → is_filled t ≡ filled
    → heads_order (c ∷ cs) (d ∷ ds) ≡ Some Equal → IsCombination how c.1 d.1 t
    → MatchBool filled ((x : Elem) × (element_view x ≡ element_view c.0) × (new ≡ out ++ (x, t) ∷ [])) (new ≡ out)
    → IsCombining how cs0 ds0 (c ∷ cs) (d ∷ ds) out → (us : Children) → IsCombined how cs ds us → IsCombined how cs0 ds0 (new ++ us)
grown-cases true how cs0 ds0 c d cs ds out new t is order made (x, same, items) h us g =
    rw items (pushed how cs0 ds0 out us (x, t) (h.rest ((x, t) ∷ us) (both-kept how c d cs ds us (x, t) order h.own_rise h.others_rise same made is g)))
grown-cases false how cs0 ds0 c d cs ds out new t is order made items h us g =
    rw items (h.rest us (both-dropped how c d cs ds us t order h.own_rise h.others_rise made is g))

pub combining-both : (how : Combination) (cs0 ds0 : Children) (c d : Elem × Trie) (cs ds out new : Children) (t : Trie)
    → heads_order (c ∷ cs) (d ∷ ds) ≡ Some Equal → IsCombination how c.1 d.1 t → IsGrown (element_view c.0) t out new
    → IsCombining how cs0 ds0 (c ∷ cs) (d ∷ ds) out → IsCombining how cs0 ds0 cs ds new
combining-both how cs0 ds0 c d cs ds out new t order made grown h = record {
  own_rise = both_second _ _ h.own_rise;
  own_tries = both_second (is_trie c.1 && is_filled c.1) _ h.own_tries;
  others_rise = both_second _ _ h.others_rise;
  others_tries = both_second (is_trie d.1 && is_filled d.1) _ h.others_tries;
  rest = grown-cases (is_filled t) how cs0 ds0 c d cs ds out new t refl order made grown h;
}

-- ---- the same at places in the lists

-- the next child of the first list alone is passed, and copied where it is kept
pub own-at : (how : Combination) (cs ds : Children) (i j : ℕ) (c : Elem × Trie) (out new : Children) (kept : Bool)
    → heads_order (drop i cs) (drop j ds) ≡ Some Less → c ≡ get_or cs i c → kept ≡ keeps how true false → IsKept kept c out new
    → IsCombining how cs ds (drop i cs) (drop j ds) out → IsCombining how cs ds (drop (i + 1) cs) (drop j ds) new
own-at how cs ds i j c out new kept order is kept_is made h =
    let left = left-at cs i c (own-within cs (drop j ds) i order) is in
    combining-own how cs ds c (drop (i + 1) cs) (drop j ds) out new kept (subst (λ l. heads_order l (drop j ds) ≡ Some Less) left order) kept_is made
    (subst (λ l. IsCombining how cs ds l (drop j ds) out) left h)

-- the next child of the second list alone is passed, and copied where it is kept
pub other-at : (how : Combination) (cs ds : Children) (i j : ℕ) (d : Elem × Trie) (out new : Children) (kept : Bool)
    → heads_order (drop i cs) (drop j ds) ≡ Some Greater → d ≡ get_or ds j d → kept ≡ keeps how false true → IsKept kept d out new
    → IsCombining how cs ds (drop i cs) (drop j ds) out → IsCombining how cs ds (drop i cs) (drop (j + 1) ds) new
other-at how cs ds i j d out new kept order is kept_is made h =
    let left = left-at ds j d (other-within (drop i cs) ds j order) is in
    combining-other how cs ds (drop i cs) d (drop (j + 1) ds) out new kept (subst (λ l. heads_order (drop i cs) l ≡ Some Greater) left order) kept_is made
    (subst (λ l. IsCombining how cs ds (drop i cs) l out) left h)

-- the next child of both lists is passed, with their combination where it has some path
pub both-at : (how : Combination) (cs ds : Children) (i j : ℕ) (c d : Elem × Trie) (out new : Children) (t : Trie)
    → heads_order (drop i cs) (drop j ds) ≡ Some Equal → c ≡ get_or cs i c → d ≡ get_or ds j d
    → IsCombination how c.1 d.1 t → IsGrown (element_view c.0) t out new
    → IsCombining how cs ds (drop i cs) (drop j ds) out → IsCombining how cs ds (drop (i + 1) cs) (drop (j + 1) ds) new
both-at how cs ds i j c d out new t order is_c is_d made grown h =
    let in_both = both-within cs ds i j order in
    let left = left-at cs i c in_both.0 is_c in
    let other = left-at ds j d in_both.1 is_d in
    combining-both how cs ds c d (drop (i + 1) cs) (drop (j + 1) ds) out new t
    (subst (λ l. heads_order (c ∷ drop (i + 1) cs) l ≡ Some Equal) other (subst (λ l. heads_order l (drop j ds) ≡ Some Equal) left order)) made grown
    (subst (λ l. IsCombining how cs ds (c ∷ drop (i + 1) cs) l out) other (subst (λ l. IsCombining how cs ds l (drop j ds) out) left h))

-- ---- a place over what was put together below

-- what concerns a path with an element in front is what is below
concerned-level : (how : Combination) (n : Trie) (e : Element) (p : Path)
    → is_concerned how (paths n) (e ∷ p) ≡ is_concerned how (paths_below (out-Trie n).below.items) (e ∷ p)
concerned-level Union n e p = any-level same_path same_path-reading n e p
concerned-level Minus n e p = any-level same_path same_path-reading n e p
concerned-level Meet n e p = any-level same_path same_path-reading n e p
concerned-level WithoutOver n e p = any-level under under-reading n e p
concerned-level Over n e p = any-level under under-reading n e p

-- a place that is kept or not, with combined children, makes the combination
pub combined-place : (how : Combination) (x : Trie-F Trie) (m n : Trie)
    → x.here ≡ keeps how (out-Trie m).here (is_concerned how (paths n) []) → IsCombined how (out-Trie m).below.items (out-Trie n).below.items x.below.items
    → IsCombination how m n (roll-Trie x)
combined-place how x m n here h = record { paths_are = held; trie = is_trie-made x h.risen h.tries }
  where
    held : (p : Path) → is_one_of (paths (roll-Trie x)) p ≡ keeps how (is_one_of (paths m) p) (is_concerned how (paths n) p)
    held [] = one-made-root x ∙ here ∙ ap (λ b. keeps how b (is_concerned how (paths n) [])) (sym (one-level-root m))
    held (e ∷ p) =
        any-made same_path same_path-reading x e p ∙ h.paths_are e p
        ∙ (λ i. keeps how (sym (any-level same_path same_path-reading m e p) i) (sym (concerned-level how n e p) i))
