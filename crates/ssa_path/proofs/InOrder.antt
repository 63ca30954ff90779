-- The paths of a trie are in path order, and a set of paths in order lists just these.
use Rattle.std.proofs.Common.{◌≡◌, ℕ, ◌+◌, ◌-◌, ◌^◌, ◌<◌, ◌≤◌, List, [], ◌∷◌, ◌++◌, length, get_or, take, map, Bool, true, false, ◌&&◌, Less, refl, sym, ap, subst, ◌∙◌, append_assoc, append-nil, arith, min, length-append}
use Rattle.std.proofs.lemmas.List.{take_more, take_all}
use Rattle.std.proofs.Math.Seq.{take-append_seam}
use Rattle.std.specs.Cmp.{tied_itself}
use Rattle.std.specs.Ordering.{is_lt, ordering_then}
use Rattle.std.specs.FinMap.Entries.{put, by_order}
use Rattle.ssa_model.specs.definitions.Path.{Element, Path, element_cmp, path_cmp}
use Rattle.ssa_model.specs.definitions.PathMap.{paths as set_paths, size, listed, marked}
use Rattle.ssa_path.specs.Children.{elements, is_below, rises}
use Rattle.ssa_path.specs.View.{element_view}
use Rattle.ssa_path.specs.Listing.{behind, stands_before, paths_rise, IsListed}
use Rattle.ssa_path.specs.Trie.{are_filled_tries, here_path, is_filled, is_trie, paths, paths_after, paths_below}
use Rattle.ssa_path.specs.declared.element.Elem.{Elem}
use Rattle.ssa_path.specs.declared.trie.Trie.{Trie}
use Rattle.ssa_path.specs.declared.trie.Trie.TheFolds.{ind-Trie}
use Rattle.ssa_path.specs.declared.trie.Trie.TheOpen.{Trie-F}
use Rattle.ssa_path.specs.declared.trie.Trie.TheViews.{out-Trie}
use Rattle.ssa_path.proofs.Orders.{element_cmp_total, both_first, both_second}
use Rattle.ssa_path.proofs.Levels.{paths-level, paths-made, shape-made, trie-parts}
use Rattle.ssa_path.proofs.Lists.{paths_below-append}
use Rattle.ssa_model.proofs.Basics.{both-true as both, lower}

-- ---- in path order

before-append : (p : Path) (ps qs : List Path) → stands_before p ps ≡ true → stands_before p qs ≡ true → stands_before p (ps ++ qs) ≡ true
before-append p [] qs g h = h
before-append p (x ∷ ps) qs g h = both _ _ (both_first _ _ g) (before-append p ps qs (both_second _ _ g) h)

root-before-after : (e : Element) (ps : List Path) → stands_before [] (paths_after e ps) ≡ true
root-before-after e [] = refl
root-before-after e (p ∷ ps) = root-before-after e ps

root-before-below : (cs : List (Elem × Trie)) → stands_before [] (paths_below cs) ≡ true
root-before-below [] = refl
root-before-below (c ∷ cs) = before-append [] (paths_after (element_view c.0) (paths c.1)) (paths_below cs) (root-before-after (element_view c.0) (paths c.1))
    (root-before-below cs)

-- behind one element the order is that of what follows it
before-same : (e : Element) (p : Path) (ps : List Path) → stands_before p ps ≡ true → stands_before (e ∷ p) (paths_after e ps) ≡ true
before-same e p [] h = refl
before-same e p (q ∷ ps) h =
    both _ _ (ap (λ o. is_lt (ordering_then o (path_cmp p q))) (tied_itself element_cmp_total e) ∙ both_first _ _ h) (before-same e p ps (both_second _ _ h))

rise-after : (e : Element) (ps : List Path) → paths_rise ps ≡ true → paths_rise (paths_after e ps) ≡ true
rise-after e [] h = refl
rise-after e (p ∷ ps) h = both _ _ (before-same e p ps (both_first _ _ h)) (rise-after e ps (both_second _ _ h))

before-other : (e f : Element) (p : Path) (ps : List Path) → element_cmp e f ≡ Less → stands_before (e ∷ p) (paths_after f ps) ≡ true
before-other e f p [] h = refl
before-other e f p (q ∷ ps) h = both _ _ (ap (λ o. is_lt (ordering_then o (path_cmp p q))) h) (before-other e f p ps h)

before-below : (e : Element) (p : Path) (cs : List (Elem × Trie)) → is_below e (elements cs) ≡ true → stands_before (e ∷ p) (paths_below cs) ≡ true
before-below e p [] h = refl
before-below e p (c ∷ cs) h =
    before-append (e ∷ p) (paths_after (element_view c.0) (paths c.1)) (paths_below cs)
    (before-other e (element_view c.0) p (paths c.1) (lower _ (both_first _ _ h))) (before-below e p cs (both_second _ _ h))

rise-first : (e : Element) (ps : List Path) (cs : List (Elem × Trie)) → paths_rise (paths_after e ps) ≡ true → is_below e (elements cs) ≡ true
    → paths_rise (paths_below cs) ≡ true → paths_rise (paths_after e ps ++ paths_below cs) ≡ true
rise-first e [] cs g h k = k
rise-first e (p ∷ ps) cs g h k =
    both _ _ (before-append (e ∷ p) (paths_after e ps) (paths_below cs) (both_first _ _ g) (before-below e p cs h)) (rise-first e ps cs (both_second _ _ g) h k)

-- the paths of each child are in order
abbrev pub children_rise : List (Elem × Trie) → Bool
children_rise [] = true
children_rise (c ∷ cs) = paths_rise (paths c.1) && children_rise cs

rise-below : (cs : List (Elem × Trie)) → rises (elements cs) ≡ true → children_rise cs ≡ true → paths_rise (paths_below cs) ≡ true
rise-below [] h k = refl
rise-below (c ∷ cs) h k =
    rise-first (element_view c.0) (paths c.1) cs (rise-after (element_view c.0) (paths c.1) (both_first _ _ k)) (both_first _ _ h)
    (rise-below cs (both_second _ _ h) (both_second _ _ k))

rise-here : (b : Bool) (cs : List (Elem × Trie)) → paths_rise (paths_below cs) ≡ true → paths_rise (here_path b ++ paths_below cs) ≡ true
rise-here true cs h = both _ _ (root-before-below cs) h
rise-here false cs h = h

-- the paths of a trie are in order where those of each child are
pub rise-level : (t : Trie) → is_trie t ≡ true → children_rise (out-Trie t).below.items ≡ true → paths_rise (paths t) ≡ true
rise-level t h k = ap paths_rise (paths-level t) ∙ rise-here (out-Trie t).here (out-Trie t).below.items
    (rise-below (out-Trie t).below.items (trie-parts t _ refl h).0 k)

-- every trie lists its paths in order
abbrev InOrder : Trie → Type 0
InOrder t = is_trie t ≡ true → paths_rise (paths t) ≡ true

abbrev tries_of : List (Elem × ((t : Trie) × InOrder t)) → List (Elem × Trie)
tries_of ys = map (λ c. (c.0, c.1.0)) ys

children-rise : (ys : List (Elem × ((t : Trie) × InOrder t))) → are_filled_tries (tries_of ys) ≡ true → children_rise (tries_of ys) ≡ true
children-rise [] h = refl
children-rise (y ∷ ys) h = both _ _ (y.1.1 (both_first (is_trie y.1.0) _ (both_first _ _ h)))
    (children-rise ys (both_second (is_trie y.1.0 && is_filled y.1.0) _ h))

-- y is x with a proof beside each child
pub rise-trie : (t : Trie) → is_trie t ≡ true → paths_rise (paths t) ≡ true
rise-trie = ind-Trie InOrder (λ x y is h.
    let parts = sym (ap (λ s. s.1) (shape-made x)) ∙ h in
    let inner = subst (λ (z : Trie-F Trie). are_filled_tries z.below.items ≡ true → children_rise z.below.items ≡ true) is (children-rise y.below.items) in
    ap paths_rise (paths-made x) ∙ rise-here x.here x.below.items (rise-below x.below.items (both_first _ _ parts) (inner (both_second _ _ parts))))

children-push : (cs : List (Elem × Trie)) (c : Elem × Trie) → children_rise cs ≡ true → paths_rise (paths c.1) ≡ true → children_rise (cs ++ c ∷ []) ≡ true
children-push [] c h k = both _ _ k refl
children-push (d ∷ cs) c h k = both _ _ (both_first _ _ h) (children-push cs c (both_second _ _ h) k)

-- the first children up to a place and the one there are the first up to the next place
pub taken : (cs : List (Elem × Trie)) (i : ℕ) (c : Elem × Trie) → i < length cs → c ≡ get_or cs i c → take (i + 1) cs ≡ take i cs ++ c ∷ []
taken cs i c lt is = take_more cs i c lt ∙ ap (λ x. take i cs ++ x ∷ []) (sym is)

-- ---- the paths listed

-- a beginning in front of two lists of paths is in front of each
pub behind-append : (way : Path) (ps qs : List Path) → behind way (ps ++ qs) ≡ behind way ps ++ behind way qs
behind-append way [] qs = refl
behind-append way (p ∷ ps) qs = ap (λ l. (way ++ p) ∷ l) (behind-append way ps qs)

pub behind-after : (way : Path) (e : Element) (ps : List Path) → behind (way ++ e ∷ []) ps ≡ behind way (paths_after e ps)
behind-after way e [] = refl
behind-after way e (p ∷ ps) = λ i. append_assoc way (e ∷ []) p i ∷ behind-after way e ps i

-- without a beginning in front, paths are as they are
pub behind-none : (ps : List Path) → behind [] ps ≡ ps
behind-none [] = refl
behind-none (p ∷ ps) = ap (λ l. p ∷ l) (behind-none ps)

-- one element more comes last
pub way-grown : {A : Type 0} (ws now longer : List A) (x : A) → longer ≡ now ++ x ∷ [] → now ≡ ws → longer ≡ ws ++ x ∷ []
way-grown ws now longer x is same = is ∙ ap (λ l. l ++ x ∷ []) same

-- without the element that came last, a way is what it was
pub way-back : {A : Type 0} (ws longer : List A) (x : A) (n : ℕ) (now : List A) → longer ≡ ws ++ x ∷ [] → n ≡ length longer → now ≡ take (n - 1) longer → now ≡ ws
way-back ws longer x n now is len rest =
    let long : length longer ≡ length ws + 1 = ap (λ l. length l) is ∙ length-append ws (x ∷ []) in
    let before : n - 1 ≡ length ws = omega arith in
    rest ∙ (λ i. take (before i) (is i)) ∙ take-append_seam ws (x ∷ [])

-- the place itself and these children
abbrev pub shown : Bool → List (Elem × Trie) → List Path
shown here cs = here_path here ++ paths_below cs

pub shown-push : (here : Bool) (cs : List (Elem × Trie)) (c : Elem × Trie) → shown here (cs ++ c ∷ []) ≡ shown here cs ++ paths_after (element_view c.0) (paths c.1)
shown-push here cs c =
    ap (λ ps. here_path here ++ ps) (paths_below-append cs (c ∷ []) ∙ ap (λ ps. paths_below cs ++ ps) (append-nil (paths_after (element_view c.0) (paths c.1))))
    ∙ sym (append_assoc (here_path here) (paths_below cs) (paths_after (element_view c.0) (paths c.1)))

-- the place and the first children were added
pub record IsListing (way : Path) (here : Bool) (cs : List (Elem × Trie)) (old now : List Path) : Type 0 where
  -- the paths came behind the old ones, with the way in front
  pub added : now ≡ old ++ behind way (shown here cs)
  -- the paths of each child are in order
  pub rise : children_rise cs ≡ true

-- before the first child, the place itself was added, if it is in the set
pub listing-none : (way : Path) (here : Bool) (old now : List Path) → now ≡ old ++ behind way (here_path here) → IsListing way here [] old now
listing-none way here old now h = record { added = h ∙ ap (λ ps. old ++ behind way ps) (sym (append-nil (here_path here))); rise = refl }

-- the paths of the next child were added, with its element behind the way
pub listing-more : (way : Path) (here : Bool) (cs : List (Elem × Trie)) (i : ℕ) (c : Elem × Trie) (old now new : List Path) (longer : Path) → i < length cs
    → c ≡ get_or cs i c → longer ≡ way ++ element_view c.0 ∷ []
    → IsListing way here (take i cs) old now → IsListed longer c.1 now new → IsListing way here (take (i + 1) cs) old new
listing-more way here cs i c old now new longer lt is long h g =
    let front = take i cs in
    let next = paths_after (element_view c.0) (paths c.1) in
    let more : IsListing way here (front ++ c ∷ []) old new = record {
      added =
          g.added ∙ (λ j. h.added j ++ (ap (λ w. behind w (paths c.1)) long ∙ behind-after way (element_view c.0) (paths c.1)) j)
          ∙ append_assoc old (behind way (shown here front)) (behind way next)
          ∙ ap (λ l. old ++ l) (sym (behind-append way (shown here front) next) ∙ ap (behind way) (sym (shown-push here front c)));
      rise = children-push front c h.rise g.rise;
    } in
    subst (λ l. IsListing way here l old new) (sym (taken cs i c lt is)) more

-- behind the last child, all paths of the trie were added, in order
pub listing-all : (way : Path) (t : Trie) (i : ℕ) (cs : List (Elem × Trie)) (old new : List Path) → cs ≡ (out-Trie t).below.items → length cs ≤ i
    → is_trie t ≡ true → IsListing way (out-Trie t).here (take i cs) old new → IsListed way t old new
listing-all way t i cs old new is le trie h =
    let all : take i cs ≡ (out-Trie t).below.items = take_all i cs le ∙ is in
    record {
      added = h.added ∙ ap (λ ps. old ++ behind way ps) (ap (shown (out-Trie t).here) all ∙ sym (paths-level t));
      rise = rise-level t trie (ap children_rise (sym all) ∙ h.rise);
    }

-- ---- a set of paths in order

entries-listed : (ps : List Path) → paths_rise ps ≡ true → (listed ps).entries ≡ marked ps
entries-listed [] h = refl
entries-listed (p ∷ ps) h = ap (put path_cmp p tt) (entries-listed ps (both_second _ _ h)) ∙ first ps (both_first _ _ h)
  where
    first : (qs : List Path) → stands_before p qs ≡ true → put path_cmp p tt (marked qs) ≡ marked (p ∷ qs)
    first [] g = refl
    first (q ∷ qs) g = ap (λ o. by_order o (marked (p ∷ q ∷ qs)) ((q, tt) ∷ marked qs) ((q, tt) ∷ put path_cmp p tt (marked qs))) (lower _ (both_first _ _ g))

keys-marked : (ps : List Path) → map (λ (e : Path × Unit {0}). e.0) (marked ps) ≡ ps
keys-marked [] = refl
keys-marked (p ∷ ps) = ap (λ l. p ∷ l) (keys-marked ps)

-- a set of paths in order has just these, in this order
pub paths-listed : (ps : List Path) → paths_rise ps ≡ true → set_paths (listed ps) ≡ ps
paths-listed ps h = ap (map (λ (e : Path × Unit {0}). e.0)) (entries-listed ps h) ∙ keys-marked ps

length-marked : (ps : List Path) → length (marked ps) ≡ length ps
length-marked [] = refl
length-marked (p ∷ ps) = let rest = length-marked ps in omega arith

-- a set of paths in order has as many
pub size-listed : (ps : List Path) → paths_rise ps ≡ true → size (listed ps) ≡ length ps
size-listed ps h = ap (λ (es : List (Path × Unit {0})). length es) (entries-listed ps h) ∙ length-marked ps

-- ---- how many paths

length-after : (e : Element) (ps : List Path) → length (paths_after e ps) ≡ length ps
length-after e [] = refl
length-after e (p ∷ ps) = let rest = length-after e ps in omega arith

-- the place and the first children are counted
pub record IsCounting (here : Bool) (cs : List (Elem × Trie)) (count : ℕ) : Type 0 where
  -- the count is that of their paths, as far as 64 bits go
  pub total : count ≡ min (length (shown here cs)) (2 ^ 64 - 1)
  -- the paths of each child are in order
  pub rise : children_rise cs ≡ true

sum-capped : (a b c d : ℕ) → a ≡ min b (2 ^ 64 - 1) → c ≡ min d (2 ^ 64 - 1) → min (a + c) (2 ^ 64 - 1) ≡ min (b + d) (2 ^ 64 - 1)
sum-capped a b c d e f = omega arith

-- the paths of the next child are counted, too
pub counting-more : (here : Bool) (cs : List (Elem × Trie)) (i : ℕ) (c : Elem × Trie) (count more sum : ℕ) → i < length cs → c ≡ get_or cs i c
    → more ≡ min (length (paths c.1)) (2 ^ 64 - 1) → paths_rise (paths c.1) ≡ true → sum ≡ min (count + more) (2 ^ 64 - 1)
    → IsCounting here (take i cs) count → IsCounting here (take (i + 1) cs) sum
counting-more here cs i c count more sum lt is e k s h =
    let front = take i cs in
    let longer : length (shown here (front ++ c ∷ [])) ≡ length (shown here front) + length (paths c.1) =
    ap length (shown-push here front c) ∙ length-append (shown here front) (paths_after (element_view c.0) (paths c.1))
    ∙ ap (λ n. length (shown here front) + n) (length-after (element_view c.0) (paths c.1)) in
    let next : IsCounting here (front ++ c ∷ []) sum = record {
      total = s ∙ sum-capped count (length (shown here front)) more (length (paths c.1)) h.total e ∙ ap (λ n. min n (2 ^ 64 - 1)) (sym longer);
      rise = children-push front c h.rise k;
    } in
    subst (λ l. IsCounting here l sum) (sym (taken cs i c lt is)) next

-- behind the last child, the paths of the trie are counted, and those of each child are in order
pub counting-all : (t : Trie) (i : ℕ) (cs : List (Elem × Trie)) (count : ℕ) → cs ≡ (out-Trie t).below.items → length cs ≤ i
    → IsCounting (out-Trie t).here (take i cs) count
    → (count ≡ min (length (paths t)) (2 ^ 64 - 1)) × (children_rise (out-Trie t).below.items ≡ true)
counting-all t i cs count is le h =
    let all : take i cs ≡ (out-Trie t).below.items = take_all i cs le ∙ is in
    (h.total ∙ ap (λ ps. min (length ps) (2 ^ 64 - 1)) (ap (shown (out-Trie t).here) all ∙ sym (paths-level t)), ap children_rise (sym all) ∙ h.rise)
