-- A set put into another, child by child.
use Rattle.std.proofs.Common.{◌≡◌, ℕ, ◌+◌, ◌<◌, ◌≤◌, List, [], ◌∷◌, ◌++◌, length, get_or, set, drop, take, Bool, true, false, ◌&&◌, ◌||◌, refl, sym, ap, ◌∙◌, arith, subst}
use Rattle.std.proofs.lemmas.List.Folds.{list_any-append}
use Rattle.std.specs.Ordering.{is_lt}
use Rattle.ssa_model.specs.definitions.FieldsV1.{tails}
use Rattle.ssa_model.specs.definitions.Path.{Element, Path, same_element, element_cmp, same_path}
use Rattle.ssa_path.specs.declared.element.Elem.{Elem}
use Rattle.ssa_path.specs.declared.trie.Trie.{Trie}
use Rattle.ssa_path.specs.Children.{elements, is_below, rises}
use Rattle.ssa_path.specs.View.{element_view}
use Rattle.ssa_path.specs.declared.trie.Trie.TheViews.{out-Trie, roll-Trie}
use Rattle.ssa_path.specs.declared.trie.Trie.TheOpen.{Trie-F}
use Rattle.ssa_path.specs.Trie.{is_one_of, paths_after, paths_below, paths, is_trie, is_filled, are_filled_tries, IsGathered}
use Rattle.ssa_path.proofs.Orders.{both_first, both_second, not_tied}
use Rattle.ssa_path.proofs.Inserting.{spread}
use Rattle.ssa_path.proofs.Lists.{taken-at, paths_below-append, left-at, elements-append, one-between, filled-between}
use Rattle.ssa_path.proofs.Levels.{same_path-reading, any-after, any-level, any-made, one-after-root, one-level-root, one-made-root, one-below-root}
use Rattle.std.proofs.lemmas.List.{take_all, take_more_set}
use Rattle.ssa_turn_set.specs.declared.room.Room.{Room}
use Rattle.ssa_turn_set.specs.declared.spare.Spare.{Spare}
use Rattle.ssa_turn_set.specs.Room.{fresh, freshes, lose_one, gains, loses, gain_one}
use Rattle.ssa_turn_set.proofs.Rooms.{AreAlike, all-alike, loses-more, gains-some}
use Rattle.ssa_turn_set.proofs.Places.{left-set, all-taken, within-both}
use Rattle.ssa_model.proofs.Fitting.{same_element-true}
use Rattle.ssa_model.proofs.ShownNames.{turned as same_either_way}

-- The children cs of a set have become `now`: those of `done` are put in, those of `left` are not.
pub record IsGaining (cs done left : List (Elem × Trie)) (filled rooms : List (Spare × Room)) (now : List (Elem × Trie)) (capacity : ℕ) : Type 0 where
  -- there are the paths of the children put in, and those that were there
  pub paths_are : (p : Path) → is_one_of (paths_below now) p ≡ (is_one_of (paths_below done) p || is_one_of (paths_below cs) p)
  -- the elements stand in order
  pub risen : rises (elements now) ≡ true
  -- each child is a set with some path
  pub tries : are_filled_tries now ≡ true
  -- below the children still to be put in nothing has changed
  pub alike : AreAlike left (paths_below now) (paths_below cs)
  -- those that stand here and those still to come have place
  pub fits : length now + freshes left (paths_below cs) ≤ capacity
  -- the rooms that are left are enough for those still to be put in
  pub enough : gains left (paths_below cs) rooms ≡ true
  -- the rooms that are filled are enough to take those put in out again
  pub back : loses done (paths_below cs) filled ≡ true
  -- the elements still to be put in stand in order
  pub left_rise : rises (elements left) ≡ true
  -- each child still to be put in is a set with some path
  pub left_tries : are_filled_tries left ≡ true

-- what stands behind d is another element
pub behind-apart : (d e : Element) → is_lt (element_cmp d e) ≡ true → same_element e d ≡ false
behind-apart d e h = same_either_way d e ∙ not_tied _ h

-- the paths below children behind d stay
pub still-alike : (d : Element) (left : List (Elem × Trie)) (ps qs rs : List Path) → is_below d (elements left) ≡ true
    → ((e : Element) → same_element e d ≡ false → tails e qs ≡ tails e ps) → AreAlike left ps rs → AreAlike left qs rs
still-alike d [] ps qs rs h apart a = tt
still-alike d (c ∷ left) ps qs rs h apart a = (
  apart (element_view c.0) (behind-apart d (element_view c.0) (both_first _ _ h))
      ∙ a.0,
  still-alike d left ps qs rs (both_second _ _ h) apart a.1,
)

reorder : (a d c : Bool) → (a || (d || c)) ≡ ((d || (a || false)) || c)
reorder true true c = refl
reorder true false c = refl
reorder false true c = refl
reorder false false c = refl

-- the paths of children with one more are theirs and those of that one
pub one-more : (done : List (Elem × Trie)) (d : Elem × Trie) (p : Path)
    → is_one_of (paths_below (done ++ d ∷ [])) p ≡ (is_one_of (paths_below done) p || (is_one_of (paths_after (element_view d.0) (paths d.1)) p || false))
one-more done d p =
    ap (λ ps. is_one_of ps p) (paths_below-append done (d ∷ []))
    ∙ list_any-append (same_path p) (paths_below done) (paths_below (d ∷ []))
    ∙ ap (λ b. is_one_of (paths_below done) p || b) (list_any-append (same_path p) (paths_after (element_view d.0) (paths d.1)) [])

-- with one child more put in, the walk goes on
pub gaining-more : (cs done left : List (Elem × Trie)) (filled rooms : List (Spare × Room)) (now new : List (Elem × Trie)) (capacity longer : ℕ)
    (d : Elem × Trie) (r s : Spare × Room) → IsGaining cs done (d ∷ left) filled (r ∷ rooms) now capacity
    → IsGathered now (element_view d.0) d.1 new → ((e : Element) → same_element e (element_view d.0) ≡ false
    → tails e (paths_below new) ≡ tails e (paths_below now))
    → length new ≡ length now + fresh (tails (element_view d.0) (paths_below now)) → capacity ≤ longer
    → lose_one d (tails (element_view d.0) (paths_below now)) s ≡ true
    → IsGaining cs (done ++ d ∷ []) left (filled ++ s ∷ []) rooms new longer
gaining-more cs done left filled rooms now new capacity longer d r s h g apart len wider room = record {
  paths_are = λ p. g.paths_are p ∙ ap (λ b. is_one_of (paths_after (element_view d.0) (paths d.1)) p || b) (h.paths_are p)
      ∙ reorder (is_one_of (paths_after (element_view d.0) (paths d.1)) p) (is_one_of (paths_below done) p) (is_one_of (paths_below cs) p)
      ∙ ap (λ b. b || is_one_of (paths_below cs) p) (sym (one-more done d p));
  risen = g.risen;
  tries = g.tries;
  alike = still-alike (element_view d.0) left (paths_below now) (paths_below new) (paths_below cs) (both_first _ _ h.left_rise) apart h.alike.1;
  fits = let k = len ∙ ap (λ l. length now + fresh l) h.alike.0 in let f = h.fits in omega arith;
  enough = both_second _ _ h.enough;
  back = loses-more done d (paths_below cs) filled s h.back (ap (λ l. lose_one d l s) (sym h.alike.0) ∙ room);
  left_rise = both_second _ _ h.left_rise;
  left_tries = both_second _ _ h.left_tries;
}

-- at first nothing is put in
pub gaining-none : (cs ds : List (Elem × Trie)) (rooms : List (Spare × Room)) (now : List (Elem × Trie)) (capacity : ℕ) → now ≡ cs
    → rises (elements cs) ≡ true → are_filled_tries cs ≡ true → rises (elements ds) ≡ true → are_filled_tries ds ≡ true
    → length cs + freshes ds (paths_below cs) ≤ capacity → gains ds (paths_below cs) rooms ≡ true → IsGaining cs [] ds [] rooms now capacity
gaining-none cs ds rooms now capacity same risen tries left_rise left_tries fits enough =
    subst (λ l. IsGaining cs [] ds [] rooms l capacity) (sym same)
    (record {
      paths_are = λ p. refl;
      risen = risen;
      tries = tries;
      alike = all-alike ds _ _ (λ e. refl);
      fits = fits;
      enough = enough;
      back = refl;
      left_rise = left_rise;
      left_tries = left_tries;
    })

-- before a step: what the next child and its room are
pub gaining-at : (cs ds : List (Elem × Trie)) (rs : List (Spare × Room)) (now : List (Elem × Trie)) (capacity i : ℕ) (d : Elem × Trie) (r : Spare × Room)
    → i < length ds → d ≡ get_or ds i d → i < length rs → r ≡ get_or rs i r
    → IsGaining cs (take i ds) (drop i ds) (take i rs) (drop i rs) now capacity
    → IsGaining cs (take i ds) (d ∷ drop (i + 1) ds) (take i rs) (r ∷ drop (i + 1) rs) now capacity
gaining-at cs ds rs now capacity i d r lt is lt2 is2 h = subst (λ l. IsGaining cs (take i ds) l (take i rs) (r ∷ drop (i + 1) rs) now capacity)
    (left-at ds i d lt is) (subst (λ l. IsGaining cs (take i ds) (drop i ds) (take i rs) l now capacity) (left-at rs i r lt2 is2) h)

-- there is a room for the next child
pub gaining-within : (cs ds : List (Elem × Trie)) (rs : List (Spare × Room)) (now : List (Elem × Trie)) (capacity i : ℕ) → i < length ds
    → IsGaining cs (take i ds) (drop i ds) (take i rs) (drop i rs) now capacity → i < length rs
gaining-within cs ds rs now capacity i lt h = within-both ds rs i lt (gains-some (drop i ds) (paths_below cs) (drop i rs) h.enough)

-- after a step
pub gaining-next : (cs ds : List (Elem × Trie)) (rs : List (Spare × Room)) (now : List (Elem × Trie)) (capacity i : ℕ) (d : Elem × Trie) (s : Spare × Room)
    → i < length ds → d ≡ get_or ds i d → i < length rs
    → IsGaining cs (take i ds ++ d ∷ []) (drop (i + 1) ds) (take i rs ++ s ∷ []) (drop (i + 1) rs) now capacity
    → IsGaining cs (take (i + 1) ds) (drop (i + 1) ds) (take (i + 1) (set rs i s)) (drop (i + 1) (set rs i s)) now capacity
gaining-next cs ds rs now capacity i d s lt is lt2 h =
    subst (λ l. IsGaining cs l (drop (i + 1) ds) (take (i + 1) (set rs i s)) (drop (i + 1) (set rs i s)) now capacity) (sym (taken-at ds i d lt is))
    (subst (λ l. IsGaining cs (take i ds ++ d ∷ []) (drop (i + 1) ds) l (drop (i + 1) (set rs i s)) now capacity) (sym (take_more_set rs i s lt2))
    (subst (λ l. IsGaining cs (take i ds ++ d ∷ []) (drop (i + 1) ds) (take i rs ++ s ∷ []) l now capacity) (sym (left-set rs i s)) h))

-- after the last
pub gaining-all : (cs ds : List (Elem × Trie)) (rs : List (Spare × Room)) (now : List (Elem × Trie)) (capacity i : ℕ) → length ds ≤ i
    → IsGaining cs (take i ds) (drop i ds) (take i rs) (drop i rs) now capacity
    → ((p : Path) → is_one_of (paths_below now) p ≡ (is_one_of (paths_below ds) p || is_one_of (paths_below cs) p)) × (loses ds (paths_below cs) rs ≡ true)
gaining-all cs ds rs now capacity i le h =
    let all = take_all i ds le in
    let rooms = all-taken ds rs i le (gains-some (drop i ds) (paths_below cs) (drop i rs) h.enough) in (
      λ p. h.paths_are p ∙ ap (λ l. is_one_of (paths_below l) p || is_one_of (paths_below cs) p) all,
      (λ j. loses (sym all j) (paths_below cs) (sym rooms j))
          ∙ h.back,
    )

-- ---- the place as a whole

-- a place that has what either set has, itself and below, has the paths of both
pub gained-place : (x : Trie-F Trie) (g s : Trie) → x.here ≡ ((out-Trie g).here || (out-Trie s).here)
    → ((p : Path) → is_one_of (paths_below x.below.items) p ≡ (is_one_of (paths_below (out-Trie g).below.items) p
    || is_one_of (paths_below (out-Trie s).below.items) p))
    → (p : Path) → is_one_of (paths (roll-Trie x)) p ≡ (is_one_of (paths g) p || is_one_of (paths s) p)
gained-place x g s here below [] = one-made-root x ∙ here ∙ (λ i. sym (one-level-root g) i || sym (one-level-root s) i)
gained-place x g s here below (e ∷ p) =
    any-made same_path same_path-reading x e p ∙ below (e ∷ p)
    ∙ (λ i. sym (any-level same_path same_path-reading g e p) i || sym (any-level same_path same_path-reading s e p) i)

-- ---- one child

-- a child that took more paths, among the others
pub gathered-child : (cs ds front left : List (Elem × Trie)) (f : Element) (t : Trie) (d : Elem) (c m : Trie) → cs ≡ front ++ (d, c) ∷ left
    → ds ≡ front ++ (d, m) ∷ left → same_element f (element_view d) ≡ true
    → ((p : Path) → is_one_of (paths m) p ≡ (is_one_of (paths t) p || is_one_of (paths c) p)) → is_trie m ≡ true → is_filled m ≡ true
    → rises (elements cs) ≡ true → are_filled_tries (front ++ left) ≡ true → IsGathered cs f t ds
gathered-child cs ds front left f t d c m old new tie made trie filled risen others =
    let R = same_path-reading in
    let same : f ≡ element_view d = same_element-true f (element_view d) tie in
    let named : elements (front ++ (d, m) ∷ left) ≡ elements (front ++ (d, c) ∷ left) = elements-append front ((d, m) ∷ left)
    ∙ sym (elements-append front ((d, c) ∷ left)) in
    record {
      paths_are = held;
      risen = ap (λ l. rises (elements l)) new ∙ ap rises named ∙ ap (λ l. rises (elements l)) (sym old) ∙ risen;
      tries = ap are_filled_tries new ∙ filled-between front left (d, m) trie filled others;
    }
  where
    held : (p : Path) → is_one_of (paths_below ds) p ≡ (is_one_of (paths_after f (paths t)) p || is_one_of (paths_below cs) p)
    held [] = one-below-root ds ∙ (λ i. sym (one-after-root f (paths t)) i || sym (one-below-root cs) i)
    held (e ∷ p) =
        ap (λ l. is_one_of (paths_below l) (e ∷ p)) new
        ∙ one-between front left (d, m) (e ∷ p)
        ∙ ap (λ b. b || is_one_of (paths_below (front ++ left)) (e ∷ p)) (any-after same_path same_path-reading e (element_view d) (paths m) p
        ∙ ap (λ b. same_element e (element_view d) && b) (made p))
        ∙ spread (same_element e (element_view d)) (is_one_of (paths t) p) (is_one_of (paths c) p) (is_one_of (paths_below (front ++ left)) (e ∷ p))
        ∙ (λ i. (same_element e (sym (same_element-true f (element_view d) tie) i) && is_one_of (paths t) p)
        || (sym (any-after same_path same_path-reading e (element_view d) (paths c) p) i || is_one_of (paths_below (front ++ left)) (e ∷ p)))
        ∙ (λ i. sym (any-after same_path same_path-reading e f (paths t) p) i || sym (ap (λ l. is_one_of (paths_below l) (e ∷ p)) old
        ∙ one-between front left (d, c) (e ∷ p)) i)

-- the next child has place, and its room is enough
pub gaining-fits : (cs done left : List (Elem × Trie)) (filled rooms : List (Spare × Room)) (now : List (Elem × Trie)) (capacity : ℕ)
    (d : Elem × Trie) (r : Spare × Room) → IsGaining cs done (d ∷ left) filled (r ∷ rooms) now capacity
    → (length now + fresh (tails (element_view d.0) (paths_below now)) ≤ capacity) × (gain_one d (tails (element_view d.0) (paths_below now)) r ≡ true)
gaining-fits cs done left filled rooms now capacity d r h =
    let same = ap fresh h.alike.0 in
    let fits = h.fits in
    (omega arith, ap (λ l. gain_one d l r) h.alike.0 ∙ both_first _ _ h.enough)
