-- A set taken out of another, child by child.
use Rattle.std.proofs.Common.{◌≡◌, ℕ, zero, suc, ◌+◌, ◌<◌, ◌≤◌, List, [], ◌∷◌, ◌++◌, length, get_or, drop, take, Bool, true, false, not, ◌&&◌, ◌||◌, refl, sym, ap, ◌∙◌, arith, subst, length-drop, true≢false}
use Rattle.std.proofs.Math.Bool.{and-true}
use Rattle.std.proofs.lemmas.List.{take_all}
use Rattle.ssa_model.specs.definitions.FieldsV1.{heads, tails}
use Rattle.ssa_model.specs.definitions.Path.{Element, Path, same_element, same_path}
use Rattle.ssa_path.specs.declared.element.Elem.{Elem}
use Rattle.ssa_path.specs.declared.trie.Trie.{Trie}
use Rattle.ssa_path.specs.declared.trie.Trie.TheViews.{out-Trie, roll-Trie, out-roll-Trie}
use Rattle.ssa_path.specs.declared.trie.Trie.TheOpen.{Trie-F}
use Rattle.ssa_path.specs.Children.{elements, rises}
use Rattle.ssa_path.specs.View.{element_view}
use Rattle.ssa_path.specs.Trie.{is_one_of, paths_after, paths_below, paths, is_trie, are_filled_tries}
use Rattle.ssa_path.proofs.Orders.{both_first, both_second, not_tied}
use Rattle.ssa_path.proofs.Searching.{below-middle}
use Rattle.ssa_path.proofs.Lists.{elements-append}
use Rattle.ssa_path.proofs.Levels.{same_path-reading, any-level, any-made, one-level-root, one-made-root, one-below-root}
use Rattle.ssa_turn_set.specs.declared.room.Room.{Room}
use Rattle.ssa_turn_set.specs.declared.room.Room.TheOpen.{Room-F}
use Rattle.ssa_turn_set.specs.declared.room.Room.TheViews.{out-Room}
use Rattle.ssa_turn_set.specs.declared.spare.Spare.{Spare}
use Rattle.ssa_turn_set.specs.Room.{fresh, freshes, has_place, holds, lose_one, lose_room, gain_room, gains, loses, gain_one, own_children, rooms_of, width}
use Rattle.ssa_turn_set.specs.Siblings.{AreTaken}
use Rattle.ssa_turn_set.proofs.Rooms.{AreAlike, gains-more, loses-some, loses-alike, gains-alike, freshes-alike, gain_room-level, lose_room-level}
use Rattle.ssa_turn_set.proofs.Places.{IsRoomy, all-taken, within-both, gain-made, lose-own, lose-below, roomy}
use Rattle.ssa_turn_set.proofs.Gaining.{one-more}
use Rattle.ssa_model.proofs.Basics.{both-true as both}

-- The children cs of a set have become `now`: those of `done` are taken out, those of `left` are not. `old` is the room
-- for `done` as it was, `filled` as it is.
pub record IsLosing (cs done left : List (Elem × Trie)) (old filled rooms : List (Spare × Room)) (now : List (Elem × Trie)) : Type 0 where
  -- there are the paths that were there, without those of the children taken out
  pub paths_are : (p : Path) → is_one_of (paths_below now) p ≡ (is_one_of (paths_below cs) p && not (is_one_of (paths_below done) p))
  -- the elements stand in order
  pub risen : rises (elements now) ≡ true
  -- each child is a set with some path
  pub tries : are_filled_tries now ≡ true
  -- those that stand here and those gone are as many as there were
  pub len : length now + freshes done (paths_below now) ≡ length cs
  -- some paths for which the rooms that are left were told
  pub without : List Path
  -- the rooms that are left are as these paths ask
  pub form : loses left without rooms ≡ true
  -- room that was enough to take them out is now enough to put them in again
  pub back : loses done (paths_below now) old ≡ true → gains done (paths_below now) filled ≡ true
  -- the elements taken out and those still to be stand in order
  pub all_rise : rises (elements (done ++ left)) ≡ true
  -- each child still to be taken out is a set with some path
  pub left_tries : are_filled_tries left ≡ true

-- ---- the order of elements

-- the paths below the children in front of d stay
front-alike : (done : List (Elem × Trie)) (d : Element) (fs : List Element) (ps qs : List Path) → rises (elements done ++ d ∷ fs) ≡ true
    → ((e : Element) → same_element e d ≡ false → tails e qs ≡ tails e ps) → AreAlike done qs ps
front-alike [] d fs ps qs h apart = tt
front-alike (c ∷ done) d fs ps qs h apart = (
  apart (element_view c.0) (not_tied _ (below-middle (element_view c.0) d (elements done) fs (both_first _ _ h))),
  front-alike done d fs ps qs (both_second _ _ h) apart,
)

-- ---- the rooms

loses-parts : (ds : List (Elem × Trie)) (d : Elem × Trie) (ps : List Path) (rs : List (Spare × Room)) (r : Spare × Room)
    → loses (ds ++ d ∷ []) ps (rs ++ r ∷ []) ≡ true → (loses ds ps rs ≡ true) × (lose_one d (tails (element_view d.0) ps) r ≡ true)
loses-parts [] d ps [] r h = (refl, both_first _ _ h)
loses-parts [] d ps (x ∷ []) r h = absurd (true≢false (sym (both_second _ _ h)))
loses-parts [] d ps (x ∷ y ∷ rs) r h = absurd (true≢false (sym (both_second _ _ h)))
loses-parts (c ∷ []) d ps [] r h = absurd (true≢false (sym (both_second _ _ h)))
loses-parts (c ∷ e ∷ ds) d ps [] r h = absurd (true≢false (sym (both_second _ _ h)))
loses-parts (c ∷ ds) d ps (x ∷ rs) r h = let rest = loses-parts ds d ps rs r (both_second _ _ h) in (both _ _ (both_first _ _ h) rest.0, rest.1)

-- one child more that goes, or does not, counts as one more or as none
pub freshes-more : (ds : List (Elem × Trie)) (d : Elem × Trie) (ps : List Path)
    → freshes (ds ++ d ∷ []) ps ≡ freshes ds ps + fresh (tails (element_view d.0) ps)
freshes-more [] d ps = omega arith
freshes-more (c ∷ ds) d ps = let e = freshes-more ds d ps in omega arith

-- ---- one step

not_both : (c a d : Bool) → ((c && not a) && not d) ≡ (c && not (a || (d || false)))
not_both true true d = refl
not_both true false true = refl
not_both true false false = refl
not_both false a d = refl

-- with one child more taken out, the walk goes on
pub losing-more : (cs done left : List (Elem × Trie)) (old filled rooms : List (Spare × Room)) (now new : List (Elem × Trie)) (d : Elem × Trie)
    (r s : Spare × Room) → IsLosing cs done (d ∷ left) old filled (r ∷ rooms) now
    → ((p : Path) → is_one_of (paths_below new) p ≡ (is_one_of (paths_below now) p && not (is_one_of (paths_after (element_view d.0) (paths d.1)) p)))
    → rises (elements new) ≡ true → are_filled_tries new ≡ true
    → ((e : Element) → same_element e (element_view d.0) ≡ false → tails e (paths_below new) ≡ tails e (paths_below now))
    → length new + fresh (tails (element_view d.0) (paths_below new)) ≡ length now
    → (lose_one d (tails (element_view d.0) (paths_below new)) r ≡ true → gain_one d (tails (element_view d.0) (paths_below new)) s ≡ true)
    → IsLosing cs (done ++ d ∷ []) left (old ++ r ∷ []) (filled ++ s ∷ []) rooms new
losing-more cs done left old filled rooms now new d r s h paths_are risen tries apart len room =
    let all : rises (elements done ++ element_view d.0 ∷ elements left) ≡ true = ap rises (sym (elements-append done (d ∷ left))) ∙ h.all_rise in
    let alike = front-alike done (element_view d.0) (elements left) (paths_below now) (paths_below new) all apart in
    let counted = h.len in
    let more = freshes-more done d (paths_below new) in
    let same = freshes-alike done (paths_below new) (paths_below now) alike in
    record {
      paths_are = λ p. paths_are p ∙ ap (λ b. b && not (is_one_of (paths_after (element_view d.0) (paths d.1)) p)) (h.paths_are p)
          ∙ not_both (is_one_of (paths_below cs) p) (is_one_of (paths_below done) p) (is_one_of (paths_after (element_view d.0) (paths d.1)) p)
          ∙ ap (λ b. is_one_of (paths_below cs) p && not b) (sym (one-more done d p));
      risen = risen;
      tries = tries;
      len = omega arith;
      without = h.without;
      form = both_second _ _ h.form;
      back = λ k.
          let parts = loses-parts done d (paths_below new) old r k in
          let first = h.back (sym (loses-alike done (paths_below new) (paths_below now) old alike) ∙ parts.0) in
          gains-more done d (paths_below new) filled s (gains-alike done (paths_below new) (paths_below now) filled alike ∙ first) (room parts.1);
      all_rise = ap (λ l. rises (elements l)) (sym (one-by-one done d left)) ∙ h.all_rise;
      left_tries = both_second _ _ h.left_tries;
    }
  where
    one-by-one : (xs : List (Elem × Trie)) (x : Elem × Trie) (ys : List (Elem × Trie)) → xs ++ x ∷ ys ≡ (xs ++ x ∷ []) ++ ys
    one-by-one [] x ys = refl
    one-by-one (y ∷ xs) x ys = ap (λ l. y ∷ l) (one-by-one xs x ys)

-- at first nothing is taken out
pub losing-none : (cs ds : List (Elem × Trie)) (rooms : List (Spare × Room)) (ps : List Path) → rises (elements cs) ≡ true → are_filled_tries cs ≡ true
    → rises (elements ds) ≡ true → are_filled_tries ds ≡ true
    → loses ds ps rooms ≡ true → IsLosing cs [] ds [] [] rooms cs
losing-none cs ds rooms ps risen tries left_rise left_tries form = record {
  paths_are = λ p. sym (and-true (is_one_of (paths_below cs) p));
  risen = risen;
  tries = tries;
  len = omega arith;
  without = ps;
  form = form;
  back = λ k. refl;
  all_rise = left_rise;
  left_tries = left_tries;
}

-- ---- in a loop

-- there is a room for the next child
pub losing-within : (cs ds : List (Elem × Trie)) (rs fs : List (Spare × Room)) (now : List (Elem × Trie)) (i : ℕ) → i < length ds
    → IsLosing cs (take i ds) (drop i ds) (take i rs) fs (drop i rs) now → i < length rs
losing-within cs ds rs fs now i lt h = within-both ds rs i lt (loses-some (drop i ds) h.without (drop i rs) h.form)

-- what is left over of both lists of rooms is one
pub same-left : (ns rs : List (Spare × Room)) (i : ℕ) (r : Spare × Room) → drop i ns ≡ drop i rs → i < length ns → r ≡ get_or ns i r → (i < length rs)
    × (r ≡ get_or rs i r) × (drop (i + 1) ns ≡ drop (i + 1) rs)
same-left [] rs i r e lt is = absurd (omega arith)
same-left (n ∷ ns) [] zero r e lt is = cc
same-left (n ∷ ns) (x ∷ rs) zero r e lt is = let first : n ≡ x = cc in let rest : ns ≡ rs = cc in (omega arith, is ∙ first, rest)
same-left (n ∷ ns) [] (suc i) r e lt is = let none = ap length e in let more = length-drop i ns in absurd (omega arith)
same-left (n ∷ ns) (x ∷ rs) (suc i) r e lt is = let rest = same-left ns rs i r e (omega arith) is in let next : suc i + 1 ≡ suc (i + 1) = omega arith in
    (let l = rest.0 in omega arith, rest.1, ap (λ k. drop k (n ∷ ns)) next ∙ rest.2 ∙ sym (ap (λ k. drop k (x ∷ rs)) next))

-- at last all are taken out, and the rooms are enough to put them in again
pub losing-all : (cs ds : List (Elem × Trie)) (rs ns : List (Spare × Room)) (now : List (Elem × Trie)) (i : ℕ) → length ds ≤ i → drop i ns ≡ drop i rs
    → IsLosing cs (take i ds) (drop i ds) (take i rs) (take i ns) (drop i rs) now → AreTaken ds cs rs now ns
losing-all cs ds rs ns now i le e h =
    let all = take_all i ds le in
    let some = loses-some (drop i ds) h.without (drop i rs) h.form in
    let olds = all-taken ds rs i le some in
    let news = all-taken ds ns i le (some ∙ ap length (sym e)) in
    record {
      paths_are = λ p. h.paths_are p ∙ ap (λ l. is_one_of (paths_below cs) p && not (is_one_of (paths_below l) p)) all;
      risen = h.risen;
      tries = h.tries;
      len = ap (λ l. length now + freshes l (paths_below now)) (sym all) ∙ h.len;
      room = λ k. (λ j. gains (sym all j) (paths_below now) (sym news j)) ∙ h.back ((λ j. loses (all j) (paths_below now) (olds j)) ∙ k);
    }

-- the same is told of equal children and rooms
pub taken-same : (ls ds cs ms ns : List (Elem × Trie)) (rs ts news : List (Spare × Room)) → ls ≡ ds → rs ≡ ts → ms ≡ ns → AreTaken ls cs rs ms news
    → AreTaken ds cs ts ns news
taken-same ls ds cs ms ns rs ts news lost rooms now taken =
    subst (λ l. AreTaken ds cs ts l news) now (subst (λ l. AreTaken ds cs l ms news) rooms (subst (λ l. AreTaken l cs rs ms news) lost taken))

-- ---- the place as a whole

-- a place that has what the one set has and the other has not, itself and below, has the paths without the other's
pub lost-place : (x : Trie-F Trie) (l s : Trie) → x.here ≡ ((out-Trie s).here && not (out-Trie l).here)
    → ((p : Path) → is_one_of (paths_below x.below.items) p ≡ (is_one_of (paths_below (out-Trie s).below.items) p
    && not (is_one_of (paths_below (out-Trie l).below.items) p)))
    → (p : Path) → is_one_of (paths (roll-Trie x)) p ≡ (is_one_of (paths s) p && not (is_one_of (paths l) p))
lost-place x l s here below [] = one-made-root x ∙ here ∙ (λ i. sym (one-level-root s) i && not (sym (one-level-root l) i))
lost-place x l s here below (e ∷ p) =
    any-made same_path same_path-reading x e p ∙ below (e ∷ p)
    ∙ (λ i. sym (any-level same_path same_path-reading s e p) i && not (sym (any-level same_path same_path-reading l e p) i))

-- room that is enough to take a set out of a place is, once turned, enough to put it in again
pub lost-room : (t : Trie) (x : Trie-F Trie) (r s : Room) (y : Room-F Room) → out-Room s ≡ y → is_trie (roll-Trie x) ≡ true → own_children y ≡ []
    → (has_place (out-Room r) ≡ true → length x.below.items ≤ width (out-Room r)
    → (has_place y ≡ true) × (length x.below.items + freshes (out-Trie t).below.items (paths_below x.below.items) ≤ width y))
    → (loses (out-Trie t).below.items (paths_below x.below.items) (rooms_of (out-Room r)) ≡ true
    → gains (out-Trie t).below.items (paths_below x.below.items) (rooms_of y) ≡ true)
    → lose_room t (paths (roll-Trie x)) r ≡ true → gain_room t (paths (roll-Trie x)) s ≡ true
lost-room t x r s y room h empty fits back k =
    let ds = (out-Trie t).below.items in
    let after = roll-Trie x in
    let set : out-Trie after ≡ x = out-roll-Trie x in
    let own : IsRoomy (freshes ds (paths_below x.below.items)) (length x.below.items) r =
    subst (λ z. IsRoomy (freshes ds (paths_below z.below.items)) (length z.below.items) r) set (lose-own t after r h k) in
    let enough : 0 < freshes ds (paths_below x.below.items)
    → (has_place y ≡ true) × (length x.below.items + freshes ds (paths_below x.below.items) ≤ width y) =
    λ lt. fits (own.place lt) (own.fits lt) in
    let below = back (subst (λ z. loses ds (paths_below z.below.items) (rooms_of (out-Room r)) ≡ true) set (lose-below t after r k)) in
    gain-made t after s h
    (record {
      empty = ap own_children room ∙ empty;
      place = subst (λ z. 0 < freshes ds (paths_below z.below.items) → has_place (out-Room s) ≡ true) (sym set)
          (λ lt. ap has_place room ∙ (enough lt).0);
      fits = subst (λ z. 0 < freshes ds (paths_below z.below.items)
          → length z.below.items + freshes ds (paths_below z.below.items) ≤ width (out-Room s)) (sym set)
          (subst (λ z. 0 < freshes ds (paths_below x.below.items)
          → length x.below.items + freshes ds (paths_below x.below.items) ≤ width z) (sym room) (λ lt. (enough lt).1));
    })
    (subst (λ z. gains ds (paths_below z.below.items) (rooms_of (out-Room s)) ≡ true) (sym set)
    (ap (λ z. gains ds (paths_below x.below.items) (rooms_of z)) room ∙ below))

-- ---- the requirements of a place, told of what is below it

-- of room to take a set out, the place's own vector is empty and each child's room is enough
pub start-form : (t : Trie) (ps : List Path) (r : Room) → lose_room t ps r ≡ true → (own_children (out-Room r) ≡ [])
    × (loses (out-Trie t).below.items ps (rooms_of (out-Room r)) ≡ true)
start-form t ps r h =
    let parts = sym (lose_room-level t ps r) ∙ h in (
      (roomy (freshes (out-Trie t).below.items ps) (length (heads ps)) r (both_first _ _ parts)).empty,
      both_second (holds (freshes (out-Trie t).below.items ps) (length (heads ps)) r) _ parts,
    )

-- of room to put a set in, the place's own vector is empty
pub gain-form : (t : Trie) (ps : List Path) (r : Room) → gain_room t ps r ≡ true → own_children (out-Room r) ≡ []
gain-form t ps r h =
    let coming = freshes (out-Trie t).below.items ps in
    (roomy coming (length (heads ps) + coming) r (both_first _ _ (sym (gain_room-level t ps r) ∙ h))).empty

-- what lies within a set lies within it below the place too
pub start-within : (l s : Trie) → ((p : Path) → is_one_of (paths l) p ≡ true → is_one_of (paths s) p ≡ true) → (p : Path)
    → is_one_of (paths_below (out-Trie l).below.items) p ≡ true → is_one_of (paths_below (out-Trie s).below.items) p ≡ true
start-within l s h [] k = absurd (true≢false (sym k ∙ one-below-root (out-Trie l).below.items))
start-within l s h (e ∷ p) k = sym (any-level same_path same_path-reading s e p) ∙ h (e ∷ p) (any-level same_path same_path-reading l e p ∙ k)

-- where the rest of two lists is the same and not empty, both go beyond it
pub same-length : (ns rs : List (Spare × Room)) (i : ℕ) → drop i ns ≡ drop i rs → i < length rs → i < length ns
same-length ns rs i e lt = let a = length-drop i ns in let b = length-drop i rs in let l = ap length e in omega arith
