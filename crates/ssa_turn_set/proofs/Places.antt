-- One place of a set: what the room says of it, and what is found there.
use Rattle.std.proofs.Common.{◌≡◌, ℕ, zero, suc, ◌+◌, ◌<◌, ◌≤◌, List, [], ◌∷◌, ◌++◌, length, get_or, set, drop, take, Bool, true, false, not, ◌&&◌, cond, refl, sym, ap, ◌∙◌, arith, subst, true≢false}
use Rattle.std.proofs.lemmas.List.{append-nil, drop_all, take-append-drop, drop-set-lt, length-drop}
use Rattle.std.proofs.lemmas.Bool.{le-leb, leb-true}
use Rattle.std.specs.Prelude.{nat_le}
use Rattle.ssa_model.specs.definitions.FieldsV1.{heads, tails}
use Rattle.ssa_model.specs.definitions.Path.{Element, Path, same_element}
use Rattle.ssa_path.specs.declared.element.Elem.{Elem}
use Rattle.ssa_path.specs.declared.trie.Trie.{Trie}
use Rattle.ssa_path.specs.declared.trie.Trie.TheViews.{out-Trie}
use Rattle.ssa_path.specs.Children.{elements, rises}
use Rattle.ssa_path.specs.View.{element_view}
use Rattle.ssa_path.specs.Trie.{has_some, is_one_of, paths_below, paths, is_trie}
use Rattle.ssa_path.proofs.Orders.{both_first, both_second}
use Rattle.ssa_path.proofs.Searching.{child-found, child-absent}
use Rattle.ssa_path.proofs.Lists.{parted, parted-set}
use Rattle.ssa_path.proofs.Levels.{paths-level, trie-parts, some-one}
use Rattle.ssa_turn_set.specs.declared.room.Room.{Room}
use Rattle.ssa_turn_set.specs.declared.room.Room.TheViews.{out-Room}
use Rattle.ssa_turn_set.specs.declared.room.Room.TheOpen.{Room-F}
use Rattle.ssa_turn_set.specs.Room.{fresh, freshes, has_place, holds, if_any, gain_room, lose_room, gains, loses, own_children, rooms_of, width}
use Rattle.ssa_turn_set.proofs.Tails.{heads-count, tails-below, tails-apart, paths_of}
use Rattle.ssa_path.proofs.FieldsLevels.{tails-here}
use Rattle.ssa_turn_set.proofs.Rooms.{gain_room-level, lose_room-level, AreAlike, all-alike, gains-alike, loses-alike, freshes-alike}
use Rattle.ssa_model.proofs.Fitting.{same_element-true}
use Rattle.ssa_path.proofs.LyingWithin.{some-path as a_path}
use Rattle.ssa_model.proofs.Basics.{both-true as both}

-- ---- what is told of the place's own room

-- a list of which there is nothing is empty
pub no_items : {A : Type 0} (xs : List A) → not (has_some xs) ≡ true → xs ≡ []
no_items [] h = refl
no_items (x ∷ xs) h = absurd (true≢false (sym h))

items_none : {A : Type 0} (xs : List A) → xs ≡ [] → not (has_some xs) ≡ true
items_none xs e = ap (λ l. not (has_some l)) e

any_fits : (f n c : ℕ) (b : Bool) → if_any f (b && nat_le n c) ≡ true → 0 < f → (b ≡ true) × (n ≤ c)
any_fits zero n c b h lt = absurd (omega arith)
any_fits (suc f) n c b h lt = (both_first _ _ h, leb-true n c (both_second b _ h))

fits_any : (f n c : ℕ) (b : Bool) → (0 < f → b ≡ true) → (0 < f → n ≤ c) → if_any f (b && nat_le n c) ≡ true
fits_any zero n c b k h = refl
fits_any (suc f) n c b k h = both _ _ (k (omega arith)) (le-leb n c (h (omega arith)))

-- room for n children, where f come or go
pub record IsRoomy (f n : ℕ) (r : Room) : Type 0 where
  -- the place's own vector is empty
  pub empty : own_children (out-Room r) ≡ []
  -- where some come or go, they have place in it
  pub place : 0 < f → has_place (out-Room r) ≡ true
  -- and it is wide enough for so many
  pub fits : 0 < f → n ≤ width (out-Room r)

-- what is tested of the place's own room holds
pub roomy : (f n : ℕ) (r : Room) → holds f n r ≡ true → IsRoomy f n r
roomy f n r h =
    let fits = any_fits f n _ _ (both_second (not (has_some {A = Elem × Trie} (own_children (out-Room r)))) _ h) in
    record {
      empty = no_items (own_children (out-Room r)) (both_first _ _ h);
      place = λ lt. (fits lt).0;
      fits = λ lt. (fits lt).1;
    }

-- room of which this holds passes the test
pub roomy-holds : (f n : ℕ) (r : Room) → IsRoomy f n r → holds f n r ≡ true
roomy-holds f n r h = both _ _ (items_none (own_children (out-Room r)) h.empty) (fits_any f n _ _ h.place h.fits)

-- the paths of a place count as those below it
pub place-tails : (s : Trie) (e : Element) → tails e (paths s) ≡ tails e (paths_below (out-Trie s).below.items)
place-tails s e = ap (tails e) (paths-level s) ∙ tails-here e (out-Trie s).here (paths_below (out-Trie s).below.items)

-- the paths of a set begin with as many elements as it has children
pub place-heads : (s : Trie) → is_trie s ≡ true → length (heads (paths s)) ≡ length (out-Trie s).below.items
place-heads s h =
    let parts = trie-parts s _ refl h in
    ap (λ ps. length (heads ps)) (paths-level s) ∙ heads-count (out-Trie s).here (out-Trie s).below.items parts.0 parts.1

-- below children the paths of a set are as those below its place
pub place-alike : (ds : List (Elem × Trie)) (s : Trie) → AreAlike ds (paths s) (paths_below (out-Trie s).below.items)
place-alike ds s = all-alike ds (paths s) (paths_below (out-Trie s).below.items) (place-tails s)

-- the children of t that come to the place or go from it
abbrev pub coming : Trie → Trie → ℕ
coming t s = freshes (out-Trie t).below.items (paths_below (out-Trie s).below.items)

same-coming : (t s : Trie) → freshes (out-Trie t).below.items (paths s) ≡ coming t s
same-coming t s = freshes-alike (out-Trie t).below.items (paths s) (paths_below (out-Trie s).below.items) (place-alike (out-Trie t).below.items s)

gain-holds : (t s : Trie) (r : Room) → is_trie s ≡ true → holds (freshes (out-Trie t).below.items (paths s))
    (length (heads (paths s)) + freshes (out-Trie t).below.items (paths s)) r ≡ holds (coming t s) (length (out-Trie s).below.items + coming t s) r
gain-holds t s r h = λ i. holds (same-coming t s i) (place-heads s h i + same-coming t s i) r

lose-holds : (t s : Trie) (r : Room) → is_trie s ≡ true → holds (freshes (out-Trie t).below.items (paths s)) (length (heads (paths s))) r
    ≡ holds (coming t s) (length (out-Trie s).below.items) r
lose-holds t s r h = λ i. holds (same-coming t s i) (place-heads s h i) r

-- room to put a set in has place for the children that stand there and those that come
pub gain-own : (t s : Trie) (r : Room) → is_trie s ≡ true → gain_room t (paths s) r ≡ true
    → IsRoomy (coming t s) (length (out-Trie s).below.items + coming t s) r
gain-own t s r h k = roomy _ _ r (sym (gain-holds t s r h) ∙ both_first _ _ (sym (gain_room-level t (paths s) r) ∙ k))

-- of room to put a set in, each child's room is enough
pub gain-below : (t s : Trie) (r : Room) → gain_room t (paths s) r ≡ true
    → gains (out-Trie t).below.items (paths_below (out-Trie s).below.items) (rooms_of (out-Room r)) ≡ true
gain-below t s r k =
    let ds = (out-Trie t).below.items in
    sym (gains-alike ds _ _ _ (place-alike ds s)) ∙ both_second (holds (freshes ds (paths s)) (length (heads (paths s)) + freshes ds (paths s)) r) _
    (sym (gain_room-level t (paths s) r) ∙ k)

-- where the place's own room and each child's are enough, the room is enough to put the set in
pub gain-made : (t s : Trie) (r : Room) → is_trie s ≡ true → IsRoomy (coming t s) (length (out-Trie s).below.items + coming t s) r
    → gains (out-Trie t).below.items (paths_below (out-Trie s).below.items) (rooms_of (out-Room r)) ≡ true → gain_room t (paths s) r ≡ true
gain-made t s r h k l = gain_room-level t (paths s) r ∙ both _ _ (gain-holds t s r h
    ∙ roomy-holds _ _ r k) (gains-alike (out-Trie t).below.items _ _ _ (place-alike (out-Trie t).below.items s) ∙ l)

-- where the place's own room and each child's are enough, the room is enough to take the set out
pub lose-made : (t s : Trie) (r : Room) → is_trie s ≡ true → IsRoomy (coming t s) (length (out-Trie s).below.items) r
    → loses (out-Trie t).below.items (paths_below (out-Trie s).below.items) (rooms_of (out-Room r)) ≡ true → lose_room t (paths s) r ≡ true
lose-made t s r h k l = lose_room-level t (paths s) r ∙ both _ _ (lose-holds t s r h
    ∙ roomy-holds _ _ r k) (loses-alike (out-Trie t).below.items _ _ _ (place-alike (out-Trie t).below.items s) ∙ l)

-- room to take a set out has place for the children that stay
pub lose-own : (t s : Trie) (r : Room) → is_trie s ≡ true → lose_room t (paths s) r ≡ true → IsRoomy (coming t s) (length (out-Trie s).below.items) r
lose-own t s r h k = roomy _ _ r (sym (lose-holds t s r h) ∙ both_first _ _ (sym (lose_room-level t (paths s) r) ∙ k))

-- of room to take a set out, each child's room is enough
pub lose-below : (t s : Trie) (r : Room) → lose_room t (paths s) r ≡ true
    → loses (out-Trie t).below.items (paths_below (out-Trie s).below.items) (rooms_of (out-Room r)) ≡ true
lose-below t s r k =
    let ds = (out-Trie t).below.items in
    sym (loses-alike ds _ _ _ (place-alike ds s)) ∙ both_second (holds (freshes ds (paths s)) (length (heads (paths s))) r) _
    (sym (lose_room-level t (paths s) r) ∙ k)

-- a room is enough to take a set out where its own vector is and each child's room is
pub lose-held : (t s : Trie) (r : Room) (x : Room-F Room) → out-Room r ≡ x → is_trie s ≡ true → own_children x ≡ []
    → (0 < coming t s → has_place x ≡ true) → (0 < coming t s → length (out-Trie s).below.items ≤ width x)
    → loses (out-Trie t).below.items (paths_below (out-Trie s).below.items) (rooms_of x) ≡ true → lose_room t (paths s) r ≡ true
lose-held t s r x is h empty place fits l =
    lose-made t s r h
    (record {
      empty = ap own_children is ∙ empty;
      place = λ lt. ap has_place is ∙ place lt;
      fits = λ lt. subst (λ n. length (out-Trie s).below.items ≤ n) (sym (ap width is)) (fits lt);
    })
    (ap (λ y. loses (out-Trie t).below.items (paths_below (out-Trie s).below.items) (rooms_of y)) is ∙ l)

-- above the place of a child that comes or goes alone none does
pub none-comes : (t s : Trie) (r : Room) → is_trie s ≡ true → gain_room t (paths s) r ≡ true → has_place (out-Room r) ≡ false → 0 < coming t s → ⊥
none-comes t s r h k above lt = true≢false (sym ((gain-own t s r h k).place lt) ∙ above)

pub none-goes : (t s : Trie) (r : Room) → is_trie s ≡ true → lose_room t (paths s) r ≡ true → has_place (out-Room r) ≡ false → 0 < coming t s → ⊥
none-goes t s r h k above lt = true≢false (sym ((lose-own t s r h k).place lt) ∙ above)

-- where there is room for more children than there are, there is room for those that come; else none comes
pub comes-within : (f n c : ℕ) → (0 < f → n + f ≤ c) → n < c → n + f ≤ c
comes-within zero n c own lt = omega arith
comes-within (suc f) n c own lt = own (omega arith)

-- a vector that is as wide as the room, and holds those there are, has room for those that come
pub comes-wide : (f n c k : ℕ) → (0 < f → n + f ≤ c) → n ≤ k → c ≤ k → n + f ≤ k
comes-wide zero n c k own le wide = omega arith
comes-wide (suc f) n c k own le wide = let a = own (omega arith) in omega arith

-- ---- a child that is found, or not

-- behind the element of a child that is found there are that child's paths
pub found-paths : (e : Element) (cs : List (Elem × Trie)) (i : ℕ) (c : Elem × Trie) → rises (elements cs) ≡ true → i < length cs → c ≡ get_or cs i c
    → same_element e (element_view (get_or cs i c).0) ≡ true → tails e (paths_below cs) ≡ paths c.1
found-paths e cs i c h lt is same = tails-below e cs h ∙ ap paths_of (child-found e cs i c h lt same) ∙ ap (λ x. paths x.1) (sym is)

-- behind an element that stands nowhere there is no path
pub gap-paths : (e : Element) (cs : List (Elem × Trie)) (i : ℕ) → rises (elements cs) ≡ true → rises (elements (take i cs) ++ e ∷ elements (drop i cs)) ≡ true
    → tails e (paths_below cs) ≡ []
gap-paths e cs i h gap = tails-below e cs h ∙ ap paths_of (child-absent e cs i gap)

-- what has each path of a list with some path has some path
pub filled-more : (ps qs : List Path) → ((p : Path) → is_one_of ps p ≡ true → is_one_of qs p ≡ true) → has_some ps ≡ true → has_some qs ≡ true
filled-more ps qs h k = let one = a_path ps k in some-one qs one.0 (h one.0 one.1)

-- ---- one step of a loop over two lists

-- what is put at a place changes nothing behind it
pub left-set : {A : Type 0} (xs : List A) (i : ℕ) (x : A) → drop (i + 1) (set xs i x) ≡ drop (i + 1) xs
left-set xs i x = drop-set-lt (i + 1) xs i x (omega arith)

-- a list without length has no element
pub nothing-left : {A : Type 0} (xs : List A) → length xs ≡ 0 → xs ≡ []
nothing-left [] e = refl
nothing-left (x ∷ xs) e = absurd (omega arith)

-- lists left over are as long as each other
pub all-taken : {A B : Type 0} (xs : List A) (ys : List B) (i : ℕ) → length xs ≤ i → length (drop i xs) ≡ length (drop i ys) → take i ys ≡ ys
all-taken xs ys i le e =
    let none : drop i ys ≡ [] = nothing-left (drop i ys) (sym e ∙ ap length (drop_all i xs le)) in
    sym (append-nil (take i ys)) ∙ ap (λ l. take i ys ++ l) (sym none) ∙ take-append-drop i ys

-- of two lists of which as much is left, both have the place or none
pub within-both : {A B : Type 0} (xs : List A) (ys : List B) (i : ℕ) → i < length xs → length (drop i xs) ≡ length (drop i ys) → i < length ys
within-both xs ys i lt e = let a = length-drop i xs in let b = length-drop i ys in omega arith

-- ---- a child that has some path

-- paths that are some count for no child that comes
pub fresh-filled : (ps : List Path) → has_some ps ≡ true → fresh ps ≡ 0
fresh-filled ps h = ap (λ b. cond b 0 1) h

-- ---- below another element nothing changes

apart-from : (f e : Element) (d : Elem) → same_element e (element_view d) ≡ true → same_element f e ≡ false → same_element f (element_view d) ≡ false
apart-from f e d tie apart = ap (same_element f) (sym (same_element-true e (element_view d) tie)) ∙ apart

-- another tree for one child changes nothing below other elements
pub set-apart : (f e : Element) (cs : List (Elem × Trie)) (i : ℕ) (c : Elem × Trie) (m : Trie) → i < length cs → c ≡ get_or cs i c
    → same_element e (element_view c.0) ≡ true → same_element f e ≡ false
    → tails f (paths_below (set cs i (c.0, m))) ≡ tails f (paths_below cs)
set-apart f e cs i c m lt is tie apart =
    let away = apart-from f e c.0 tie apart in
    ap (λ l. tails f (paths_below l)) (parted-set cs i (c.0, m) lt) ∙ tails-apart f (take i cs) (drop (i + 1) cs) c.0 m away
    ∙ sym (ap (λ l. tails f (paths_below l)) (parted cs i c lt is) ∙ tails-apart f (take i cs) (drop (i + 1) cs) c.0 c.1 away)
