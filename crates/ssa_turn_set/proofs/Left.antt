-- What is left of paths without some of them, place by place.
use Rattle.std.proofs.Common.{◌≡◌, ℕ, suc, ◌+◌, ◌<◌, ◌≤◌, List, [], ◌∷◌, ◌++◌, length, get_or, take, Bool, true, false, not, ◌&&◌, ◌||◌, cond, Option, Some, None, refl, sym, ap, ◌∙◌, arith, subst, true≢false}
use Rattle.std.specs.List.{filter}
use Rattle.std.proofs.lemmas.List.Elements.{filter-append}
use Rattle.ssa_model.specs.definitions.FieldsV1.{heads, tails, with_head}
use Rattle.ssa_model.specs.definitions.Path.{Element, Path, same_element, same_path}
use Rattle.ssa_model.proofs.Lists.{is_one_of-filter}
use Rattle.ssa_model.proofs.PathMaps.{same_path-itself}
use Rattle.ssa_path.specs.declared.element.Elem.{Elem}
use Rattle.ssa_path.specs.declared.trie.Trie.{Trie}
use Rattle.ssa_path.specs.declared.trie.Trie.TheViews.{out-Trie}
use Rattle.ssa_path.specs.Children.{child_at, elements, is_below, rises}
use Rattle.ssa_path.specs.View.{element_view}
use Rattle.ssa_path.specs.Trie.{here_path, is_one_of, is_trie, paths, paths_after, paths_below, Exceeds, IsWithin}
use Rattle.ssa_path.proofs.Levels.{any-paths, found, paths-level, same_path-reading, some-one, trie-parts}
use Rattle.ssa_path.proofs.Orders.{both_first, both_second}
use Rattle.ssa_path.proofs.Lists.{taken-at}
use Rattle.ssa_path.proofs.Searching.{absent-below}
use Rattle.ssa_turn_set.specs.declared.room.Room.{Room}
use Rattle.ssa_turn_set.specs.declared.room.Room.TheOpen.{Room-F}
use Rattle.ssa_turn_set.specs.declared.room.Room.TheViews.{out-Room}
use Rattle.ssa_turn_set.specs.declared.spare.Spare.{Spare}
use Rattle.ssa_turn_set.specs.Room.{fresh, freshes, gain_room, gains, going, has_place, left, lose_one, lose_room, loses, losses, own_children, rooms_of, width}
use Rattle.ssa_turn_set.proofs.Places.{fresh-filled, place-tails, roomy-holds}
use Rattle.ssa_turn_set.proofs.Rooms.{gain_room-level, lose_room-level}
use Rattle.ssa_turn_set.proofs.Tails.{paths_of, tails-below}
use Rattle.ssa_model.proofs.Fitting.{same_element-true}
use Rattle.ssa_model.proofs.Tables.{element-itself as same_element-itself}
use Rattle.ssa_model.proofs.Basics.{both-true as both}

-- ---- behind an element

root-filter : (e : Element) (ps : List Path) (test : Path → Bool) (b : Bool) → tails e (filter test ps) ≡ filter (λ p. test (e ∷ p)) (tails e ps)
    → tails e (cond b ([] ∷ filter test ps) (filter test ps)) ≡ filter (λ p. test (e ∷ p)) (tails e ps)
root-filter e ps test true rest = rest
root-filter e ps test false rest = rest

first-filter : (e f : Element) (p : Path) (ps : List Path) (test : Path → Bool) (s : Bool) → same_element e f ≡ s → (b : Bool) → test (f ∷ p) ≡ b
    → tails e (filter test ps) ≡ filter (λ q. test (e ∷ q)) (tails e ps)
    → tails e (cond b ((f ∷ p) ∷ filter test ps) (filter test ps)) ≡ filter (λ q. test (e ∷ q)) (cond s (p ∷ tails e ps) (tails e ps))
first-filter e f p ps test true same true passes rest =
    let here = ap (λ g. test (g ∷ p)) (same_element-true e f same) ∙ passes in
    (λ i. cond (same i) (p ∷ rest i) (rest i)) ∙ sym (ap (λ b. cond b (p ∷ filter (λ q. test (e ∷ q)) (tails e ps)) (filter (λ q. test (e ∷ q)) (tails e ps)))
    here)
first-filter e f p ps test true same false fails rest =
    let here = ap (λ g. test (g ∷ p)) (same_element-true e f same) ∙ fails in
    rest ∙ sym (ap (λ b. cond b (p ∷ filter (λ q. test (e ∷ q)) (tails e ps)) (filter (λ q. test (e ∷ q)) (tails e ps))) here)
first-filter e f p ps test false apart true passes rest = (λ i. cond (apart i) (p ∷ tails e (filter test ps)) (tails e (filter test ps))) ∙ rest
first-filter e f p ps test false apart false fails rest = rest

-- of the paths behind an element those are left that are, behind it, none of the others
pub tails-filter : (e : Element) (test : Path → Bool) (ps : List Path) → tails e (filter test ps) ≡ filter (λ p. test (e ∷ p)) (tails e ps)
tails-filter e test [] = refl
tails-filter e test ([] ∷ ps) = root-filter e ps test (test []) (tails-filter e test ps)
tails-filter e test ((f ∷ p) ∷ ps) = first-filter e f p ps test (same_element e f) refl (test (f ∷ p)) refl (tails-filter e test ps)

found-of : (x : Option Trie) (p : Path) → found same_path x p ≡ is_one_of (paths_of x) p
found-of None p = refl
found-of (Some c) p = refl

-- behind an element is left what the child there has without the lost one's
pub left-behind : (own lost : Trie) (e : Element) (ps qs : List Path) → is_trie lost ≡ true → ps ≡ tails e (paths_below (out-Trie own).below.items)
    → qs ≡ tails e (paths_below (out-Trie lost).below.items) → tails e (left (paths own) (paths lost)) ≡ left ps qs
left-behind own lost e ps qs trie place gone =
    let ds = (out-Trie lost).below.items in
    let child = tails-below e ds (trie-parts lost _ refl trie).0 in
    let one : (p : Path) → is_one_of (paths lost) (e ∷ p) ≡ is_one_of qs p =
    λ p. any-paths same_path same_path-reading lost e p trie ∙ found-of (child_at e ds) p ∙ ap (λ l. is_one_of l p) (sym (gone ∙ child)) in
    tails-filter e (λ p. not (is_one_of (paths lost) p)) (paths own) ∙ (λ i. filter (λ p. not (one p i)) ((place-tails own e ∙ sym place) i))

-- ---- child by child

-- what holds of each child and its element
abbrev pub AllChildren : (Element → Trie → Type 0) → List (Elem × Trie) → Type 0
AllChildren P [] = Unit {0}
AllChildren P (c ∷ cs) = P (element_view c.0) c.1 × AllChildren P cs

skip : (b : Bool) (e : Element) (c : Elem × Trie) (cs : List (Elem × Trie)) (d : Trie) → same_element e (element_view c.0) ≡ b
    → is_below (element_view c.0) (elements cs) ≡ true → child_at e cs ≡ Some d → cond b (Some c.1) (child_at e cs) ≡ Some d
skip true e c cs d same below at = let none : ◌≡◌ {A = Option Trie} None (Some d) = sym (absent-below e (element_view c.0) cs same below) ∙ at in cc
skip false e c cs d same below at = at

-- what holds of whatever child is found under an element holds of each child
pub all-children : (P : Element → Trie → Type 0) (cs : List (Elem × Trie)) → rises (elements cs) ≡ true
    → ((e : Element) (c : Trie) → child_at e cs ≡ Some c → P e c) → AllChildren P cs
all-children P [] rise h = tt
all-children P (c ∷ cs) rise h = (
  h (element_view c.0) c.1 (ap (λ b. cond b (Some c.1) (child_at (element_view c.0) cs)) (same_element-itself (element_view c.0))),
  all-children P cs (both_second _ _ rise) (λ e d at. h e d (skip (same_element e (element_view c.0)) e c cs d refl (both_first _ _ rise) at)),
)

-- behind an element the one list has what is left of the other without the paths of the element's child
abbrev pub IsLeft : List Path → List Path → Element → Trie → Type 0
IsLeft ps qs e c = tails e qs ≡ left (tails e ps) (paths c)

-- the children that go whole are those with which none of the paths that are left begins
pub going-is : (ds : List (Elem × Trie)) (ps qs : List Path) → AllChildren (IsLeft ps qs) ds → going ds ps ≡ freshes ds qs
going-is [] ps qs h = refl
going-is (d ∷ ds) ps qs h = λ i. fresh (sym h.0 i) + going-is ds ps qs h.1 i

-- rooms that are enough for the children to be lost are enough to take them out, told by the paths that are left
pub losses-are : (ds : List (Elem × Trie)) (ps qs : List Path) (rs : List (Spare × Room)) → AllChildren (IsLeft ps qs) ds → losses ds ps rs ≡ loses ds qs rs
losses-are [] ps qs [] h = refl
losses-are [] ps qs (r ∷ rs) h = refl
losses-are (d ∷ ds) ps qs [] h = refl
losses-are (d ∷ ds) ps qs (r ∷ rs) h = λ i. lose_one d (sym h.0 i) r && losses-are ds ps qs rs h.1 i

-- of a set without some of its paths, behind each child of those
pub left-below : (lost own : Trie) → is_trie lost ≡ true → AllChildren (IsLeft (paths_below (out-Trie own).below.items) (left (paths own) (paths lost)))
    (out-Trie lost).below.items
left-below lost own trie =
    all-children _ (out-Trie lost).below.items (trie-parts lost _ refl trie).0 (λ e c at.
    tails-filter e (λ p. not (is_one_of (paths lost) p)) (paths own)
    ∙ (λ i. filter (λ p. not ((any-paths same_path same_path-reading lost e p trie ∙ ap (λ x. found same_path x p) at) i)) (place-tails own e i)))

going-more : (ds : List (Elem × Trie)) (d : Elem × Trie) (ps : List Path)
    → going (ds ++ d ∷ []) ps ≡ going ds ps + fresh (left (tails (element_view d.0) ps) (paths d.1))
going-more [] d ps = let n = fresh (left (tails (element_view d.0) ps) (paths d.1)) in omega arith
going-more (c ∷ ds) d ps = let rest = going-more ds d ps in omega arith

-- ---- how many children are left

head-again : (e : Element) (hs : List Element) → with_head e (with_head e hs) ≡ with_head e hs
head-again e [] = ap (λ b. cond b (e ∷ []) (e ∷ e ∷ [])) (same_element-itself e)
head-again e (f ∷ fs) = by (same_element e f) refl
  where
    by : (b : Bool) → same_element e f ≡ b → with_head e (cond b (f ∷ fs) (e ∷ f ∷ fs)) ≡ cond b (f ∷ fs) (e ∷ f ∷ fs)
    by true same = ap (λ b. cond b (f ∷ fs) (e ∷ f ∷ fs)) same
    by false apart = ap (λ b. cond b (e ∷ f ∷ fs) (e ∷ e ∷ f ∷ fs)) (same_element-itself e)

head-more : (e : Element) (hs : List Element) → length (with_head e hs) ≤ suc (length hs)
head-more e [] = omega arith
head-more e (f ∷ fs) = by (same_element e f)
  where
    by : (b : Bool) → length (cond b (f ∷ fs) (e ∷ f ∷ fs)) ≤ suc (suc (length fs))
    by true = omega arith
    by false = omega arith

block-heads : (e : Element) (p : Path) (ps qs : List Path) → heads (paths_after e (p ∷ ps) ++ qs) ≡ with_head e (heads qs)
block-heads e p [] qs = refl
block-heads e p (x ∷ ps) qs = ap (with_head e) (block-heads e x ps qs) ∙ head-again e (heads qs)

block-count : (e : Element) (ps qs : List Path) → length (heads (paths_after e ps ++ qs)) + fresh ps ≤ suc (length (heads qs))
block-count e [] qs = omega arith
block-count e (p ∷ ps) qs = let is = ap length (block-heads e p ps qs) in let more = head-more e (heads qs) in omega arith

one-after : (f : Element) (p : Path) (ps : List Path) (test : Path → Bool) (b : Bool)
    → filter test (paths_after f ps) ≡ paths_after f (filter (λ q. test (f ∷ q)) ps)
    → cond b ((f ∷ p) ∷ filter test (paths_after f ps)) (filter test (paths_after f ps))
    ≡ paths_after f (cond b (p ∷ filter (λ q. test (f ∷ q)) ps) (filter (λ q. test (f ∷ q)) ps))
one-after f p ps test true rest = ap (λ l. (f ∷ p) ∷ l) rest
one-after f p ps test false rest = rest

after-filter : (f : Element) (test : Path → Bool) (ps : List Path) → filter test (paths_after f ps) ≡ paths_after f (filter (λ p. test (f ∷ p)) ps)
after-filter f test [] = refl
after-filter f test (p ∷ ps) = one-after f p ps test (test (f ∷ p)) (after-filter f test ps)

-- the children of whose paths none passes
pub goners : (Path → Bool) → List (Elem × Trie) → ℕ
goners test [] = 0
goners test (c ∷ cs) = fresh (filter (λ p. test (element_view c.0 ∷ p)) (paths c.1)) + goners test cs

heads-filter : (test : Path → Bool) (cs : List (Elem × Trie)) → length (heads (filter test (paths_below cs))) + goners test cs ≤ length cs
unfolding goners
heads-filter test [] = omega arith
heads-filter test (c ∷ cs) =
    let e = element_view c.0 in
    let split = ap (λ l. length (heads l)) (filter-append test (paths_after e (paths c.1)) (paths_below cs)
    ∙ ap (λ l. l ++ filter test (paths_below cs)) (after-filter e test (paths c.1))) in
    let first = block-count e (filter (λ p. test (e ∷ p)) (paths c.1)) (filter test (paths_below cs)) in
    let rest = heads-filter test cs in
    omega arith

-- the children of whose paths none passes are those with which none of what passes begins
pub goners-are : (test : Path → Bool) (cs : List (Elem × Trie)) (qs : List Path)
    → AllChildren (λ e c. tails e qs ≡ filter (λ p. test (e ∷ p)) (paths c)) cs → goners test cs ≡ freshes cs qs
unfolding goners
goners-are test [] qs h = refl
goners-are test (c ∷ cs) qs h = λ i. fresh (sym h.0 i) + goners-are test cs qs h.1 i

here-filter : (b : Bool) (test : Path → Bool) (qs : List Path) → heads (filter test (here_path b) ++ qs) ≡ heads qs
here-filter true test qs = by (test [])
  where
    by : (b : Bool) → heads (cond b ([] ∷ []) [] ++ qs) ≡ heads qs
    by true = refl
    by false = refl
here-filter false test qs = refl

-- those that are left and those that go whole are no more than there were
pub heads-gone : (own : Trie) (qs : List Path)
    → length (heads (left (paths own) qs)) + goners (λ p. not (is_one_of qs p)) (out-Trie own).below.items ≤ length (out-Trie own).below.items
heads-gone own qs =
    let test : Path → Bool = λ p. not (is_one_of qs p) in
    let cs = (out-Trie own).below.items in
    let is = ap (λ l. length (heads (filter test l))) (paths-level own)
    ∙ ap (λ l. length (heads l)) (filter-append test (here_path (out-Trie own).here) (paths_below cs))
    ∙ ap length (here-filter (out-Trie own).here test (filter test (paths_below cs))) in
    let most = heads-filter test cs in
    omega arith

-- ---- whether some path is left

-- where all of the paths are lost, nothing is left
pub all-goes : (ps qs : List Path) → IsWithin ps qs → fresh (left ps qs) ≡ 1
all-goes ps qs h = by (left ps qs) refl
  where
    by : (xs : List Path) → left ps qs ≡ xs → fresh xs ≡ 1
    by [] is = refl
    by (p ∷ xs) is =
        let there = sym (is_one_of-filter (λ q. not (is_one_of qs q)) ps p) ∙ ap (λ l. is_one_of l p) is ∙ ap (λ b. b || is_one_of xs p) (same_path-itself p) in
        absurd (true≢false (sym (both_second (is_one_of ps p) _ there) ∙ ap not (h p (both_first (is_one_of ps p) _ there))))

-- where the paths have more than is lost, something is left
pub some-stays : (ps qs : List Path) → Exceeds ps qs → fresh (left ps qs) ≡ 0
some-stays ps qs h =
    let there = is_one_of-filter (λ q. not (is_one_of qs q)) ps h.0 ∙ (λ i. h.1 i && not (h.2 i)) in
    fresh-filled (left ps qs) (some-one (left ps qs) h.0 there)

-- ---- one more

-- one child more that goes whole, or does not, counts as one more or as none
pub going-one-more : (cs : List (Elem × Trie)) (ps : List Path) (i count one : ℕ) (c : Elem × Trie) → i < length cs → c ≡ get_or cs i c
    → count ≡ going (take i cs) ps
    → one ≡ fresh (left (tails (element_view c.0) ps) (paths c.1)) → count + one ≡ going (take (i + 1) cs) ps
going-one-more cs ps i count one c lt is e f = (λ j. e j + f j) ∙ sym (ap (λ l. going l ps) (taken-at cs i c lt is) ∙ going-more (take i cs) c ps)

-- one room more is enough for one child more to be lost
pub losses-more : (ds : List (Elem × Trie)) (d : Elem × Trie) (ps : List Path) (rs : List (Spare × Room)) (r : Spare × Room) → losses ds ps rs ≡ true
    → lose_one d (left (tails (element_view d.0) ps) (paths d.1)) r ≡ true → losses (ds ++ d ∷ []) ps (rs ++ r ∷ []) ≡ true
losses-more [] d ps [] r h k = both _ _ k refl
losses-more [] d ps (x ∷ rs) r h k = absurd (true≢false (sym h))
losses-more (c ∷ ds) d ps [] r h k = absurd (true≢false (sym h))
losses-more (c ∷ ds) d ps (x ∷ rs) r h k = both _ _ (both_first _ _ h) (losses-more ds d ps rs r (both_second _ _ h) k)

-- ---- the room of a place

-- room for a set's children is enough where some of them go, and for each child that is lost it is enough
pub loss-held : (t s : Trie) (r : Room) (x : Room-F Room) → out-Room r ≡ x → is_trie t ≡ true → own_children x ≡ []
    → (0 < going (out-Trie t).below.items (paths_below (out-Trie s).below.items) → has_place x ≡ true)
    → (0 < going (out-Trie t).below.items (paths_below (out-Trie s).below.items) → length (heads (left (paths s) (paths t))) ≤ width x)
    → losses (out-Trie t).below.items (paths_below (out-Trie s).below.items) (rooms_of x) ≡ true → lose_room t (left (paths s) (paths t)) r ≡ true
loss-held t s r x is h empty place fits l =
    let ds = (out-Trie t).below.items in
    let old = paths_below (out-Trie s).below.items in
    let new = left (paths s) (paths t) in
    let each = left-below t s h in
    lose_room-level t new r
    ∙ both _ _
    (roomy-holds (freshes ds new) (length (heads new)) r (record {
      empty = ap own_children is ∙ empty;
      place = λ lt. ap has_place is ∙ place (subst (λ n. 0 < n) (sym (going-is ds old new each)) lt);
      fits = λ lt. subst (λ n. length (heads new) ≤ n) (sym (ap width is))
          (fits (subst (λ n. 0 < n) (sym (going-is ds old new each)) lt));
    }))
    (ap (λ y. loses ds new (rooms_of y)) is ∙ sym (losses-are ds old new (rooms_of x) each) ∙ l)

-- room for what is left of a set's children and for those that come is enough, where each child's room is
pub gain-left : (t : Trie) (ps : List Path) (r : Room) (x : Room-F Room) (n : ℕ) → out-Room r ≡ x → own_children x ≡ [] → length (heads ps) ≤ n
    → (0 < freshes (out-Trie t).below.items ps → has_place x ≡ true)
    → (0 < freshes (out-Trie t).below.items ps → n + freshes (out-Trie t).below.items ps ≤ width x)
    → gains (out-Trie t).below.items ps (rooms_of x) ≡ true → gain_room t ps r ≡ true
gain-left t ps r x n is empty few place fits l =
    let ds = (out-Trie t).below.items in
    gain_room-level t ps r
    ∙ both _ _
    (roomy-holds (freshes ds ps) (length (heads ps) + freshes ds ps) r (record {
      empty = ap own_children is ∙ empty;
      place = λ lt. ap has_place is ∙ place lt;
      fits = λ lt. subst (λ m. length (heads ps) + freshes ds ps ≤ m) (sym (ap width is)) (let enough = fits lt in omega arith);
    }))
    (ap (λ y. gains ds ps (rooms_of y)) is ∙ l)
