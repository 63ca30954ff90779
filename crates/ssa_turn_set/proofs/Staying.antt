-- How many of a set's children are left where it loses some of its paths, told child by child of what is lost.
use Rattle.std.specs.Prelude.{◌==◌}
use Rattle.std.proofs.lemmas.Bool.{ne_eqb}
use Rattle.std.proofs.Common.{eq-eqb, ◌≡◌, ℕ, zero, suc, ◌+◌, ◌<◌, ◌≤◌, List, [], ◌∷◌, ◌++◌, length, get_or, take, Bool, true, false, not, ◌&&◌, cond, Option, Some, None, refl, sym, ap, ◌∙◌, arith, true≢false}
use Rattle.std.specs.List.{filter}
use Rattle.ssa_model.specs.definitions.FieldsV1.{heads, tails, with_head}
use Rattle.ssa_model.specs.definitions.Path.{Element, Path, same_element, same_path}
use Rattle.ssa_path.specs.declared.element.Elem.{Elem}
use Rattle.ssa_path.specs.declared.trie.Trie.{Trie}
use Rattle.ssa_path.specs.declared.trie.Trie.TheViews.{out-Trie}
use Rattle.ssa_path.specs.Children.{child_at, elements, rises}
use Rattle.ssa_path.specs.View.{element_view}
use Rattle.ssa_path.specs.Trie.{has_some, is_one_of, is_trie, paths, paths_below, IsWithin}
use Rattle.ssa_path.proofs.Levels.{any-paths, found, one-level-root, same_path-reading, some-one, trie-parts}
use Rattle.ssa_path.proofs.LyingWithin.{some-path}
use Rattle.ssa_path.proofs.Lists.{taken-at}
use Rattle.ssa_path.proofs.Orders.{both_second}
use Rattle.ssa_turn_set.specs.Room.{children, fresh, freshes, goes, gone_of, leaving, left}
use Rattle.ssa_turn_set.proofs.Left.{all-children, goners-are, heads-gone, left-below, AllChildren, IsLeft, tails-filter}
use Rattle.ssa_turn_set.proofs.NewRooms.{found-child}
use Rattle.ssa_turn_set.proofs.Shared.{shared, shared-comm, there, there-most}
use Rattle.ssa_turn_set.proofs.Places.{place-tails}
use Rattle.ssa_turn_set.proofs.Tails.{paths_of, tails-below}
use Rattle.ssa_model.proofs.Lists.{is_one_of-filter}

-- 1 where none of the paths begins with the element
abbrev pub stale : List Path → Element → ℕ
stale ps e = fresh (tails e ps)

shared-few : (ds cs : List (Elem × Trie)) (ps : List Path) → shared (stale ps) ds cs ≤ freshes ds ps
shared-few [] cs ps = omega arith
shared-few (d ∷ ds) cs ps =
    let one = there-most (child_at (element_view d.0) cs) (fresh (tails (element_view d.0) ps)) in
    let rest = shared-few ds cs ps in
    omega arith

pub gone-there : (o : Option Trie) (e : Element) (ps : List Path) (d : Trie) (cs : List (Elem × Trie)) → child_at e cs ≡ o → rises (elements cs) ≡ true
    → tails e ps ≡ left (tails e (paths_below cs)) (paths d) → gone_of o (paths d) ≡ there o (fresh (tails e ps))
gone-there None e ps d cs at rise h = refl
gone-there (Some c) e ps d cs at rise h = ap (λ l. fresh (left l (paths d))) (sym (tails-below e cs rise ∙ ap paths_of at)) ∙ ap fresh (sym h)

-- those that go whole, told by what is left
pub leaving-is : (ds cs : List (Elem × Trie)) (ps : List Path) → rises (elements cs) ≡ true → AllChildren (IsLeft (paths_below cs) ps) ds
    → leaving ds cs ≡ shared (stale ps) ds cs
leaving-is [] cs ps rise h = refl
leaving-is (d ∷ ds) cs ps rise h =
    let e = element_view d.0 in
    λ i. gone-there (child_at e cs) e ps d.1 cs refl rise h.0 i + leaving-is ds cs ps rise h.1 i

-- of the children those are left that do not go whole
pub left-most : (own lost : Trie) → is_trie own ≡ true → is_trie lost ≡ true
    → length (heads (left (paths own) (paths lost))) + leaving (out-Trie lost).below.items (out-Trie own).below.items ≤ length (out-Trie own).below.items
left-most own lost trie trie_lost =
    let cs = (out-Trie own).below.items in
    let ds = (out-Trie lost).below.items in
    let test : Path → Bool = λ p. not (is_one_of (paths lost) p) in
    let new = left (paths own) (paths lost) in
    let rise = (trie-parts own _ refl trie).0 in
    let each = all-children (λ e c. tails e new ≡ filter (λ p. test (e ∷ p)) (paths c)) cs rise (λ e c at.
    tails-filter e test (paths own) ∙ ap (filter (λ p. test (e ∷ p))) (place-tails own e ∙ tails-below e cs rise ∙ ap paths_of at)) in
    let gone = goners-are test cs new each in
    let same = shared-comm (stale new) cs ds rise (trie-parts lost _ refl trie_lost).0 in
    let most = shared-few cs ds new in
    let is = leaving-is ds cs new rise (left-below lost own trie_lost) in
    let few = heads-gone own (paths lost) in
    omega arith

fits-left : (n k len w : ℕ) → n + k ≤ len → (k < len → len ≤ w) → n ≤ w
fits-left zero k len w most fits = omega arith
fits-left (suc n) k len w most fits = let enough = fits (omega arith) in omega arith

-- room for all children is enough for those that are left, and none is needed where all go whole
pub left-fits : (own lost : Trie) (w : ℕ) → is_trie own ≡ true → is_trie lost ≡ true
    → (leaving (children lost) (children own) < length (children own) → length (children own) ≤ w) → length (heads (left (paths own) (paths lost))) ≤ w
left-fits own lost w trie trie_lost fits = fits-left _ _ _ w (left-most own lost trie trie_lost) fits

leaving-more : (ds : List (Elem × Trie)) (d : Elem × Trie) (cs : List (Elem × Trie))
    → leaving (ds ++ d ∷ []) cs ≡ leaving ds cs + gone_of (child_at (element_view d.0) cs) (paths d.1)
leaving-more [] d cs = let n = gone_of (child_at (element_view d.0) cs) (paths d.1) in omega arith
leaving-more (c ∷ ds) d cs = let rest = leaving-more ds d cs in omega arith

-- one child more that goes whole, or does not, counts as one more or as none
pub leaving-one-more : (ds cs : List (Elem × Trie)) (i count one : ℕ) (d : Elem × Trie) → i < length ds → d ≡ get_or ds i d → count ≡ leaving (take i ds) cs
    → one ≡ gone_of (child_at (element_view d.0) cs) (paths d.1) → count + one ≡ leaving (take (i + 1) ds) cs
leaving-one-more ds cs i count one d lt is e f = (λ j. e j + f j) ∙ sym (ap (λ l. leaving l cs) (taken-at ds i d lt is) ∙ leaving-more (take i ds) d cs)

-- ---- a place with more children than are lost

freshes-nowhere : (ds : List (Elem × Trie)) → freshes ds [] ≡ length ds
freshes-nowhere [] = refl
freshes-nowhere (d ∷ ds) = let rest = freshes-nowhere ds in omega arith

there-once : (o : Option Trie) → (o ≡ None → ⊥) → there o 1 ≡ 1
there-once None some = absurd (some refl)
there-once (Some c) some = refl

shared-all : (cs ds : List (Elem × Trie)) → AllChildren (λ e c. child_at e ds ≡ None → ⊥) cs → shared (stale []) cs ds ≡ length cs
shared-all [] ds h = refl
shared-all (c ∷ cs) ds h =
    let one = there-once (child_at (element_view c.0) ds) h.0 in
    let rest = shared-all cs ds h.1 in
    omega arith

-- each child of a set within another has its counterpart there
within-found : (s l : Trie) → is_trie s ≡ true → is_trie l ≡ true → IsWithin (paths s) (paths l)
    → AllChildren (λ e c. child_at e (out-Trie l).below.items ≡ None → ⊥) (out-Trie s).below.items
within-found s l trie trie_lost within =
    let cs = (out-Trie s).below.items in
    let parts = trie-parts s _ refl trie in
    all-children (λ e c. child_at e (out-Trie l).below.items ≡ None → ⊥) cs parts.0 (λ e c at none.
    let some = some-path (paths c) (both_second (is_trie c) _ (found-child e cs c parts.1 at)) in
    let here = any-paths same_path same_path-reading s e some.0 trie ∙ ap (λ x. found same_path x some.0) at ∙ some.1 in
    true≢false (sym (within (e ∷ some.0) here) ∙ any-paths same_path same_path-reading l e some.0 trie_lost ∙ ap (λ x. found same_path x some.0) none))

within-few : (s l : Trie) → is_trie s ≡ true → is_trie l ≡ true → IsWithin (paths s) (paths l)
    → length (out-Trie s).below.items ≤ length (out-Trie l).below.items
within-few s l trie trie_lost within =
    let cs = (out-Trie s).below.items in
    let ds = (out-Trie l).below.items in
    let all = shared-all cs ds (within-found s l trie trie_lost within) in
    let same = shared-comm (stale []) cs ds (trie-parts s _ refl trie).0 (trie-parts l _ refl trie_lost).0 in
    let most = shared-few ds cs [] in
    let count = freshes-nowhere ds in
    omega arith

nothing-stays : (ps qs : List Path) → left ps qs ≡ [] → IsWithin ps qs
nothing-stays ps qs none p here = by (is_one_of qs p) refl
  where
    by : (b : Bool) → is_one_of qs p ≡ b → is_one_of qs p ≡ true
    by true there = there
    by false gone =
        absurd (true≢false (sym (is_one_of-filter (λ q. not (is_one_of qs q)) ps p ∙ (λ i. here i && not (gone i))) ∙ ap (λ l. is_one_of l p) none))

-- of a place with more children than are lost something is left
pub more-stays : (s l : Trie) → is_trie s ≡ true → is_trie l ≡ true → length (out-Trie l).below.items < length (out-Trie s).below.items
    → fresh (left (paths s) (paths l)) ≡ 0
more-stays s l trie trie_lost more = by (left (paths s) (paths l)) refl
  where
    by : (xs : List Path) → left (paths s) (paths l) ≡ xs → fresh xs ≡ 0
    by [] none = let few = within-few s l trie trie_lost (nothing-stays (paths s) (paths l) none) in absurd (omega arith)
    by (p ∷ xs) is = refl

-- ---- whether a place goes whole

-- of a place that goes whole each child does
all-leave : (s l : Trie) → is_trie s ≡ true → is_trie l ≡ true → left (paths s) (paths l) ≡ [] → leaving (children l) (children s) ≡ length (children s)
all-leave s l trie trie_lost none =
    let rise = (trie-parts s _ refl trie).0 in
    leaving-is (children l) (children s) (left (paths s) (paths l)) rise (left-below l s trie_lost)
    ∙ ap (λ ps. shared (stale ps) (children l) (children s)) none
    ∙ shared-comm (stale []) (children s) (children l) rise (trie-parts l _ refl trie_lost).0
    ∙ shared-all (children s) (children l) (within-found s l trie trie_lost (nothing-stays (paths s) (paths l) none))

some-head : (e : Element) (hs : List Element) → length (with_head e hs) ≡ 0 → ⊥
some-head e [] none = omega arith
some-head e (f ∷ fs) none = by (same_element e f) none
  where
    by : (b : Bool) → length (cond b (f ∷ fs) (e ∷ f ∷ fs)) ≡ 0 → ⊥
    by true none = omega arith
    by false none = omega arith

headless : (ps : List Path) → length (heads ps) ≡ 0 → is_one_of ps [] ≡ false → ps ≡ []
headless [] none apart = refl
headless ([] ∷ ps) none apart = absurd (true≢false apart)
headless ((e ∷ p) ∷ ps) none apart = absurd (some-head e (heads ps) none)

-- nothing is left of a place all of whose children go whole, and its own path
pub none-stays : (s l : Trie) → is_trie s ≡ true → is_trie l ≡ true → ((out-Trie s).here && not (out-Trie l).here) ≡ false
    → leaving (children l) (children s) ≡ length (children s) → left (paths s) (paths l) ≡ []
none-stays s l trie trie_lost root all =
    let most = left-most s l trie trie_lost in
    headless (left (paths s) (paths l)) (omega arith)
    (is_one_of-filter (λ q. not (is_one_of (paths l) q)) (paths s) [] ∙ (λ i. one-level-root s i && not (one-level-root l i)) ∙ root)

-- a place whose own path stays does not go whole
pub root-stays : (s l : Trie) → (out-Trie s).here ≡ true → (out-Trie l).here ≡ false → false ≡ goes (paths s) (paths l)
root-stays s l here gone =
    let some = some-one (left (paths s) (paths l)) [] (is_one_of-filter (λ q. not (is_one_of (paths l) q)) (paths s) []
    ∙ (λ i. (one-level-root s ∙ here) i && not ((one-level-root l ∙ gone) i))) in
    sym (ap not some)

-- a place without a path of its own that stays goes whole where as many of its children do as it has
pub goes-is : (s l : Trie) (n : ℕ) → is_trie s ≡ true → is_trie l ≡ true → ((out-Trie s).here && not (out-Trie l).here) ≡ false
    → n ≡ leaving (children l) (children s) → (n == length (children s)) ≡ goes (paths s) (paths l)
goes-is s l n trie trie_lost root is = by (left (paths s) (paths l)) refl
  where
    by : (xs : List Path) → left (paths s) (paths l) ≡ xs → (n == length (children s)) ≡ not (has_some xs)
    by [] none = eq-eqb n (length (children s)) (is ∙ all-leave s l trie trie_lost none)
    by (p ∷ xs) some = ne_eqb n (length (children s)) (λ all.
        let none : ◌≡◌ {A = List Path} (p ∷ xs) [] = sym some ∙ none-stays s l trie trie_lost root (sym is ∙ all) in cc)
