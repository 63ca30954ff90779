-- Lists of children: one after another, parted at a place, and copied.
use Rattle.std.proofs.Common.{◌≡◌, ℕ, suc, ◌+◌, ◌<◌, ◌≤◌, List, [], ◌∷◌, ◌++◌, length, get_or, take, drop, map, Bool, true, false, ◌&&◌, ◌||◌, refl, sym, ap, ◌∙◌, append_assoc, arith, set, length-set, get_or-set_same, get_or-set_other}
use Rattle.std.proofs.lemmas.List.{take_more, take-append-drop, take-set, drop-set-lt}
use Rattle.std.proofs.lemmas.List.Folds.{list_any-append}
use Rattle.ssa_model.specs.definitions.Path.{Element, Path, same_path}
use Rattle.ssa_path.specs.declared.element.Elem.{Elem}
use Rattle.ssa_path.specs.declared.trie.Trie.{Trie}
use Rattle.ssa_path.specs.declared.trie.Trie.TheOpen.{Trie-F}
use Rattle.ssa_path.specs.declared.trie.Trie.TheViews.{out-Trie, roll-Trie}
use Rattle.ssa_path.specs.Children.{elements, rises}
use Rattle.ssa_path.specs.View.{element_view}
use Rattle.ssa_path.specs.Trie.{Shape, here_path, is_one_of, paths_after, paths_below, paths, shape, is_trie, is_filled, has_some, are_filled_tries}
use Rattle.ssa_path.proofs.Orders.{both_first, both_second, and_assoc}
use Rattle.ssa_path.proofs.Levels.{shape-made, shape-level}
use Rattle.ssa_model.proofs.Basics.{or_swap, both-true as both}
pub use Rattle.ssa_members.proofs.Lent.{next-lent as left-at}

-- what is read at a place is the same each time
pub same-at : {A : Type 0} (xs : List A) (i : ℕ) (a b : A) → i < length xs → a ≡ get_or xs i a → b ≡ get_or xs i b → a ≡ b
same-at xs i a b lt is_a is_b = let both = sym (left-at xs i a lt is_a) ∙ left-at xs i b lt is_b in cc

-- with another at a place, those behind it are as they were
pub unvisited-set : {A : Type 0} (now old : List A) (i : ℕ) (x : A)
    → (length now ≡ length old) × ((k : ℕ) (d : A) → i ≤ k → get_or now k d ≡ get_or old k d)
    → (length (set now i x) ≡ length old) × ((k : ℕ) (d : A) → i + 1 ≤ k → get_or (set now i x) k d ≡ get_or old k d)
unvisited-set now old i x h = (
  length-set now i x ∙ h.0,
  λ k d le. get_or-set_other now i k x d (omega arith) ∙ h.1 k d (omega arith),
)

-- ---- one after another

-- of children behind others, the elements stand behind the others'
pub elements-append : {A : Type 0} (cs ds : List (Elem × A)) → elements (cs ++ ds) ≡ elements cs ++ elements ds
elements-append [] ds = refl
elements-append (c ∷ cs) ds = ap (λ es. element_view c.0 ∷ es) (elements-append cs ds)

-- there are as many elements as children
pub length-elements : {A : Type 0} (cs : List (Elem × A)) → length (elements cs) ≡ length cs
length-elements [] = refl
length-elements (c ∷ cs) = ap suc (length-elements cs)

-- of children behind others, the paths stand behind the others'
pub paths_below-append : (cs ds : List (Elem × Trie)) → paths_below (cs ++ ds) ≡ paths_below cs ++ paths_below ds
paths_below-append [] ds = refl
paths_below-append (c ∷ cs) ds = ap (λ ps. paths_after (element_view c.0) (paths c.1) ++ ps) (paths_below-append cs ds)
    ∙ sym (append_assoc (paths_after (element_view c.0) (paths c.1)) (paths_below cs) (paths_below ds))

-- children and others are filled tries where both are
pub filled-append : (cs ds : List (Elem × Trie)) → are_filled_tries (cs ++ ds) ≡ (are_filled_tries cs && are_filled_tries ds)
filled-append [] ds = refl
filled-append (c ∷ cs) ds = ap (λ b. (is_trie c.1 && is_filled c.1) && b) (filled-append cs ds) ∙ and_assoc _ (are_filled_tries cs) (are_filled_tries ds)

-- behind so many, filled tries are filled tries
pub filled-drop : (cs : List (Elem × Trie)) (i : ℕ) → are_filled_tries cs ≡ true → are_filled_tries (drop i cs) ≡ true
filled-drop cs i h = both_second (are_filled_tries (take i cs)) _ (sym (filled-append (take i cs) (drop i cs)) ∙ ap are_filled_tries (take-append-drop i cs)
    ∙ h)

-- the later ones of elements that rise do so
pub rises-drop : (es fs : List Element) → rises (es ++ fs) ≡ true → rises fs ≡ true
rises-drop [] fs h = h
rises-drop (e ∷ es) fs h = rises-drop es fs (both_second _ _ h)

-- the child at a place among filled tries is a trie with some path
pub filled-at : (cs : List (Elem × Trie)) (i : ℕ) (c : Elem × Trie) → i < length cs → c ≡ get_or cs i c → are_filled_tries cs ≡ true
    → (is_trie c.1 && is_filled c.1) ≡ true
filled-at cs i c lt is h =
    let left : are_filled_tries (c ∷ drop (i + 1) cs) ≡ true = ap are_filled_tries (sym (left-at cs i c lt is))
    ∙ filled-drop cs i h in
    both_first (is_trie c.1 && is_filled c.1) _ left

-- the child at a place among filled tries is a trie
pub child-trie : (cs : List (Elem × Trie)) (i : ℕ) (c : Elem × Trie) → i < length cs → c ≡ get_or cs i c → are_filled_tries cs ≡ true → is_trie c.1 ≡ true
child-trie cs i c lt is h = both_first (is_trie c.1) _ (filled-at cs i c lt is h)

-- ---- parted at a place

-- the first up to a place and the one there are the first up to the next place
pub taken-at : {A : Type 0} (cs : List A) (i : ℕ) (c : A) → i < length cs → c ≡ get_or cs i c → take (i + 1) cs ≡ take i cs ++ c ∷ []
taken-at cs i c lt is = take_more cs i c lt ∙ ap (λ x. take i cs ++ x ∷ []) (sym is)

-- all are the first up to a place, the one there and those behind it
pub parted : {A : Type 0} (cs : List A) (i : ℕ) (c : A) → i < length cs → c ≡ get_or cs i c → cs ≡ take i cs ++ c ∷ drop (i + 1) cs
parted cs i c lt is = sym (take-append-drop i cs) ∙ ap (λ l. take i cs ++ l) (left-at cs i c lt is)

-- with another at a place, all are the first up to it, the other and those behind it
pub parted-set : {A : Type 0} (cs : List A) (i : ℕ) (c : A) → i < length cs → set cs i c ≡ take i cs ++ c ∷ drop (i + 1) cs
parted-set cs i c lt =
    let long : i < length (set cs i c) = simp length-set lt in
    let here : get_or (set cs i c) i c ≡ c = get_or-set_same cs i c c lt in
    parted (set cs i c) i c long (sym here) ∙ (λ j. take-set cs i c j ++ c ∷ drop-set-lt (i + 1) cs i c (omega arith) j)

and_swap : (a b c : Bool) → (a && (b && c)) ≡ (b && (a && c))
and_swap true true c = refl
and_swap true false c = refl
and_swap false true c = refl
and_swap false false c = refl

-- with a child between others, a path is one of its own or one of theirs
pub one-between : (front left : List (Elem × Trie)) (c : Elem × Trie) (p : Path)
    → is_one_of (paths_below (front ++ c ∷ left)) p ≡ (is_one_of (paths_after (element_view c.0) (paths c.1)) p || is_one_of (paths_below (front ++ left)) p)
one-between front left c p =
    let here = paths_after (element_view c.0) (paths c.1) in
    ap (λ ps. is_one_of ps p) (paths_below-append front (c ∷ left))
    ∙ list_any-append (same_path p) (paths_below front) (paths_below (c ∷ left))
    ∙ ap (λ b. is_one_of (paths_below front) p || b) (list_any-append (same_path p) here (paths_below left))
    ∙ or_swap (is_one_of (paths_below front) p) _ (is_one_of (paths_below left) p)
    ∙ ap (λ b. is_one_of here p || b) (sym (ap (λ ps. is_one_of ps p) (paths_below-append front left)
    ∙ list_any-append (same_path p) (paths_below front) (paths_below left)))

-- a trie with some path goes between filled tries
pub filled-between : (front left : List (Elem × Trie)) (c : Elem × Trie) → is_trie c.1 ≡ true → is_filled c.1 ≡ true → are_filled_tries (front ++ left) ≡ true
    → are_filled_tries (front ++ c ∷ left) ≡ true
filled-between front left c a b h =
    filled-append front (c ∷ left) ∙ and_swap (are_filled_tries front) (is_trie c.1 && is_filled c.1) (are_filled_tries left)
    ∙ both _ _ (both _ _ a b) (sym (filled-append front left) ∙ h)

-- without one of them, filled tries are filled tries
pub filled-without : (front left : List (Elem × Trie)) (c : Elem × Trie) → are_filled_tries (front ++ c ∷ left) ≡ true → are_filled_tries (front ++ left) ≡ true
filled-without [] left c h = both_second _ _ h
filled-without (f ∷ front) left c h = both _ _ (both_first (is_trie f.1 && is_filled f.1) _ h)
    (filled-without front left c (both_second (is_trie f.1 && is_filled f.1) _ h))

-- ---- children with the same elements and the same paths

-- the elements of children, with the shapes of their tries
abbrev pub shapes : List (Elem × Trie) → List (Element × Shape)
shapes = map (λ c. (element_view c.0, shape c.1))

abbrev under_shapes : List (Element × Shape) → List Path
under_shapes [] = []
under_shapes (s ∷ ss) = paths_after s.0 s.1.0 ++ under_shapes ss

abbrev filled_shapes : List (Element × Shape) → Bool
filled_shapes [] = true
filled_shapes (s ∷ ss) = (s.1.1 && has_some s.1.0) && filled_shapes ss

elements-shapes : (cs : List (Elem × Trie)) → elements cs ≡ map (λ s. s.0) (shapes cs)
elements-shapes [] = refl
elements-shapes (c ∷ cs) = ap (λ es. element_view c.0 ∷ es) (elements-shapes cs)

paths-shapes : (cs : List (Elem × Trie)) → paths_below cs ≡ under_shapes (shapes cs)
paths-shapes [] = refl
paths-shapes (c ∷ cs) = ap (λ ps. paths_after (element_view c.0) (paths c.1) ++ ps) (paths-shapes cs)

filled-shapes : (cs : List (Elem × Trie)) → are_filled_tries cs ≡ filled_shapes (shapes cs)
filled-shapes [] = refl
filled-shapes (c ∷ cs) = ap (λ b. (is_trie c.1 && is_filled c.1) && b) (filled-shapes cs)

-- a trie that is made has another's shape where the places are alike and the children have the same shapes
pub same-shape : (x : Trie-F Trie) (t : Trie) → x.here ≡ (out-Trie t).here → shapes x.below.items ≡ shapes (out-Trie t).below.items
    → shape (roll-Trie x) ≡ shape t
same-shape x t here below =
    let cs = x.below.items in
    let ds = (out-Trie t).below.items in
    let es : elements cs ≡ elements ds = elements-shapes cs ∙ ap (map (λ s. s.0)) below ∙ sym (elements-shapes ds) in
    let ps : paths_below cs ≡ paths_below ds = paths-shapes cs ∙ ap under_shapes below ∙ sym (paths-shapes ds) in
    let fs : are_filled_tries cs ≡ are_filled_tries ds = filled-shapes cs ∙ ap filled_shapes below ∙ sym (filled-shapes ds) in
    let pairs : ◌≡◌ {A = Shape} _ _ = λ i. (here_path (here i) ++ ps i, rises (es i) && fs i) in
    shape-made x ∙ pairs ∙ sym (shape-level t)

-- of children behind others, the shapes stand behind the others'
pub shapes-append : (cs ds : List (Elem × Trie)) → shapes (cs ++ ds) ≡ shapes cs ++ shapes ds
shapes-append [] ds = refl
shapes-append (c ∷ cs) ds = ap (λ ss. (element_view c.0, shape c.1) ∷ ss) (shapes-append cs ds)
