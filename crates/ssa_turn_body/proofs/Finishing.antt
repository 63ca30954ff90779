-- The edit of a place whose common children are led, and what both places are by the kind of one of them.
use Rattle.std.proofs.Common.{◌≡◌, ℕ, zero, suc, ◌+◌, ◌≤◌, List, [], ◌∷◌, length, true, false, ◌&&◌, Box, Option, Some, None, option_map, Vec, Global, refl, sym, ap, subst, ◌∙◌, arith, rules, true≢false, vec_capacity}
use Rattle.std.specs.List.Sorted.{SwapsInRange}
use Rattle.std.specs.Prelude.{slice_get, is_some}
use Rattle.std.specs.Box.{with_value}
use Rattle.std.specs.List.{list_any}
use Rattle.std.proofs.lemmas.Option.{none-some, same_Some}
use Rattle.ssa_model.specs.definitions.Body.{Content, leaf, atom, record_branch, dict_branch, list_branch, is_leaf}
use Rattle.ssa_model.specs.definitions.Path.{Element, Path, same_element}
use Rattle.ssa_path.specs.Children.{child_at, elements, IsChildAt}
use Rattle.ssa_path.specs.View.{element_view}
use Rattle.ssa_path.proofs.Orders.{both_first, both_second}
use Rattle.ssa_typed.specs.Alike.{are_alike}
use Rattle.ssa_typed.specs.Over.{AreAlikeBelow, AreAlikeTrees}
use Rattle.ssa_typed.specs.Rows.{below, own_content, is_tree, are_trees, are_apart, leaf_content}
use Rattle.ssa_typed.specs.declared.node.Leaf.{Leaf as LeafType}
use Rattle.ssa_typed.specs.declared.node.Node.{Node, Leaf as LeafOf, Branch, Dict, List as ListOf, the_lemmas}
use Rattle.ssa_typed.proofs.Levels.{Children as Vecs, level-below, own-Branch, own-Dict, own-List, rises-apart}
use Rattle.ssa_typed.proofs.OverNodes.{leaf-there, own-Leaf}
use Rattle.ssa_typed.proofs.Overlaying.{alike-child, alike-root}
use Rattle.ssa_turn_body.proofs.Places.{IsKind}
use Rattle.ssa_turn_body.specs.Changes.{ChangeGives}
use Rattle.ssa_turn_body.specs.Between.{IsEditBetween}
use Rattle.ssa_turn_body.specs.Edits.{EditFits, edited, going, is_idle, keeps_places, staying, remade, told_unless}
use Rattle.ssa_turn_body.specs.Found.{AreFound, AreLed, fresh, kept, somes}
use Rattle.ssa_turn_body.specs.Led.{AreLeading}
use Rattle.ssa_turn_body.specs.Marks.{Child, Kids, kids, names, Marks, marks, marks_in, may_stand, with_order, Place}
use Rattle.ssa_turn_body.specs.Told.{from_place}
use Rattle.ssa_turn_body.specs.Woven.{ArePlaces, left, woven, room_for}
use Rattle.ssa_turn_body.specs.Orders.{reordered, is_none}
use Rattle.ssa_turn_body.specs.declared.change.PlaceChange.{PlaceChange}
use Rattle.ssa_turn_body.specs.declared.change.PlaceChange.TheVariants.{Leaf, Children}
use Rattle.ssa_turn_body.specs.declared.children.ChildrenEdit.{ChildrenEdit}
use Rattle.ssa_turn_body.specs.declared.steps.Step.{Step}
use Rattle.ssa_turn_body.proofs.Again.{AllFound, all-found, kids_from, marks-place, named-kids}
use Rattle.ssa_turn_body.proofs.BodyMarks.{Ordered, ordered}
use Rattle.ssa_turn_body.proofs.Descending.{child-here, found-at}
use Rattle.ssa_turn_body.proofs.Edits.{map-going}
use Rattle.ssa_turn_body.proofs.Marking.{names-kids}
use Rattle.ssa_turn_body.proofs.Matching.{found-length, length-fresh, length-kept, places-nones}
use Rattle.ssa_turn_body.proofs.Missing.{length-elements}
use Rattle.ssa_turn_body.proofs.Walking.{led, led_in, child-among}
use Rattle.ssa_model.proofs.Fitting.{same_element-true}
use Rattle.ssa_model.proofs.Basics.{and-true as and_true, both-true as both}

abbrev Found : Type 0
Found = List (Option ℕ)

-- ---- the children at the time of the edit

-- the first children, each with what it tells once the common ones are led
abbrev pub led_kids : Content → List Child → List Child → Kids
led_kids o cs ds = kids_from (λ e q. led o cs ds (e ∷ q)) (elements cs)

-- children made of elements have these elements
pub names-from : (f : Element → Marks) (es : List Element) → names (kids_from f es) ≡ es
names-from f [] = refl
names-from f (e ∷ es) = ap (λ xs. e ∷ xs) (names-from f es)

length-from : (f : Element → Marks) (es : List Element) → length (kids_from f es) ≡ length es
length-from f [] = refl
length-from f (e ∷ es) = ap suc (length-from f es)

get-from : (f : Element → Marks) (cs : List Child) (k : ℕ) (c : Child) → slice_get cs k ≡ Some c
    → slice_get (kids_from f (elements cs)) k ≡ Some (element_view c.0, f (element_view c.0))
get-from f [] k c e = absurd (none-some c e)
get-from f (x ∷ cs) zero c e = ap (λ (y : Child). Some (element_view y.0, f (element_view y.0))) (same_Some x c e)
get-from f (x ∷ cs) (suc k) c e = get-from f cs k c e

module _ (o : Content) (cs ds : List Child) (own_apart : are_apart (elements cs) ≡ true) where
  led-one : (d : Child) (k : ℕ) → IsChildAt (element_view d.0) cs k → child_at (element_view d.0) ds ≡ Some d.1
      → slice_get (led_kids o cs ds) k ≡ Some (element_view d.0, marks d.1)
  led-one d k at there =
      let h = child-here (element_view d.0) cs k at in
      let e : element_view h.child.0 ≡ element_view d.0 = sym (same_element-true (element_view d.0) (element_view h.child.0) h.same) in
      let own : child_at (element_view d.0) cs ≡ Some h.child.1 = found-at (element_view d.0) cs k h.child h.here h.same own_apart in
      get-from (λ f q. led o cs ds (f ∷ q)) cs k h.child h.here
      ∙ ap (λ f. Some (f, λ q. led o cs ds (f ∷ q))) e
      ∙ (λ t. Some (element_view d.0, λ q. led_in (own t) (there t) q))

  led-kids : (xs : List Child) (fs : Found) → AreFound cs xs fs → AllFound ds xs → AreLed fs (led_kids o cs ds) (kids xs)
  led-kids [] [] h g = tt
  led-kids [] (f ∷ fs) h g = absurd h
  led-kids (d ∷ xs) [] h g = absurd h
  led-kids (d ∷ xs) (None ∷ fs) h g = led-kids xs fs h.1 g.1
  led-kids (d ∷ xs) (Some k ∷ fs) h g = (led-one d k h.0 g.0, led-kids xs fs h.1 g.1)

-- ---- what comes

fresh-kids : (fs : Found) (ds : List Child) → kids (fresh fs ds) ≡ fresh fs (kids ds)
fresh-kids [] ds = refl
fresh-kids (f ∷ fs) [] = refl
fresh-kids (None ∷ fs) (d ∷ ds) = ap (λ ks. (element_view d.0, marks d.1) ∷ ks) (fresh-kids fs ds)
fresh-kids (Some k ∷ fs) (d ∷ ds) = fresh-kids fs ds

-- the elements of what comes are those that come
pub fresh-names : (fs : Found) (ds : List Child) → names (fresh fs (kids ds)) ≡ fresh fs (elements ds)
fresh-names [] ds = refl
fresh-names (f ∷ fs) [] = refl
fresh-names (None ∷ fs) (d ∷ ds) = ap (λ es. element_view d.0 ∷ es) (fresh-names fs ds)
fresh-names (Some k ∷ fs) (d ∷ ds) = fresh-names fs ds

-- what comes of trees is made of trees
pub fresh-trees : (fs : Found) (ds : List Child) → are_trees ds ≡ true → are_trees (fresh fs ds) ≡ true
fresh-trees [] ds h = refl
fresh-trees (f ∷ fs) [] h = refl
fresh-trees (None ∷ fs) (d ∷ ds) h = both _ _ (both_first (is_tree d.1) _ h) (fresh-trees fs ds (both_second (is_tree d.1) _ h))
fresh-trees (Some k ∷ fs) (d ∷ ds) h = fresh-trees fs ds (both_second (is_tree d.1) _ h)

kept-somes : (fs : Found) (ds : List Child) → length ds ≡ length fs → length (kept fs ds) ≡ length (somes fs)
kept-somes [] ds e = refl
kept-somes (f ∷ fs) [] e = absurd (omega (arith, e))
kept-somes (None ∷ fs) (d ∷ ds) e = kept-somes fs ds (omega (arith, e))
kept-somes (Some k ∷ fs) (d ∷ ds) e = ap suc (kept-somes fs ds (omega (arith, e)))

-- where both have the same elements in the same order, the children that are led are the second ones
pub alike-told : (o : Content) (cs ds : List Child) → elements cs ≡ elements ds → with_order o (elements cs) ≡ o
    → (q : Path) → led o cs ds q ≡ from_place (with_order o (elements ds), kids ds) q
alike-told o cs ds same_names order q = at q
  where
    by : (a b : Option Node) (r : Path) → is_some a ≡ is_some b → led_in a b r ≡ marks_in (option_map marks b) r
    by None None r e = refl
    by None (Some d) r e = absurd (true≢false (sym e))
    by (Some c) None r e = absurd (true≢false e)
    by (Some c) (Some d) r e = refl

    at : (q : Path) → led o cs ds q ≡ from_place (with_order o (elements ds), kids ds) q
    at [] = λ i. Some ((sym order ∙ ap (with_order o) same_names) i, (same_names ∙ sym (names-kids ds)) i)
    at (e ∷ r) =
        by (child_at e cs) (child_at e ds) r (child-among e cs ∙ ap (list_any (same_element e)) same_names ∙ sym (child-among e ds))
        ∙ ap (λ x. marks_in x r) (named-kids ds e)

-- ---- the edit fits and leaves the second children

module _ (o : Content) (cs ds : List Child) (fs : Found) (s : ChildrenEdit) (between : IsEditBetween cs ds fs s) (h : Vec Child Global)
    (own_apart : are_apart (elements cs) ≡ true) (apart : are_apart (elements ds) ≡ true)
    (found : AreFound cs ds fs) (holds : h.items ≡ fresh fs ds) where
  -- there are as many children as before
  pub long : length (led_kids o cs ds) ≡ length cs
  long = length-from (λ e q. led o cs ds (e ∷ q)) (elements cs) ∙ length-elements cs

  -- what is held is what comes
  pub held-kids : kids h.items ≡ fresh fs (kids ds)
  held-kids = ap kids holds ∙ fresh-kids fs ds

  led-all : AreLed fs (led_kids o cs ds) (kids ds)
  led-all = led-kids o cs ds own_apart ds fs found (all-found ds apart)

  -- the edit leaves the second children
  pub edit-leaves : edited (record s { held = h }) (led_kids o cs ds) ≡ kids ds
  edit-leaves = ap (λ hs. remade s hs (led_kids o cs ds)) held-kids ∙ between.whole (led_kids o cs ds) (kids ds) long led-all

  total : length h.items + length (staying s (led_kids o cs ds)) ≡ length ds
  total =
      let same = found-length cs ds fs found in
      let held_long = ap length holds in
      let stay = between.stay (led_kids o cs ds) long in
      let all = length-kept fs ds (sym same) in
      let some = kept-somes fs ds (sym same) in
      omega arith

  -- the edit fits the place whose common children are led
  pub edit-fits : are_trees ds ≡ true → may_stand o (elements ds) ≡ true → EditFits (record s { held = h }) (o, led_kids o cs ds)
  edit-fits trees stand =
      let same = found-length cs ds fs found in
      let all : length h.items + length (staying s (led_kids o cs ds)) ≡ 0 + length fs = total ∙ sym same ∙ omega arith in
      let keeps : keeps_places s ≡ is_none s.before.items = ap (λ xs. is_none s.before.items && is_none xs) between.after ∙ and_true (is_none s.before.items) in
      record {
        before = subst (λ n. SwapsInRange n s.before.items) (sym long) between.before;
        gone = subst (λ n. ArePlaces 0 s.gone.places.items n) (sym long) between.gone;
        gone_named =
            between.gone_named ∙ ap (going s) (sym (names-from (λ e q. led o cs ds (e ∷ q)) (elements cs)))
            ∙ map-going (λ (k : Element × Marks). k.0) s (led_kids o cs ds);
        come = subst (λ ps. ArePlaces 0 ps (length h.items + length (staying s (led_kids o cs ds)))) (sym between.come) (places-nones fs 0 _ all);
        come_named = between.come_named ∙ sym (fresh-names fs ds) ∙ ap names (sym held-kids);
        held = ap length holds ∙ length-fresh fs 0 ds (sym same) ∙ ap length (sym between.come);
        after = subst (λ ps. SwapsInRange (length h.items + length (staying s (led_kids o cs ds))) ps) (sym between.after) tt;
        order_before =
            between.order_before ∙ ap (told_unless (is_none s.before.items)) (sym (names-from (λ e q. led o cs ds (e ∷ q)) (elements cs)))
            ∙ ap (λ b. told_unless b (names (led_kids o cs ds))) (sym keeps);
        order_after =
            between.order_after ∙ ap (told_unless (is_none s.before.items)) (sym (ap names edit-leaves ∙ names-kids ds))
            ∙ ap (λ b. told_unless b (names (edited (record s { held = h }) (led_kids o cs ds)))) (sym keeps);
        stands = ap (λ ls. may_stand o (names ls)) edit-leaves ∙ ap (may_stand o) (names-kids ds) ∙ stand;
        trees = ap are_trees holds ∙ fresh-trees fs ds trees;
        out_empty = between.out_empty;
        out_room = between.out_room;
        room_empty = between.room_empty;
        room = subst (λ n. room_for s.gone.places.items s.come.places.items n ≤ vec_capacity s.room) (sym total) between.room;
      }

  none-is : {X : Type 0} (xs : List X) → is_none xs ≡ true → xs ≡ []
  none-is [] e = refl
  none-is (x ∷ xs) e = absurd (true≢false (sym e))

  -- where nothing is to be done the children are the second ones already
  idle-same : is_idle s ≡ true → led_kids o cs ds ≡ kids ds
  idle-same idle =
      let two = both_first (keeps_places s && is_none s.gone.places.items) _ idle in
      let b = none-is s.before.items (both_first (is_none s.before.items) _ (both_first (keeps_places s) _ two)) in
      let g = none-is s.gone.places.items (both_second (keeps_places s) _ two) in
      let c = none-is s.come.places.items (both_second (keeps_places s && is_none s.gone.places.items) _ idle) in
      (λ i. reordered (woven (sym c i) 0 (fresh fs (kids ds)) (left (sym g i) 0 (reordered (led_kids o cs ds) (sym b i)))) (sym between.after i))
      ∙ between.whole (led_kids o cs ds) (kids ds) long led-all

  -- where there is nothing to edit, the place tells what the second tells
  pub idle-told : with_order o (elements cs) ≡ o → is_idle s ≡ true → (q : Path) → led o cs ds q ≡ from_place (with_order o (elements ds), kids ds) q
  idle-told order idle = alike-told o cs ds (sym (names-from (λ e q. led o cs ds (e ∷ q)) (elements cs)) ∙ ap names (idle-same idle) ∙ names-kids ds) order

  -- whatever the edit gives, the place tells what the second tells
  pub put : (b : Box ChildrenEdit Global) (t : PlaceChange) (y : Place)
      → ChangeGives (Children (with_value b (record s { held = h }))) (o, led_kids o cs ds) t y → (q : Path)
      → from_place y q ≡ from_place (with_order o (elements ds), kids ds) q
  put b (Leaf t) y g q = absurd g
  put b (Children t) y g q =
      let is : y.1 ≡ kids ds = g.children ∙ edit-leaves in
      λ i. from_place ((g.own ∙ ap (λ ls. with_order o (names ls)) is ∙ ap (with_order o) (names-kids ds)) i, is i) q

-- ---- a place of the first tree and the same place of the second

-- elements that may stand at a place are distinct
pub stand-apart : (o : Content) (es : List Element) → may_stand o es ≡ true → are_apart es ≡ true
stand-apart (leaf s) es h = absurd (true≢false (sym h))
stand-apart (atom v) es h = absurd (true≢false (sym h))
stand-apart record_branch es h = rises-apart es (both_first _ _ h)
stand-apart dict_branch es h = rises-apart es (both_first _ _ h)
stand-apart (list_branch os) es h = both_first _ _ h

order-kept : (o : Content) (es : List Element) → Ordered o es → with_order o es ≡ o
order-kept (leaf s) es h = refl
order-kept (atom v) es h = refl
order-kept record_branch es h = refl
order-kept dict_branch es h = refl
order-kept (list_branch os) es h = ap list_branch (sym h)

-- the content of a tree has the order of its own children
pub own-order : (v : Node) → is_tree v ≡ true → with_order (own_content v) (elements (below v)) ≡ own_content v
own-order v tree = order-kept (own_content v) (elements (below v)) (ordered v tree)

-- whether it is a leaf, by the content of the other place
pub branch-there : (c d : Content) → are_alike (Some c) (Some d) ≡ true → is_leaf (Some c) ≡ is_leaf (Some d)
branch-there (leaf s) (leaf t) h = refl
branch-there (leaf s) (atom t) h = refl
branch-there (leaf s) record_branch h = absurd (true≢false (sym h))
branch-there (leaf s) dict_branch h = absurd (true≢false (sym h))
branch-there (leaf s) (list_branch es) h = absurd (true≢false (sym h))
branch-there (atom v) (leaf t) h = refl
branch-there (atom v) (atom t) h = refl
branch-there (atom v) record_branch h = absurd (true≢false (sym h))
branch-there (atom v) dict_branch h = absurd (true≢false (sym h))
branch-there (atom v) (list_branch es) h = absurd (true≢false (sym h))
branch-there record_branch (leaf t) h = absurd (true≢false (sym h))
branch-there record_branch (atom t) h = absurd (true≢false (sym h))
branch-there record_branch record_branch h = refl
branch-there record_branch dict_branch h = refl
branch-there record_branch (list_branch es) h = refl
branch-there dict_branch (leaf t) h = absurd (true≢false (sym h))
branch-there dict_branch (atom t) h = absurd (true≢false (sym h))
branch-there dict_branch record_branch h = refl
branch-there dict_branch dict_branch h = refl
branch-there dict_branch (list_branch es) h = refl
branch-there (list_branch os) (leaf t) h = absurd (true≢false (sym h))
branch-there (list_branch os) (atom t) h = absurd (true≢false (sym h))
branch-there (list_branch os) record_branch h = refl
branch-there (list_branch os) dict_branch h = refl
branch-there (list_branch os) (list_branch es) h = refl

-- what may stand at a branch, and its order, are told by the other place too
pub record IsSameSort (c d : Content) : Type 0 where
  -- children may stand at the one content where they may stand at the other
  pub stands : (es : List Element) → may_stand c es ≡ may_stand d es
  -- with an order of children, the two contents are one
  pub order : (es : List Element) → with_order c es ≡ with_order d es

same-sort : (c d : Content) → are_alike (Some c) (Some d) ≡ true → is_leaf (Some d) ≡ false → IsSameSort c d
same-sort c (leaf t) h n = absurd (true≢false n)
same-sort c (atom t) h n = absurd (true≢false n)
same-sort (leaf s) record_branch h n = absurd (true≢false (sym h))
same-sort (leaf s) dict_branch h n = absurd (true≢false (sym h))
same-sort (leaf s) (list_branch es) h n = absurd (true≢false (sym h))
same-sort (atom s) record_branch h n = absurd (true≢false (sym h))
same-sort (atom s) dict_branch h n = absurd (true≢false (sym h))
same-sort (atom s) (list_branch es) h n = absurd (true≢false (sym h))
same-sort record_branch record_branch h n = record { stands = λ es. refl; order = λ es. refl }
same-sort record_branch dict_branch h n = absurd (true≢false (sym h))
same-sort record_branch (list_branch es) h n = absurd (true≢false (sym h))
same-sort dict_branch record_branch h n = absurd (true≢false (sym h))
same-sort dict_branch dict_branch h n = record { stands = λ es. refl; order = λ es. refl }
same-sort dict_branch (list_branch es) h n = absurd (true≢false (sym h))
same-sort (list_branch os) record_branch h n = absurd (true≢false (sym h))
same-sort (list_branch os) dict_branch h n = absurd (true≢false (sym h))
same-sort (list_branch os) (list_branch es) h n = record { stands = λ es. refl; order = λ es. refl }

-- a leaf stands only where a leaf stood
pub no-branch : (v w : Node) (l : LeafType) → w ≡ LeafOf l → is_leaf (Some (own_content v)) ≡ false → AreAlikeTrees v w → ⊥
no-branch v w l is branch alike =
    true≢false (sym (branch-there (own_content v) (own_content w) (alike-root v w alike) ∙ ap (λ n. is_leaf (Some (own_content n))) is
    ∙ ap (λ c. is_leaf (Some c)) (own-Leaf l) ∙ leaf-there l) ∙ branch)

module _ (kind : Vecs → Node) (is : IsKind kind) (branch : (v : Vecs)
    → is_leaf (Some (own_content (kind v))) ≡ false) (from to : Node) (v : Vecs) (made : to ≡ kind v) (tree_from : is_tree from ≡ true)
    (tree : is_tree to ≡ true) (alike : AreAlikeTrees from to) where
  sort : IsSameSort (own_content from) (own_content (kind v))
  sort = same-sort (own_content from) (own_content (kind v))
      (subst (λ n. are_alike (Some (own_content from)) (Some (own_content n)) ≡ true) made (alike-root from to alike)) (branch v)

  tree_kind : (is.stands (elements v.items) && are_trees v.items) ≡ true
  tree_kind = sym (is.tree v) ∙ ap is_tree (sym made) ∙ tree

  -- the children of the second place are trees
  pub kind-trees : are_trees v.items ≡ true
  kind-trees = both_second (is.stands (elements v.items)) _ tree_kind

  -- the children of the second place may stand at the first
  pub kind-stands : may_stand (own_content from) (elements v.items) ≡ true
  kind-stands = sort.stands (elements v.items) ∙ is.asked v (elements v.items) ∙ both_first _ (are_trees v.items) tree_kind

  -- the children of both places are alike, where both have one
  pub kind-alike : AreAlikeBelow (below from) v.items
  kind-alike e c d is_c is_d =
      alike-child from to e c d tree_from tree is_c (ap (λ cs. child_at e cs) (ap below made ∙ is.children v) ∙ is_d) alike

  -- the first content with the order of the second children is the second content
  pub kind-order : with_order (own_content from) (elements v.items) ≡ own_content to
  kind-order = sort.order (elements v.items) ∙ sym (is.ordered v v) ∙ ap own_content (sym made)

  -- the children of the second place are these
  pub kind-below : below to ≡ v.items
  kind-below = ap below made ∙ is.children v

  -- the first content with the second children tells what the second place tells
  pub kind-told : (q : Path) → from_place (with_order (own_content from) (elements v.items), kids v.items) q ≡ marks to q
  kind-told q =
      ap (λ o. from_place (o, kids v.items) q) (sort.order (elements v.items) ∙ sym (is.ordered v v))
      ∙ ap (λ cs. from_place (own_content (kind v), kids cs) q) (sym (is.children v))
      ∙ sym (marks-place (kind v) q) ∙ ap (λ n. marks n q) (sym made)

-- children with the elements of a tree's children differ in their elements too
pub alike-apart : (n : Node) (ds : List Child) → is_tree n ≡ true → elements (below n) ≡ elements ds → are_apart (elements ds) ≡ true
alike-apart n ds tree same = ap are_apart (sym same) ∙ (level-below n).apart tree

-- changes that lead to something lead to whatever tells the same
pub leading-told : (p : Path) (M N O : Marks) (old new : List Step) → ((q : Path) → N q ≡ O q) → AreLeading p M N old new → AreLeading p M O old new
leading-told p M N O old new same h = subst (λ (f : Marks). AreLeading p M f old new) (λ i q. same q i) h

-- changes that lead from something lead from whatever tells the same
pub leading-from : (p : Path) (M N O : Marks) (old new : List Step) → ((q : Path) → M q ≡ N q) → AreLeading p N O old new → AreLeading p M O old new
leading-from p M N O old new same h = subst (λ (f : Marks). AreLeading p f O old new) (λ i q. sym (same q) i) h

-- below a leaf is nothing
pub below-Leaf-is : (l : LeafType) → below (LeafOf l) ≡ []
below-Leaf-is l = search (rules, the_lemmas)

-- a leaf tells its content and no children
pub leaf-told : (v : Node) (l : LeafType) → v ≡ LeafOf l → (q : Path) → marks v q ≡ from_place (leaf_content l, []) q
leaf-told v l is q = ap (λ n. marks n q) is ∙ marks-place (LeafOf l) q ∙ (λ i. from_place (own-Leaf l i, kids (below-Leaf-is l i)) q)

-- a record is no leaf
pub branch-Branch : (v : Vecs) → is_leaf (Some (own_content (Branch v))) ≡ false
branch-Branch v = ap (λ c. is_leaf (Some c)) (own-Branch v)

-- a map is no leaf
pub branch-Dict : (v : Vecs) → is_leaf (Some (own_content (Dict v))) ≡ false
branch-Dict v = ap (λ c. is_leaf (Some c)) (own-Dict v)

-- a list is no leaf
pub branch-List : (v : Vecs) → is_leaf (Some (own_content (ListOf v))) ≡ false
branch-List v = ap (λ c. is_leaf (Some c)) (own-List v)
