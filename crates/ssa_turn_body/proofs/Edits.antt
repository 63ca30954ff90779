-- What an edit of children leaves: a tree, and the edit that leads back.
use Rattle.std.proofs.Common.{◌≡◌, ℕ, zero, suc, ◌+◌, ◌-◌, ◌≤◌, eqb, List, [], ◌∷◌, ◌++◌, length, map, reverse, take, drop, Bool, true, false, ◌&&◌, cond, Some, refl, sym, ap, subst, ◌∙◌, arith, vec_capacity}
use Rattle.std.specs.List.Sorted.{SwapsInRange}
use Rattle.std.proofs.lemmas.List.{reverse-append, reverse-reverse}
use Rattle.ssa_model.specs.definitions.Path.{Element}
use Rattle.ssa_model.specs.definitions.Body.{Content, leaf, atom, record_branch, dict_branch, list_branch, is_leaf}
use Rattle.ssa_path.specs.Children.{elements}
use Rattle.ssa_path.specs.View.{element_view}
use Rattle.ssa_path.proofs.Orders.{both_first, both_second}
use Rattle.ssa_typed.specs.Rows.{own_content, is_tree, are_trees}
use Rattle.ssa_typed.specs.declared.node.Node.{Node}
use Rattle.ssa_typed.proofs.Levels.{Children as Vecs}
use Rattle.ssa_typed.proofs.OverNodes.{leaf-there}
use Rattle.ssa_turn_body.specs.Marks.{Child, marks, kids, names, Place, seen, may_stand, with_order}
use Rattle.ssa_turn_body.specs.Orders.{reordered, is_none}
use Rattle.ssa_turn_body.specs.Woven.{ArePlaces, taken, left, woven, room_for}
use Rattle.ssa_turn_body.specs.Edits.{going, staying, remade, edited, keeps_places, told_unless, named_in, edit_steps, leaf_steps, LeafFits, LeafGives, EditFitsIn, EditGivesIn, EditFits, EditGives}
use Rattle.ssa_turn_body.specs.declared.children.LeafSwap.{LeafSwap}
use Rattle.ssa_turn_body.specs.declared.children.ChildrenEdit.{ChildrenEdit}
use Rattle.ssa_turn_body.proofs.Marking.{names-kids}
use Rattle.ssa_turn_body.proofs.Ordering.{length-reordered, map-reordered, range-reverse, there-and-back, trees-reordered}
use Rattle.ssa_turn_body.proofs.Places.{IsKind}
use Rattle.ssa_turn_body.proofs.Weaving.{whole-again, back-again, length-woven, length-taken, length-left, map-taken, map-left, map-woven}
use Rattle.ssa_model.proofs.Basics.{both-true as both}

-- ---- trees

trees-taken : (ps : List ℕ) (k : ℕ) (cs : List Child) → are_trees cs ≡ true → are_trees (taken ps k cs) ≡ true
trees-taken [] k cs h = refl
trees-taken (p ∷ ps) k [] h = refl
trees-taken (p ∷ ps) k (c ∷ cs) h =
    let rest = both_second (is_tree c.1) (are_trees cs) h in
    elim (eqb p k) as (λ b. are_trees (cond b (c ∷ taken ps (k + 1) cs) (taken (p ∷ ps) (k + 1) cs)) ≡ true) [
      | true ↦ both _ _ (both_first (is_tree c.1) (are_trees cs) h) (trees-taken ps (k + 1) cs rest)
      | false ↦ trees-taken (p ∷ ps) (k + 1) cs rest
    ]

trees-left : (ps : List ℕ) (k : ℕ) (cs : List Child) → are_trees cs ≡ true → are_trees (left ps k cs) ≡ true
trees-left [] k cs h = h
trees-left (p ∷ ps) k [] h = refl
trees-left (p ∷ ps) k (c ∷ cs) h =
    let rest = both_second (is_tree c.1) (are_trees cs) h in
    elim (eqb p k) as (λ b. are_trees (cond b (left ps (k + 1) cs) (c ∷ left (p ∷ ps) (k + 1) cs)) ≡ true) [
      | true ↦ trees-left ps (k + 1) cs rest
      | false ↦ both _ _ (both_first (is_tree c.1) (are_trees cs) h) (trees-left (p ∷ ps) (k + 1) cs rest)
    ]

trees-append : (cs ds : List Child) → are_trees cs ≡ true → are_trees ds ≡ true → are_trees (cs ++ ds) ≡ true
trees-append [] ds h g = g
trees-append (c ∷ cs) ds h g = both _ _ (both_first (is_tree c.1) (are_trees cs) h) (trees-append cs ds (both_second (is_tree c.1) (are_trees cs) h) g)

trees-take : (d : ℕ) (cs : List Child) → are_trees cs ≡ true → are_trees (take d cs) ≡ true
trees-take zero cs h = refl
trees-take (suc d) [] h = refl
trees-take (suc d) (c ∷ cs) h = both _ _ (both_first (is_tree c.1) (are_trees cs) h) (trees-take d cs (both_second (is_tree c.1) (are_trees cs) h))

trees-drop : (d : ℕ) (cs : List Child) → are_trees cs ≡ true → are_trees (drop d cs) ≡ true
trees-drop zero cs h = h
trees-drop (suc d) [] h = refl
trees-drop (suc d) (c ∷ cs) h = trees-drop d cs (both_second (is_tree c.1) (are_trees cs) h)

trees-woven : (ps : List ℕ) (k : ℕ) (hs ys : List Child) → are_trees hs ≡ true → are_trees ys ≡ true → are_trees (woven ps k hs ys) ≡ true
trees-woven [] k hs ys h g = g
trees-woven (p ∷ ps) k [] ys h g = g
trees-woven (p ∷ ps) k (c ∷ hs) ys h g =
    trees-append (take (p - k) ys) (c ∷ woven ps (p + 1) hs (drop (p - k) ys)) (trees-take (p - k) ys g)
    (both _ _ (both_first (is_tree c.1) (are_trees hs) h) (trees-woven ps (p + 1) hs (drop (p - k) ys) (both_second (is_tree c.1) (are_trees hs) h)
    (trees-drop (p - k) ys g)))

trees-going : (s : ChildrenEdit) (cs : List Child) → are_trees cs ≡ true → are_trees (going s cs) ≡ true
trees-going s cs h = trees-taken s.gone.places.items 0 (reordered cs s.before.items) (trees-reordered cs s.before.items h)

trees-remade : (s : ChildrenEdit) (hs cs : List Child) → are_trees hs ≡ true → are_trees cs ≡ true → are_trees (remade s hs cs) ≡ true
trees-remade s hs cs h t =
    trees-reordered (woven s.come.places.items 0 hs (staying s cs)) s.after.items
    (trees-woven s.come.places.items 0 hs (staying s cs) h (trees-left s.gone.places.items 0 (reordered cs s.before.items)
    (trees-reordered cs s.before.items t)))

-- ---- what the children are seen as

module _ {X Y : Type 0} (f : X → Y) (s : ChildrenEdit) where
  -- what goes of elements that a function shows is what it shows of those that go
  pub map-going : (xs : List X) → going s (map f xs) ≡ map f (going s xs)
  map-going xs =
      ap (taken s.gone.places.items 0) (sym (map-reordered f xs s.before.items)) ∙ map-taken f s.gone.places.items 0 (reordered xs s.before.items)

  -- what stays of elements that a function shows is what it shows of those that stay
  pub map-staying : (xs : List X) → staying s (map f xs) ≡ map f (staying s xs)
  map-staying xs =
      ap (left s.gone.places.items 0) (sym (map-reordered f xs s.before.items)) ∙ map-left f s.gone.places.items 0 (reordered xs s.before.items)

  -- what an edit makes of elements that a function shows is what it shows of what the edit makes
  pub map-remade : (hs xs : List X) → remade s (map f hs) (map f xs) ≡ map f (remade s hs xs)
  map-remade hs xs =
      ap (λ ys. reordered ys s.after.items) (ap (woven s.come.places.items 0 (map f hs)) (map-staying xs) ∙ map-woven f s.come.places.items 0 hs (staying s xs))
      ∙ sym (map-reordered f (woven s.come.places.items 0 hs (staying s xs)) s.after.items)

-- ---- an edit of the children, seen as an edit of the place

-- there are as many children seen as children
pub length-kids : (cs : List Child) → length (kids cs) ≡ length cs
length-kids [] = refl
length-kids (c ∷ cs) = ap suc (length-kids cs)

staying-kids : (s : ChildrenEdit) (cs : List Child) → length (staying s (kids cs)) ≡ length (staying s cs)
staying-kids s cs = ap length (map-staying (λ (c : Child). (element_view c.0, marks c.1)) s cs) ∙ length-kids (staying s cs)

going-kids : (s : ChildrenEdit) (cs : List Child) → going s (kids cs) ≡ kids (going s cs)
going-kids s cs = map-going (λ (c : Child). (element_view c.0, marks c.1)) s cs

kids-edited : (s : ChildrenEdit) (cs : List Child) → edited s (kids cs) ≡ kids (remade s s.held.items cs)
kids-edited s cs = map-remade (λ (c : Child). (element_view c.0, marks c.1)) s s.held.items cs

seen-kind : (kind : Vecs → Node) (is : IsKind kind) (n : Node) (v : Vecs) → n ≡ kind v → seen n ≡ (own_content (kind v), kids v.items)
seen-kind kind is n v made = ap seen made ∙ ap (λ cs. (own_content (kind v), kids cs)) (is.children v)

-- an edit that fits a place fits its children
pub edit-enter : (kind : Vecs → Node) (is : IsKind kind) (s : ChildrenEdit) (n : Node) (v : Vecs) → n ≡ kind v → EditFits s (seen n) → EditFitsIn s v.items
edit-enter kind is s n v made fits =
    let h : EditFits s (own_content (kind v), kids v.items) = subst (EditFits s) (seen-kind kind is n v made) fits in
    record {
      before = subst (λ l. SwapsInRange l s.before.items) (length-kids v.items) h.before;
      gone = subst (λ l. ArePlaces 0 s.gone.places.items l) (length-kids v.items) h.gone;
      come = subst (λ l. ArePlaces 0 s.come.places.items (length s.held.items + l)) (staying-kids s v.items) h.come;
      held = h.held;
      after = subst (λ l. SwapsInRange (length s.held.items + l) s.after.items) (staying-kids s v.items) h.after;
      out_empty = h.out_empty;
      out_room = h.out_room;
      room_empty = h.room_empty;
      room = subst (λ l. room_for s.gone.places.items s.come.places.items (length s.held.items + l) ≤ vec_capacity s.room) (staying-kids s v.items) h.room;
    }

stands-own : (kind : Vecs → Node) (is : IsKind kind) (v : Vecs) → is_tree (kind v) ≡ true → may_stand (own_content (kind v)) (names (kids v.items)) ≡ true
stands-own kind is v tree = is.asked v (names (kids v.items)) ∙ ap is.stands (names-kids v.items) ∙ both_first _ (are_trees v.items) (sym (is.tree v) ∙ tree)

-- an edit of the children of a place is one of the place
pub edit-leave : (kind : Vecs → Node) (is : IsKind kind) (s t : ChildrenEdit) (n m : Node) (v w : Vecs) → n ≡ kind v → m ≡ kind w → is_tree n ≡ true
    → EditFits s (seen n) → EditGivesIn s v.items t w.items → EditGives s (seen n) t (seen m)
edit-leave kind is s t n m v w made after tree fits given =
    let h : EditFits s (own_content (kind v), kids v.items) = subst (EditFits s) (seen-kind kind is n v made) fits in
    let tree_kind : is_tree (kind v) ≡ true = ap is_tree (sym made) ∙ tree in
    let trees : are_trees v.items ≡ true = both_second (is.stands (elements v.items)) _ (sym (is.tree v) ∙ tree_kind) in
    subst (λ x. EditGives s x t (seen m)) (sym (seen-kind kind is n v made))
    (subst (λ y. EditGives s (own_content (kind v), kids v.items) t y) (sym (seen-kind kind is m w after)) (record {
      children = ap kids given.children ∙ sym (kids-edited s v.items);
      own = is.ordered v w ∙ ap (with_order (own_content (kind v))) (sym (names-kids w.items));
      stood = stands-own kind is v tree_kind;
      order = ap (with_order (own_content (kind v))) (names-kids v.items) ∙ sym (is.ordered v v);
      held = ap kids given.held ∙ sym (going-kids s v.items);
      trees = ap are_trees given.held ∙ trees-going s v.items trees;
      before = given.before;
      gone = given.gone;
      gone_named = given.gone_named ∙ h.come_named;
      come = given.come;
      come_named = given.come_named ∙ h.gone_named;
      after = given.after;
      order_before = given.order_before;
      order_after = given.order_after;
      out_empty = given.out_empty;
      out_room = given.out_room;
      room_empty = given.room_empty;
      room = subst (λ l. room_for t.gone.places.items t.come.places.items l ≤ vec_capacity t.room) (sym (length-kids v.items)) given.room;
    }))

-- an edit that fits leaves a tree
pub edited-tree : (kind : Vecs → Node) (is : IsKind kind) (s t : ChildrenEdit) (n m : Node) (v w : Vecs) → n ≡ kind v → m ≡ kind w → is_tree n ≡ true
    → EditFits s (seen n) → EditGivesIn s v.items t w.items → is_tree m ≡ true
edited-tree kind is s t n m v w made after tree fits given =
    let h : EditFits s (own_content (kind v), kids v.items) = subst (EditFits s) (seen-kind kind is n v made) fits in
    let tree_kind : is_tree (kind v) ≡ true = ap is_tree (sym made) ∙ tree in
    let trees : are_trees v.items ≡ true = both_second (is.stands (elements v.items)) _ (sym (is.tree v) ∙ tree_kind) in
    let stands : is.stands (elements w.items) ≡ true =
    ap is.stands (sym (names-kids w.items) ∙ ap (λ cs. names (kids cs)) given.children ∙ ap names (sym (kids-edited s v.items)))
    ∙ sym (is.asked v (names (edited s (kids v.items)))) ∙ h.stands in
    let trees_after : are_trees w.items ≡ true = ap are_trees given.children ∙ trees-remade s s.held.items v.items h.trees trees in
    ap is_tree after ∙ is.tree w ∙ both _ _ stands trees_after

-- ---- the laws

-- the order in a content does not matter to what may stand there
pub stand-with : (c : Content) (es fs : List Element) → may_stand (with_order c es) fs ≡ may_stand c fs
stand-with (leaf s) es fs = refl
stand-with (atom v) es fs = refl
stand-with record_branch es fs = refl
stand-with dict_branch es fs = refl
stand-with (list_branch os) es fs = refl

-- an order put into a content takes the place of the one before
pub order-twice : (c : Content) (es fs : List Element) → with_order (with_order c es) fs ≡ with_order c fs
order-twice (leaf s) es fs = refl
order-twice (atom v) es fs = refl
order-twice record_branch es fs = refl
order-twice dict_branch es fs = refl
order-twice (list_branch os) es fs = refl

-- so many stand together before the last exchanges
pub middle-long : {X : Type 0} (s : ChildrenEdit) (hs xs : List X) → ArePlaces 0 s.come.places.items (length hs + length (staying s xs))
    → length hs ≡ length s.come.places.items
    → length (woven s.come.places.items 0 hs (staying s xs)) ≡ length hs + length (staying s xs)
middle-long s hs xs places long =
    let n = length hs + length (staying s xs) in
    let total : n ≡ 0 + n = omega arith in
    length-woven s.come.places.items 0 hs (staying s xs) n places total long

-- what an edit that was made finds in what it left
record IsReturn (s t : ChildrenEdit) (v w : Place) : Type 0 where
  going_is : going t w.1 ≡ kids s.held.items
  staying_is : staying t w.1 ≡ staying s v.1
  whole : edited t w.1 ≡ v.1
  long : length w.1 ≡ length s.held.items + length (staying s v.1)

returns : (s t : ChildrenEdit) (v w : Place) → EditFits s v → EditGives s v t w → IsReturn s t v w
returns s t v w h g =
    let first = reordered v.1 s.before.items in
    let n = length s.held.items + length (staying s v.1) in
    let kids_long = length-kids s.held.items in
    let total : n ≡ 0 + (length (kids s.held.items) + length (staying s v.1)) = omega arith in
    let same_long : length (kids s.held.items) ≡ length s.come.places.items = kids_long ∙ h.held in
    let middle = woven s.come.places.items 0 (kids s.held.items) (staying s v.1) in
    let middle_long : length middle ≡ n = length-woven s.come.places.items 0 (kids s.held.items) (staying s v.1) n h.come total same_long
    ∙ ap (λ l. l + length (staying s v.1)) kids_long in
    let again : reordered w.1 t.before.items ≡ middle = (λ i. reordered (g.children i) (g.before i))
    ∙ there-and-back middle s.after.items (subst (λ m. SwapsInRange m s.after.items) (sym middle_long) h.after) in
    let back = back-again s.come.places.items 0 (kids s.held.items) (staying s v.1) n h.come total same_long in
    let staying_is : staying t w.1 ≡ staying s v.1 = (λ i. left (g.gone i) 0 (again i)) ∙ back.1 in
    let first_long : length first ≡ length v.1 = length-reordered v.1 s.before.items in
    let all : length v.1 ≡ 0 + length first = omega arith in
    record {
      going_is = (λ i. taken (g.gone i) 0 (again i)) ∙ back.0;
      staying_is = staying_is;
      whole =
          (λ i. reordered (woven (g.come i) 0 (g.held i) (staying_is i)) (g.after i))
          ∙ ap (λ xs. reordered xs (reverse s.before.items))
          (whole-again s.gone.places.items 0 first (subst (λ m. ArePlaces 0 s.gone.places.items m) all h.gone))
          ∙ there-and-back v.1 s.before.items h.before;
      long = ap length g.children ∙ length-reordered middle s.after.items ∙ middle_long;
    }

none-reversed : {X : Type 0} (xs : List X) → is_none (reverse xs) ≡ is_none xs
none-reversed [] = refl
none-reversed (x ∷ xs) = ap is_none (reverse-append (x ∷ []) xs) ∙ last (reverse xs)
  where
    last : (ys : List _) → is_none (ys ++ x ∷ []) ≡ false
    last [] = refl
    last (y ∷ ys) = refl

-- both tests pass, whichever comes first
pub either-way : (a b : Bool) → (a && b) ≡ (b && a)
either-way true true = refl
either-way true false = refl
either-way false true = refl
either-way false false = refl

-- what an edit becomes exchanges children just where the edit does
pub turned-keeps : (s t : ChildrenEdit) (v w : Place) → EditGives s v t w → keeps_places s ≡ keeps_places t
turned-keeps s t v w g =
    either-way (is_none s.before.items) (is_none s.after.items)
    ∙ (λ i. sym (ap is_none g.before ∙ none-reversed s.after.items) i && sym (ap is_none g.after ∙ none-reversed s.before.items) i)

-- what an edit becomes fits what the edit left
pub edit-back : (s t : ChildrenEdit) (v w : Place) → EditFits s v → EditGives s v t w → EditFits t w
edit-back s t v w h g =
    let r = returns s t v w h g in
    let first = reordered v.1 s.before.items in
    let first_long : length first ≡ length v.1 = length-reordered v.1 s.before.items in
    let all : length v.1 ≡ 0 + length first = omega arith in
    let places : ArePlaces 0 s.gone.places.items (0 + length first) = subst (λ m. ArePlaces 0 s.gone.places.items m) all h.gone in
    let held_long : length t.held.items ≡ length s.gone.places.items = sym (length-kids t.held.items) ∙ ap length g.held
    ∙ length-taken s.gone.places.items 0 first places in
    let left_long = length-left s.gone.places.items 0 first places in
    let left_same = ap length r.staying_is in
    let total : length v.1 ≡ length t.held.items + length (staying t w.1) = omega arith in
    let keeps : keeps_places s ≡ keeps_places t = turned-keeps s t v w g in
    record {
      before = subst (λ ps. SwapsInRange (length w.1) ps) (sym g.before)
          (subst (λ m. SwapsInRange m (reverse s.after.items)) (sym r.long)
          (range-reverse (length s.held.items + length (staying s v.1)) s.after.items h.after));
      gone = subst (λ ps. ArePlaces 0 ps (length w.1)) (sym g.gone) (subst (λ m. ArePlaces 0 s.come.places.items m) (sym r.long) h.come);
      gone_named = g.gone_named ∙ ap names (sym r.going_is);
      come = subst (λ ps. ArePlaces 0 ps (length t.held.items + length (staying t w.1))) (sym g.come)
          (subst (λ m. ArePlaces 0 s.gone.places.items m) total h.gone);
      come_named = g.come_named ∙ ap names (sym g.held);
      held = held_long ∙ ap length (sym g.come);
      after = subst (λ ps. SwapsInRange (length t.held.items + length (staying t w.1)) ps) (sym g.after)
          (subst (λ m. SwapsInRange m (reverse s.before.items)) total (range-reverse (length v.1) s.before.items h.before));
      order_before = g.order_before ∙ h.order_after ∙ (λ i. told_unless (keeps i) (names (sym g.children i)));
      order_after = g.order_after ∙ h.order_before ∙ (λ i. told_unless (keeps i) (names (sym r.whole i)));
      stands = ap (λ c. may_stand c (names (edited t w.1))) g.own ∙ stand-with v.0 (names w.1) (names (edited t w.1))
          ∙ ap (λ ks. may_stand v.0 (names ks)) r.whole ∙ g.stood;
      trees = g.trees;
      out_empty = g.out_empty;
      out_room = subst (λ l. l ≤ vec_capacity t.out) (h.held ∙ ap length (sym g.gone)) g.out_room;
      room_empty = g.room_empty;
      room = subst (λ l. room_for t.gone.places.items t.come.places.items l ≤ vec_capacity t.room) total g.room;
    }

-- an edit and what it becomes leave the place and the edit as they were
pub edit-again : (s t u : ChildrenEdit) (v w x : Place) → EditFits s v → EditGives s v t w → EditGives t w u x → (x ≡ v) × (edit_steps u ≡ edit_steps s)
edit-again s t u v w x h g k =
    let r = returns s t v w h g in
    let below_is : x.1 ≡ v.1 = k.children ∙ r.whole in
    let own_is : x.0 ≡ v.0 =
    k.own ∙ (λ i. with_order (g.own i) (names (below_is i))) ∙ order-twice v.0 (names w.1) (names v.1) ∙ g.order in
    let before_is : u.before.items ≡ s.before.items = k.before ∙ ap reverse g.after ∙ reverse-reverse s.before.items in
    let gone_is : named_in u.gone ≡ named_in s.gone = k.gone_named ∙ ap names g.held ∙ sym h.gone_named in
    let come_is : named_in u.come ≡ named_in s.come = k.come_named ∙ ap names r.going_is ∙ sym h.come_named in
    let after_is : u.after.items ≡ s.after.items = k.after ∙ ap reverse g.before ∙ reverse-reverse s.after.items in
    let order_before_is = k.order_before ∙ g.order_after in
    let order_after_is = k.order_after ∙ g.order_before in (
      (λ i. (own_is i, below_is i)),
      (λ i. record {
        before = before_is i;
        gone = ((k.gone ∙ g.come) i, gone_is i);
        come = ((k.come ∙ g.gone) i, come_is i);
        after = after_is i;
        order_before = order_before_is i;
        order_after = order_after_is i;
        held = (k.held ∙ r.going_is) i;
      }),
    )

-- ---- a leaf

-- what a change of a leaf becomes fits what the change left
pub leaf-back : (s t : LeafSwap) (v w : Place) → LeafFits s v → LeafGives s v t w → LeafFits t w
leaf-back s t v w h g = ap (λ c. is_leaf (Some c)) g.put ∙ leaf-there s.leaf

-- a change of a leaf and what it becomes leave the leaf and the change as they were
pub leaf-again : (s t u : LeafSwap) (v w x : Place) → LeafFits s v → LeafGives s v t w → LeafGives t w u x → (x ≡ v) × (leaf_steps u ≡ leaf_steps s)
leaf-again s t u v w x h g k = ((λ i. ((k.put ∙ sym g.taken) i, (k.none_after ∙ sym g.none_before) i)), sym k.taken ∙ g.put)
