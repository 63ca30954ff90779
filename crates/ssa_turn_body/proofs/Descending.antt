-- A change in a child is a change below the parent.
use Rattle.std.proofs.Common.{◌≡◌, ℕ, zero, suc, ◌-◌, ◌<◌, ◌≤◌, List, [], ◌∷◌, length, get_or, set, take, drop, Bool, true, false, not, ◌&&◌, ◌||◌, cond, Some, option_map, refl, sym, ap, subst, ◌∙◌, arith, true≢false}
use Rattle.std.specs.Prelude.{slice_get}
use Rattle.std.specs.List.{list_any}
use Rattle.std.proofs.lemmas.List.{take_all}
use Rattle.std.proofs.lemmas.Option.{none-some, same_Some, slice_get-get_or, slice_get_read}
use Rattle.ssa_model.specs.definitions.Path.{Element, Path, same_element, under}
use Rattle.ssa_path.specs.Children.{child_at, elements, IsChildAt}
use Rattle.ssa_path.specs.declared.element.Elem.{Elem}
use Rattle.ssa_path.specs.View.{element_view, path_view}
use Rattle.ssa_path.proofs.Orders.{both_first, both_second}
use Rattle.ssa_typed.specs.Rows.{below, own_content, is_tree, are_trees, are_apart}
use Rattle.ssa_typed.specs.declared.node.Node.{Node}
use Rattle.ssa_typed.proofs.Levels.{Children, level-below}
use Rattle.ssa_turn_body.specs.Marks.{Child, marks, marks_in}
use Rattle.ssa_turn_body.proofs.Marking.{marks-level}
use Rattle.ssa_typed.specs.Nodes.{node_on, then_on}
use Rattle.ssa_turn_body.specs.Descent.{node_in, in_child, FitsIn, GivesIn, IsChange, IsChildChange}
use Rattle.ssa_turn_body.proofs.Places.{IsKind}
use Rattle.ssa_model.proofs.Fitting.{same_element-true}
use Rattle.ssa_model.proofs.ShownNames.{turned as same_either_way}
use Rattle.ssa_model.proofs.Basics.{not_true, both-true as both}

-- the child at a place, of this element
pub record IsHere (e : Element) (cs : List Child) (i : ℕ) : Type 0 where
  -- the child
  pub child : Child
  -- it stands at the place
  pub here : slice_get cs i ≡ Some child
  -- it has the element
  pub same : same_element e (element_view child.0) ≡ true

-- the first of children, where there is one
pub first-child : (cs : List Child) (i : ℕ) → i < length cs → Child
first-child [] i lt = absurd (omega arith)
first-child (c ∷ cs) i lt = c

-- at the place of an element's child there is such a child
pub child-here : (e : Element) (cs : List Child) (i : ℕ) → IsChildAt e cs i → IsHere e cs i
child-here e cs i h =
    let d = first-child cs i h.within in
    record { child = get_or cs i d; here = slice_get-get_or cs i d h.within; same = h.same d }

-- a child that stands at a place is among the children
pub any-at : (e : Element) (cs : List Child) (i : ℕ) (c : Child) → slice_get cs i ≡ Some c → same_element e (element_view c.0) ≡ true
    → list_any (same_element e) (elements cs) ≡ true
any-at e [] i c g s = absurd (none-some c g)
any-at e (d ∷ cs) zero c g s = ap (λ b. b || list_any (same_element e) (elements cs)) (ap (λ (x : Child). same_element e (element_view x.0)) (same_Some d c g)
    ∙ s)
any-at e (d ∷ cs) (suc i) c g s = ap (λ b. same_element e (element_view d.0) || b) (any-at e cs i c g s) ∙ or_true (same_element e (element_view d.0))
  where
    or_true : (b : Bool) → (b || true) ≡ true
    or_true true = refl
    or_true false = refl

-- the elements before a child are others
pub other-before : (e : Element) (d : Child) (cs : List Child) (i : ℕ) (c : Child) → slice_get cs i ≡ Some c → same_element e (element_view c.0) ≡ true
    → are_apart (elements (d ∷ cs)) ≡ true → same_element e (element_view d.0) ≡ false
other-before e d cs i c g s apart =
    elim (same_element e (element_view d.0)) as (λ b. same_element e (element_view d.0) ≡ b → b ≡ false) [
      | true ↦ λ t.
          let among : list_any (same_element (element_view d.0)) (elements cs) ≡ true =
          ap (λ x. list_any (same_element x) (elements cs)) (sym (same_element-true e (element_view d.0) t)) ∙ any-at e cs i c g s in
          absurd (true≢false (sym among ∙ not_true _ (both_first (not (list_any (same_element (element_view d.0)) (elements cs))) _ apart)))
      | false ↦ λ t. refl
    ] refl

-- a child that stands at a place is found under its element, where the elements are distinct
pub found-at : (e : Element) (cs : List Child) (i : ℕ) (c : Child) → slice_get cs i ≡ Some c → same_element e (element_view c.0) ≡ true
    → are_apart (elements cs) ≡ true → child_at e cs ≡ Some c.1
found-at e [] i c g s apart = absurd (none-some c g)
found-at e (d ∷ cs) zero c g s apart =
    let same = same_Some d c g in
    ap (λ b. cond b (Some d.1) (child_at e cs)) (ap (λ (x : Child). same_element e (element_view x.0)) same ∙ s) ∙ ap (λ (x : Child). Some x.1) same
found-at e (d ∷ cs) (suc i) c g s apart =
    ap (λ b. cond b (Some d.1) (child_at e cs)) (other-before e d cs i c g s apart)
    ∙ found-at e cs i c g s (both_second (not (list_any (same_element (element_view d.0)) (elements cs))) _ apart)

-- ---- a child written over

-- what is written over a child is what stands there
pub get-set : (cs : List Child) (i : ℕ) (c y : Child) → slice_get cs i ≡ Some c → slice_get (set cs i y) i ≡ Some y
get-set [] i c y g = absurd (none-some c g)
get-set (d ∷ cs) zero c y g = refl
get-set (d ∷ cs) (suc i) c y g = get-set cs i c y g

-- another tree written over a child's leaves the elements
pub elements-set : (cs : List Child) (i : ℕ) (c : Child) (n : Node) → slice_get cs i ≡ Some c → elements (set cs i (c.0, n)) ≡ elements cs
elements-set [] i c n g = refl
elements-set (d ∷ cs) zero c n g = ap (λ (x : Child). element_view x.0 ∷ elements cs) (sym (same_Some d c g))
elements-set (d ∷ cs) (suc i) c n g = ap (λ es. element_view d.0 ∷ es) (elements-set cs i c n g)

-- another tree written over a child's leaves the other children
pub other-set : (f : Element) (cs : List Child) (i : ℕ) (c : Child) (n : Node) → slice_get cs i ≡ Some c → same_element f (element_view c.0) ≡ false
    → child_at f (set cs i (c.0, n)) ≡ child_at f cs
other-set f [] i c n g o = refl
other-set f (d ∷ cs) zero c n g o =
    ap (λ b. cond b (Some n) (child_at f cs)) o
    ∙ sym (ap (λ b. cond b (Some d.1) (child_at f cs)) (ap (λ (x : Child). same_element f (element_view x.0)) (same_Some d c g) ∙ o))
other-set f (d ∷ cs) (suc i) c n g o = ap (λ o. cond (same_element f (element_view d.0)) (Some d.1) o) (other-set f cs i c n g o)

-- children with a tree written over one are trees
pub trees-set : (cs : List Child) (i : ℕ) (y : Child) → are_trees cs ≡ true → is_tree y.1 ≡ true → are_trees (set cs i y) ≡ true
trees-set [] i y h t = h
trees-set (d ∷ cs) zero y h t = both _ _ t (both_second (is_tree d.1) _ h)
trees-set (d ∷ cs) (suc i) y h t = both _ _ (both_first (is_tree d.1) _ h) (trees-set cs i y (both_second (is_tree d.1) _ h) t)

-- a child at a place of trees is a tree
pub tree-at : (cs : List Child) (i : ℕ) (c : Child) → are_trees cs ≡ true → slice_get cs i ≡ Some c → is_tree c.1 ≡ true
tree-at [] i c h g = absurd (none-some c g)
tree-at (d ∷ cs) zero c h g = ap (λ (x : Child). is_tree x.1) (sym (same_Some d c g)) ∙ both_first _ (are_trees cs) h
tree-at (d ∷ cs) (suc i) c h g = tree-at cs i c (both_second (is_tree d.1) _ h) g

-- ---- one level down

-- what a path finds below a node is what the rest of the path finds below the child at the place
pub node-in : (e : Element) (p : Path) (n : Node) (cs : List Child) (i : ℕ) → is_tree n ≡ true → below n ≡ cs → IsChildAt e (below n) i
    → node_on (e ∷ p) n ≡ node_in p cs i
node-in e p n cs i tree is at =
    let h = child-here e (below n) i at in
    ap (λ o. then_on o (node_on p)) (found-at e (below n) i h.child h.here h.same ((level-below n).apart tree))
    ∙ sym (ap (λ o. in_child o (node_on p)) (sym (ap (λ ds. slice_get ds i) is) ∙ h.here))

module _ (kind : Children → Node) (is : IsKind kind)
    (gives : Node → Node → Type 0) (e : Element) (p : Path) (v w : Children) (i : ℕ) (tree : is_tree (kind v) ≡ true) (at : IsChildAt e v.items i)
    (change : IsChildChange gives p v.items i w.items) where
  apart : are_apart (elements v.items) ≡ true
  apart = ap (λ cs. are_apart (elements cs)) (sym (is.children v)) ∙ (level-below (kind v)).apart tree

  at_place : IsHere e v.items i
  at_place = child-here e v.items i at

  same_child : at_place.child ≡ change.child
  same_child = same_Some _ _ (sym at_place.here ∙ change.here)

  same : same_element e (element_view change.child.0) ≡ true
  same = ap (λ (x : Child). same_element e (element_view x.0)) (sym same_child) ∙ at_place.same

  same_elements : elements w.items ≡ elements v.items
  same_elements = ap elements change.left ∙ elements-set v.items i change.child change.after change.here

  before : child_at e (below (kind v)) ≡ Some change.child.1
  before = ap (child_at e) (is.children v) ∙ found-at e v.items i change.child change.here same apart

  after : child_at e (below (kind w)) ≡ Some change.after
  after =
      ap (child_at e) (is.children w)
      ∙ found-at e w.items i (change.child.0, change.after) (ap (λ cs. slice_get cs i) change.left
      ∙ get-set v.items i change.child _ change.here) same (ap are_apart same_elements ∙ apart)

  others : (f : Element) → same_element e f ≡ false → child_at f (below (kind w)) ≡ child_at f (below (kind v))
  others f o =
      ap (child_at f) (is.children w ∙ change.left)
      ∙ other-set f v.items i change.child change.after change.here (ap (same_element f) (sym (same_element-true e _ same)) ∙ same_either_way e f ∙ o)
      ∙ sym (ap (child_at f) (is.children v))

  tree_after : is_tree (kind w) ≡ true
  tree_after =
      is.tree w
      ∙ both _ _ (ap is.stands same_elements ∙ both_first _ (are_trees v.items) (sym (is.tree v) ∙ tree))
      (ap are_trees change.left ∙ trees-set v.items i (
        change.child.0,
        change.after,
      ) (both_second (is.stands (elements v.items)) _ (sym (is.tree v) ∙ tree)) change.changed.tree)

  outside : (q : Path) → under (e ∷ p) q ≡ false → marks (kind w) q ≡ marks (kind v) q
  outside [] o =
      let own_is : own_content (kind w) ≡ own_content (kind v) = is.own w ∙ ap is.content same_elements ∙ sym (is.own v) in
      let elements_are : elements (below (kind w)) ≡ elements (below (kind v)) = ap elements (is.children w) ∙ same_elements
      ∙ sym (ap elements (is.children v)) in
      marks-level (kind w) [] ∙ (λ i. Some (own_is i, elements_are i)) ∙ sym (marks-level (kind v) [])
  outside (f ∷ q) o =
      marks-level (kind w) (f ∷ q)
      ∙ elim (same_element e f) as (λ b. same_element e f ≡ b → b && under p q ≡ false
      → marks_in (option_map marks (child_at f (below (kind w)))) q ≡ marks_in (option_map marks (child_at f (below (kind v)))) q) [
        | true ↦ λ t u.
            let is_e : f ≡ e = sym (same_element-true e f t) in
            ap (λ g. marks_in (option_map marks (child_at g (below (kind w)))) q) is_e
            ∙ ap (λ o. marks_in (option_map marks o) q) after ∙ change.changed.outside q u ∙ sym (ap (λ o. marks_in (option_map marks o) q) before)
            ∙ sym (ap (λ g. marks_in (option_map marks (child_at g (below (kind v)))) q) is_e)
        | false ↦ λ t u. ap (λ o. marks_in (option_map marks o) q) (others f t)
      ] refl o
      ∙ sym (marks-level (kind v) (f ∷ q))

  -- a change in a child, seen from the parent
  pub step : IsChange gives (e ∷ p) (kind v) (kind w)
  step = record {
    inside = subst (λ o. GivesIn gives (then_on o (node_on p)) (node_on (e ∷ p) (kind w))) (sym before)
        (subst (λ o. GivesIn gives (node_on p change.child.1) (then_on o (node_on p))) (sym after) change.changed.inside);
    outside = outside;
    tree = tree_after;
  }

-- ---- the parts of a path that is not empty, as a slice's pattern has them

-- a path that is not empty is its first element and the rest
pub split_path : (p : List Elem) (e : Elem) → 1 ≤ length p → e ≡ get_or p 0 e → path_view p ≡ element_view e ∷ path_view (take (length p - 1) (drop 1 p))
split_path [] e h is = absurd (omega arith)
split_path (f ∷ p) e h is =
    let l : length p ≤ length (f ∷ p) - 1 = omega arith in
    λ i. element_view (sym is i) ∷ path_view (sym (take_all _ p l) i)

-- what the step to a child asks
pub enter : (kind : Children → Node) (is : IsKind kind) (fits : Node → Type 0) (e : Element) (p r : Path) (n : Node) (v : Children) (i : ℕ) → n ≡ kind v
    → p ≡ e ∷ r → is_tree n ≡ true → IsChildAt e (below n) i → FitsIn fits (node_on p n)
    → (i < length v.items) × (are_trees v.items ≡ true) × FitsIn fits (node_in r v.items i)
enter kind is fits e p r n v i made split tree at h =
    let below_is : below n ≡ v.items = ap below made ∙ is.children v in (
      subst (λ cs. i < length cs) below_is at.within,
      ap are_trees (sym below_is) ∙ (level-below n).trees tree,
      subst (FitsIn fits) (ap (λ q. node_on q n) split ∙ node-in e r n v.items i tree below_is at) h,
    )

-- what the step to a child gives
pub leave : (kind : Children → Node) (is : IsKind kind) (gives : Node → Node → Type 0) (e : Element) (p r : Path) (n m : Node) (v w : Children) (i : ℕ)
    → n ≡ kind v → m ≡ kind w → p ≡ e ∷ r → is_tree n ≡ true → IsChildAt e (below n) i
    → IsChildChange gives r v.items i w.items → IsChange gives p n m
leave kind is gives e p r n m v w i made after split tree at change =
    let at_v : IsChildAt e v.items i = subst (λ cs. IsChildAt e cs i) (ap below made ∙ is.children v) at in
    let whole : IsChange gives (e ∷ r) (kind v) (kind w) = step kind is gives e r v w i (ap is_tree (sym made) ∙ tree) at_v change in
    subst (λ q. IsChange gives q n m) (sym split) (subst (λ x. IsChange gives (e ∷ r) x m) (sym made)
    (subst (λ x. IsChange gives (e ∷ r) (kind v) x) (sym after) whole))

-- the child at a place, and what is left of it
pub child-fits : (fits : Node → Type 0) (p : Path) (cs : List Child) (i : ℕ) (c : Child) → slice_get cs i ≡ Some c → are_trees cs ≡ true
    → FitsIn fits (node_in p cs i) → (is_tree c.1 ≡ true) × FitsIn fits (node_on p c.1)
child-fits fits p cs i c here trees h = (tree-at cs i c trees here, subst (λ o. FitsIn fits (in_child o (node_on p))) here h)

-- the child that is read is the one at the place
pub child-read : (cs : List Child) (i : ℕ) (c : Child) → i < length cs → c ≡ get_or cs i c → slice_get cs i ≡ Some c
child-read cs i c lt is = slice_get_read cs (length cs) i c refl lt is
