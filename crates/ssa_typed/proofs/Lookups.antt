-- What a path finds in the rows of a tree: below its first element, what the rest finds in the child of that element.
use Rattle.std.proofs.Common.{◌≡◌, ℕ, ◌+◌, ◌<◌, List, [], ◌∷◌, ◌++◌, length, get_or, drop, Bool, true, false, not, cond, Option, Some, None, Ordering, Less, Equal, Greater, refl, sym, ap, ◌∙◌}
use Rattle.std.specs.Ordering.{eq_by_cmp, is_eq, ordering_then}
use Rattle.std.specs.List.{list_any}
use Rattle.ssa_model.specs.definitions.Body.{Content}
use Rattle.ssa_model.specs.definitions.Path.{Element, Path, element_cmp, path_cmp, same_element}
use Rattle.ssa_path.specs.Children.{child_at, elements}
use Rattle.ssa_path.specs.declared.element.Elem.{Elem}
use Rattle.ssa_path.specs.View.{element_view, path_view}
use Rattle.ssa_path.proofs.Orders.{both_first, both_second}
use Rattle.ssa_path.proofs.Levels.{path_view-drop}
use Rattle.ssa_typed.specs.Rows.{Row, rows, rows_below, own_content, under_element, below, content_at, are_apart, is_tree, are_trees}
use Rattle.ssa_typed.specs.Points.{content_in}
use Rattle.ssa_typed.specs.declared.node.Node.{Node}
use Rattle.ssa_typed.proofs.Levels.{level-below}
use Rattle.ssa_model.proofs.Fitting.{same_element-true}
use Rattle.ssa_model.proofs.Basics.{not_true, first_false as neither_first, second_false as neither_second}

-- ---- the child of an element

-- there is no child of an element that none of them has
pub child_at-none : {A : Type 0} (e : Element) (cs : List (Elem × A)) → list_any (same_element e) (elements cs) ≡ false → child_at e cs ≡ None
child_at-none e [] h = refl
child_at-none e (c ∷ cs) h =
    ap (λ b. cond b (Some c.1) (child_at e cs)) (neither_first (same_element e (element_view c.0)) _ h)
    ∙ child_at-none e cs (neither_second (same_element e (element_view c.0)) _ h)

-- no other child has the element of the first
pub child_at-rest : {A : Type 0} (e : Element) (c : Elem × A) (cs : List (Elem × A)) → same_element e (element_view c.0) ≡ true
    → are_apart (elements (c ∷ cs)) ≡ true → child_at e cs ≡ None
child_at-rest e c cs h apart =
    child_at-none e cs (ap (λ x. list_any (same_element x) (elements cs)) (same_element-true e (element_view c.0) h)
    ∙ not_true _ (both_first _ (are_apart (elements cs)) apart))

child-is : (b : Bool) (x c : Node) (rest : Option Node) → is_tree x ≡ true → (rest ≡ Some c → is_tree c ≡ true) → cond b (Some x) rest ≡ Some c
    → is_tree c ≡ true
child-is true x c rest here later e = let same : x ≡ c = cc in ap is_tree (sym same) ∙ here
child-is false x c rest here later e = later e

-- a child of trees is a tree
pub child-tree : (e : Element) (cs : List (Elem × Node)) (c : Node) → are_trees cs ≡ true → child_at e cs ≡ Some c → is_tree c ≡ true
child-tree e [] c h s = cc
child-tree e (x ∷ cs) c h s = child-is (same_element e (element_view x.0)) x.1 c (child_at e cs) (both_first _ (are_trees cs) h)
    (child-tree e cs c (both_second _ _ h)) s

-- a child below a tree is a tree
pub tree-child : (n : Node) (e : Element) (c : Node) → is_tree n ≡ true → child_at e (below n) ≡ Some c → is_tree c ≡ true
tree-child n e c h s = child-tree e (below n) c ((level-below n).trees h) s

-- ---- the content at a path

-- the first content, or the second where that is none
abbrev pub or_else : Option Content → Option Content → Option Content
or_else None y = y
or_else (Some c) y = Some c

cond_or : (b : Bool) (c : Content) (x y : Option Content) → cond b (Some c) (or_else x y) ≡ or_else (cond b (Some c) x) y
cond_or true c x y = refl
cond_or false c x y = refl

-- in one list of rows behind another, the first has precedence at each path
pub content_at-append : (xs ys : List Row) (p : Path) → content_at (xs ++ ys) p ≡ or_else (content_at xs p) (content_at ys p)
content_at-append [] ys p = refl
content_at-append (r ∷ xs) ys p = ap (cond (eq_by_cmp path_cmp p r.0) (Some r.1)) (content_at-append xs ys p) ∙ cond_or (eq_by_cmp path_cmp p r.0) r.1 _ _

first_then : (o : Ordering) (q : Ordering) (c : Content) (x : Option Content)
    → cond (is_eq (ordering_then o q)) (Some c) (cond (is_eq o) x None) ≡ cond (is_eq o) (cond (is_eq q) (Some c) x) None
first_then Less q c x = refl
first_then Equal q c x = refl
first_then Greater q c x = refl

nothing : (b : Bool) (x : Option Content) → x ≡ None → cond b x None ≡ None
nothing true x e = e
nothing false x e = refl

-- rows under an element are found by it, and then by what is left of the path
pub content_at-under : (t s : Element) (rs : List Row) (p : Path) → content_at (under_element s rs) (t ∷ p) ≡ cond (same_element t s) (content_at rs p) None
content_at-under t s [] p = sym (nothing (same_element t s) None refl)
content_at-under t s (r ∷ rs) p = ap (cond (is_eq (ordering_then (element_cmp t s) (path_cmp p r.0))) (Some r.1)) (content_at-under t s rs p)
    ∙ first_then (element_cmp t s) (path_cmp p r.0) r.1 _

-- nothing behind a content leaves it
pub or_none : (x : Option Content) → or_else x None ≡ x
or_none None = refl
or_none (Some c) = refl

into-first : (b : Bool) (c : Node) (rest : Option Node) (p : Path) → (b ≡ true → rest ≡ None)
    → or_else (cond b (content_at (rows c) p) None) (content_in rest p) ≡ content_in (cond b (Some c) rest) p
into-first true c rest p h = ap (λ x. or_else (content_at (rows c) p) (content_in x p)) (h refl) ∙ or_none _
into-first false c rest p h = refl

-- a path into children finds what its rest finds in the child of its first element
pub content-below : (cs : List (Elem × Node)) (e : Element) (p : Path) → are_apart (elements cs) ≡ true
    → content_at (rows_below cs) (e ∷ p) ≡ content_in (child_at e cs) p
content-below [] e p apart = refl
content-below (c ∷ cs) e p apart =
    content_at-append (under_element (element_view c.0) (rows c.1)) (rows_below cs) (e ∷ p)
    ∙ (λ i. or_else (content_at-under e (element_view c.0) (rows c.1) p i)
    (content-below cs e p (both_second (not (list_any (same_element (element_view c.0)) (elements cs))) _ apart) i))
    ∙ into-first (same_element e (element_view c.0)) c.1 (child_at e cs) p (λ h. child_at-rest e c cs h apart)

-- at the root stands the node's own content
pub content-root : (n : Node) → content_at (rows n) [] ≡ Some (own_content n)
content-root n = ap (λ rs. content_at rs []) (level-below n).rows_are

-- a path into a tree finds what its rest finds in the child of its first element
pub content-level : (n : Node) (e : Element) (p : Path) → is_tree n ≡ true → content_at (rows n) (e ∷ p) ≡ content_in (child_at e (below n)) p
content-level n e p h = ap (λ rs. content_at rs (e ∷ p)) (level-below n).rows_are ∙ content-below (below n) e p ((level-below n).apart h)

-- ---- down a path

-- what is left of the path finds below the node what the path finds
pub record IsOnWay (start : Node) (path : Path) (n : Node) (left : Path) : Type 0 where
  -- the node is a tree
  pub tree : is_tree n ≡ true
  -- what stands behind the path in the start stands behind what is left of it in the node
  pub same : (q : Path) → content_at (rows start) (path ++ q) ≡ content_at (rows n) (left ++ q)

way-found : (start n : Node) (whole : Path) (path : List Elem) (i : ℕ) (e : Elem) (child : Option Node) → i < length path → e ≡ get_or path i e
    → child_at (element_view e) (below n) ≡ child
    → IsOnWay start whole n (path_view (drop i path)) → (q : Path)
    → content_at (rows start) (whole ++ q) ≡ content_in child (path_view (drop (i + 1) path) ++ q)
way-found start n whole path i e child lt is found h q =
    let rest = path_view (drop (i + 1) path) in
    h.same q ∙ ap (λ p. content_at (rows n) (p ++ q)) (path_view-drop path i e lt is)
    ∙ content-level n (element_view e) (rest ++ q) h.tree ∙ ap (λ c. content_in c (rest ++ q)) found

-- one element further
pub way-step : (start n child : Node) (whole : Path) (path : List Elem) (i : ℕ) (e : Elem) → i < length path → e ≡ get_or path i e
    → child_at (element_view e) (below n) ≡ Some child
    → IsOnWay start whole n (path_view (drop i path)) → IsOnWay start whole child (path_view (drop (i + 1) path))
way-step start n child whole path i e lt is found h = record {
  tree = tree-child n (element_view e) child h.tree found;
  same = way-found start n whole path i e (Some child) lt is found h;
}

-- no child of the next element
pub way-none : (start n : Node) (whole : Path) (path : List Elem) (i : ℕ) (e : Elem) → i < length path → e ≡ get_or path i e
    → child_at (element_view e) (below n) ≡ None
    → IsOnWay start whole n (path_view (drop i path)) → (q : Path) → content_at (rows start) (whole ++ q) ≡ None
way-none start n whole path i e lt is found h q = way-found start n whole path i e None lt is found h q
