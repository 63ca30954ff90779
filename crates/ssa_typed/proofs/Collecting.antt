-- The walk that collects points, or all places, of a tree.
use Rattle.std.proofs.Common.{◌≡◌, ℕ, ◌+◌, List, [], ◌∷◌, drop, Bool, true, false, Some, None, refl, sym, ap, subst, ◌∙◌}
use Rattle.std.specs.Prelude.{is_some, slice_get}
use Rattle.ssa_model.specs.definitions.Path.{Element, Path, same_path, is_item, is_item_element, parent}
use Rattle.ssa_model.specs.definitions.Body.{is_dict, points}
use Rattle.ssa_model.proofs.PathMaps.{same_sets}
use Rattle.ssa_path.specs.Children.{child_at}
use Rattle.ssa_path.specs.Combine.{IsGrown}
use Rattle.ssa_path.specs.declared.element.Elem.{Elem}
use Rattle.ssa_path.specs.declared.trie.Trie.{Trie}
use Rattle.ssa_path.specs.declared.trie.Trie.TheOpen.{Trie-F}
use Rattle.ssa_path.specs.declared.trie.Trie.TheViews.{roll-Trie}
use Rattle.ssa_model.specs.definitions.PathMap.{listed}
use Rattle.ssa_path.specs.Trie.{is_one_of, paths}
use Rattle.ssa_path.specs.View.{element_view}
use Rattle.ssa_path.proofs.Levels.{any-made, is_trie-made, one-made-root, same_path-reading}
use Rattle.ssa_path.proofs.Orders.{both_second}
use Rattle.ssa_typed.specs.InOrder.{IsInOrder}
use Rattle.ssa_typed.specs.Points.{is_point_by, is_point_of, point_in, collects, is_in_dict, IsAllPlaces, IsCollected, IsChildTrie, IsPointTrie}
use Rattle.ssa_typed.specs.Rows.{rows, below, body_of, content_at, is_tree}
use Rattle.ssa_typed.specs.declared.node.Node.{Node}
use Rattle.ssa_typed.specs.declared.points.Collected.{Collected}
use Rattle.ssa_typed.specs.declared.points.Collected.TheVariants.{Points, All}
use Rattle.ssa_typed.proofs.Lookups.{content-level, content-root}
use Rattle.ssa_typed.proofs.Making.{Test, IsMaking, making-more, making-all, front-own}
use Rattle.ssa_typed.proofs.References.{left-read}
use Rattle.ssa_typed.proofs.Stands.{stands-level, points-body}
use Rattle.ssa_model.proofs.Lists.{has-listed}

-- ---- what is collected at and below a node, level by level

module _ (n : Node) (tree : is_tree n ≡ true) where
  -- whether a path that goes on below a node is a point is told by the node's child there
  pub point-level : (d : Bool) (e f : Element) (p : Path) → point_in d e (Some n) (f ∷ p) ≡ point_in (is_in_dict n) f (child_at f (below n)) p
  point-level d e f [] =
      (λ i. is_point_by (content-level n f [] tree i) (is_item_element f) (is_dict (content-root n i)) (stands-level n f [] tree i))
  point-level d e f (g ∷ p) =
      (λ i. is_point_by (content-level n f (g ∷ p) tree i) (is_item (g ∷ p)) (is_dict (content-level n f (parent (g ∷ p)) tree i))
      (stands-level n f (g ∷ p) tree i))

  -- whether a path that goes on below a node is collected is told by the node's child there
  pub collects-level : (what : Collected) (d : Bool) (e f : Element) (p : Path)
      → collects what d e (Some n) (f ∷ p) ≡ collects what (is_in_dict n) f (child_at f (below n)) p
  collects-level Points d e f p = point-level d e f p
  collects-level All d e f p = ap is_some (content-level n f p tree)

-- of a child that is not there nothing is collected
pub collects-nothing : (what : Collected) (d : Bool) (e : Element) (p : Path) → collects what d e None p ≡ false
collects-nothing Points d e [] = refl
collects-nothing Points d e (f ∷ p) = refl
collects-nothing All d e p = refl

-- ---- a place over what was collected below it

-- of a node with nothing below nothing is collected
pub nothing-below : (what : Collected) (n : Node) → below n ≡ [] → IsCollected what n []
nothing-below what n none = record {
  paths_are = λ e p. sym (ap (λ cs. collects what (is_in_dict n) e (child_at e cs) p) none ∙ collects-nothing what (is_in_dict n) e p);
  risen = refl;
  tries = refl;
}

-- what is collected of a child itself and of what is below it makes the child's trie
pub child-trie : (what : Collected) (d : Bool) (e : Element) (c : Node) (x : Trie-F Trie) → is_tree c ≡ true → x.here ≡ collects what d e (Some c) []
    → IsCollected what c x.below.items → IsChildTrie (Some what) d e c (roll-Trie x)
child-trie what d e c x tree here h = record { paths_are = held; trie = is_trie-made x h.risen h.tries }
  where
    held : (p : Path) → is_one_of (paths (roll-Trie x)) p ≡ collects what d e (Some c) p
    held [] = one-made-root x ∙ here
    held (f ∷ p) = any-made same_path same_path-reading x f p ∙ h.paths_are f p ∙ sym (collects-level c tree what d e f p)

-- the points collected below the root, without the root itself, make the trie of a tree's points
pub point-trie : (n : Node) (x : Trie-F Trie) → is_tree n ≡ true → x.here ≡ false → IsCollected Points n x.below.items → IsPointTrie n (roll-Trie x)
point-trie n x tree here h = record { paths_are = held; trie = is_trie-made x h.risen h.tries }
  where
    held : (p : Path) → is_one_of (paths (roll-Trie x)) p ≡ is_point_of (rows n) p
    held [] = one-made-root x ∙ here
    held (f ∷ p) = any-made same_path same_path-reading x f p ∙ h.paths_are f p ∙ sym (point-level n tree false f f p)

-- all that is collected below a root, with the root itself, makes the trie of all places of a tree
pub places-trie : (n : Node) (x : Trie-F Trie) → is_tree n ≡ true → x.here ≡ true → IsCollected All n x.below.items → IsAllPlaces n (roll-Trie x)
places-trie n x tree here h = record { paths_are = held; trie = is_trie-made x h.risen h.tries }
  where
    held : (p : Path) → is_one_of (paths (roll-Trie x)) p ≡ is_some (content_at (rows n) p)
    held [] = one-made-root x ∙ here ∙ sym (ap is_some (content-root n))
    held (f ∷ p) = any-made same_path same_path-reading x f p ∙ h.paths_are f p ∙ sym (ap is_some (content-level n f p tree))

-- ---- the walk over the children

-- what is collected, as a test of the children of one list, where the other has none
abbrev pub collecting : Collected → Bool → Test Node Node
collecting what d e c other p = collects what d e c p

-- the tries so far hold what is collected of the children before those that are left
abbrev pub IsCollecting : Collected → Bool → List (Elem × Node) → List (Elem × Node) → List (Elem × Trie) → Type 0
IsCollecting what d ds left out = IsMaking (collecting what d) ds [] left [] out

-- the next child is collected, where it has some such path
pub collecting-more : (what : Collected) (d : Bool) (cs : List (Elem × Node)) (i : ℕ) (c : Elem × Node) (out new : List (Elem × Trie)) (t : Trie)
    → slice_get cs i ≡ Some c → IsChildTrie (Some what) d (element_view c.0) c.1 t → IsGrown (element_view c.0) t out new
    → IsCollecting what d cs (drop i cs) out → IsCollecting what d cs (drop (i + 1) cs) new
collecting-more what d cs i c out new t is made grown h =
    let rest = drop (i + 1) cs in
    let now : IsCollecting what d cs (c ∷ rest) out = subst (λ l. IsCollecting what d cs l out) (left-read cs i c is) h in
    making-more (collecting what d) (element_view c.0) (Some c.1) None cs [] (c ∷ rest) [] rest [] out new t (collects-nothing what d)
    (front-own c rest [] refl now.own_rise refl) (both_second _ _ now.own_rise) refl made.paths_are made.trie grown now

-- where no child is left, all is collected that is below the node
pub collecting-all : (what : Collected) (d : Bool) (n : Node) (ds left : List (Elem × Node)) (out : List (Elem × Trie)) → d ≡ is_in_dict n
    → IsInOrder (below n) ds → left ≡ [] → IsCollecting what d ds left out → IsCollected what n out
collecting-all what d n ds left out is order none h =
    let made = making-all (collecting what d) ds [] left [] out (collects-nothing what d) none refl h in
    record { paths_are = λ e p. made.paths_are e p ∙ (λ i. collects what (is i) e (order.same e i) p); risen = made.risen; tries = made.tries }

-- ---- the body's points

-- the trie of a tree's points lists the points of its body
pub points-listed : (n : Node) (t : Trie) → IsPointTrie n t → listed (paths t) ≡ points (body_of n)
points-listed n t h = same_sets _ _ (λ q. has-listed (paths t) q ∙ h.paths_are q ∙ sym (points-body n q))
