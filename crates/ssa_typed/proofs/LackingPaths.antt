-- What a tree lacks of the paths of a trie, level by level.
use Rattle.std.proofs.Common.{◌≡◌, ℕ, ◌+◌, ◌<◌, List, [], ◌∷◌, length, get_or, drop, true, false, not, ◌&&◌, Some, None, refl, sym, ap, subst, ◌∙◌}
use Rattle.std.specs.Prelude.{is_some}
use Rattle.ssa_model.specs.definitions.Path.{Path, same_path}
use Rattle.ssa_model.specs.definitions.PathMap.{has, set_of, paths as set_paths, listed}
use Rattle.ssa_model.proofs.PathMaps.{has-paths, has-set_of, same_sets}
use Rattle.ssa_path.specs.Children.{child_at, elements, rises}
use Rattle.ssa_path.specs.Combine.{IsGrown}
use Rattle.ssa_path.specs.declared.element.Elem.{Elem}
use Rattle.ssa_path.specs.declared.trie.Trie.{Trie}
use Rattle.ssa_path.specs.declared.trie.Trie.TheOpen.{Trie-F}
use Rattle.ssa_path.specs.declared.trie.Trie.TheViews.{out-Trie, roll-Trie}
use Rattle.ssa_path.specs.Trie.{Shape, is_one_of, is_trie, paths, shape}
use Rattle.ssa_path.specs.View.{element_view}
use Rattle.ssa_path.proofs.Levels.{any-below, any-level, any-made, found, is_trie-made, one-made-root, same_path-reading}
use Rattle.ssa_path.proofs.Lists.{left-at}
use Rattle.ssa_path.proofs.Orders.{both_second}
use Rattle.ssa_typed.specs.Lacking.{AreLacking, IsLacking}
use Rattle.ssa_typed.specs.Points.{content_in}
use Rattle.ssa_typed.specs.Rows.{body_of, rows, below, content_at, is_tree}
use Rattle.ssa_typed.specs.declared.node.Node.{Node}
use Rattle.ssa_typed.proofs.Lookups.{content-level, content-root}
use Rattle.ssa_typed.proofs.Looks.{get-body}
use Rattle.ssa_typed.proofs.Making.{Test, IsMaking, making-all, making-more, front-own}
use Rattle.ssa_model.proofs.Lists.{has-listed}
use Rattle.ssa_model.proofs.Basics.{and-true as and_true, and-false as and_false}

-- a child of the set's tries has the path, at which nothing stands in the node's child of its element
abbrev pub lacks : Node → Test Trie Node
lacks n e part other p = found same_path part p && not (is_some (content_in (child_at e (below n)) p))

-- ---- what is lacking of one of the tries

-- the trie of what the node lacks of one of the set's tries
pub record IsPart (n : Node) (c : Elem × Trie) (t : Trie) : Type 0 where
  -- its paths are those at which the node's child has nothing
  pub paths_are : (p : Path) → is_one_of (paths t) p ≡ lacks n (element_view c.0) (Some c.1) None p
  -- it is a trie
  pub trie : is_trie t ≡ true

-- where the node has a child of the element, its part is what that child lacks
pub part-there : (n m : Node) (c : Elem × Trie) (t : Trie) → child_at (element_view c.0) (below n) ≡ Some m → IsLacking m c.1 t → IsPart n c t
part-there n m c t there h = record {
  paths_are = λ p. h.paths_are p
      ∙ ap (λ o. is_one_of (paths c.1) p && not (is_some (content_in o p))) (sym there);
  trie = h.trie;
}

-- all of it, where the node has no child of its element
pub part-nowhere : (n : Node) (c : Elem × Trie) (t : Trie) → child_at (element_view c.0) (below n) ≡ None → is_trie c.1 ≡ true → shape t ≡ shape c.1
    → IsPart n c t
part-nowhere n c t none trie copy = record {
  paths_are = λ p. ap (λ (s : Shape). is_one_of s.0 p) copy ∙ sym (ap (λ o. is_one_of (paths c.1) p && not (is_some (content_in o p))) none ∙ and_true _);
  trie = ap (λ (s : Shape). s.1) copy ∙ trie;
}

-- ---- the walk over the tries

-- the tries so far hold what the node lacks of the tries before those that are left
abbrev pub IsLackingSoFar : Node → List (Elem × Trie) → List (Elem × Trie) → List (Elem × Trie) → Type 0
IsLackingSoFar n ts left out = IsMaking (lacks n) ts [] left [] out

-- the next trie is passed, with its part where that has some path
pub lacking-more : (n : Node) (ts : List (Elem × Trie)) (i : ℕ) (c : Elem × Trie) (out new : List (Elem × Trie)) (t : Trie) → i < length ts → c ≡ get_or ts i c
    → IsPart n c t → IsGrown (element_view c.0) t out new → IsLackingSoFar n ts (drop i ts) out → IsLackingSoFar n ts (drop (i + 1) ts) new
lacking-more n ts i c out new t lt is part grown h =
    let rest = drop (i + 1) ts in
    let now : IsLackingSoFar n ts (c ∷ rest) out = subst (λ l. IsLackingSoFar n ts l out) (left-at ts i c lt is) h in
    making-more (lacks n) (element_view c.0) (Some c.1) None ts [] (c ∷ rest) [] rest [] out new t (λ e p. refl)
    (front-own c rest [] refl now.own_rise refl) (both_second _ _ now.own_rise) refl part.paths_are part.trie grown now

-- where no trie is left, all is there that the node lacks of them
pub lacking-all : (n : Node) (ts left out : List (Elem × Trie)) → is_tree n ≡ true → rises (elements ts) ≡ true → left ≡ [] → IsLackingSoFar n ts left out
    → AreLacking n ts out
lacking-all n ts left out tree rise none h =
    let made = making-all (lacks n) ts [] left [] out (λ e p. refl) none refl h in
    record {
      paths_are = λ e p. made.paths_are e p ∙ sym (λ i. any-below same_path same_path-reading e ts p rise i && not (is_some (content-level n e p tree i)));
      risen = made.risen;
      tries = made.tries;
    }

-- ---- a place over what is lacking below it

-- what is lacking below the root, without the root itself, makes the trie of what a tree lacks of the set
pub lacking-place : (n : Node) (set : Trie) (x : Trie-F Trie) → x.here ≡ false → AreLacking n (out-Trie set).below.items x.below.items
    → IsLacking n set (roll-Trie x)
lacking-place n set x here h = record { paths_are = held; trie = is_trie-made x h.risen h.tries }
  where
    held : (p : Path) → is_one_of (paths (roll-Trie x)) p ≡ (is_one_of (paths set) p && not (is_some (content_at (rows n) p)))
    held [] = one-made-root x ∙ here ∙ sym (ap (λ o. is_one_of (paths set) [] && not (is_some o)) (content-root n) ∙ and_false _)
    held (f ∷ p) =
        any-made same_path same_path-reading x f p ∙ h.paths_are f p
        ∙ ap (λ b. b && not (is_some (content_at (rows n) (f ∷ p)))) (sym (any-level same_path same_path-reading set f p))

-- ---- THE BRIDGE: the paths of a set that a body lacks

-- what a tree lacks of a set are the set's paths that its body has not
pub lacking-listed : (n : Node) (set t : Trie) → IsLacking n set t → listed (paths t) ≡ set_of (set_paths (listed (paths set))) (λ p. not (has (body_of n) p))
lacking-listed n set t h =
    let wanted = listed (paths set) in
    same_sets _ _ (λ q.
    has-listed (paths t) q ∙ h.paths_are q
    ∙ (λ i. sym (has-listed (paths set) q) i && not (is_some (sym (get-body n q) i)))
    ∙ ap (λ b. b && not (has (body_of n) q)) (has-paths wanted q)
    ∙ sym (has-set_of (set_paths wanted) (λ p. not (has (body_of n) p)) q))
