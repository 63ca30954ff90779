-- The paths of a tree that stay by themselves where places go.
use Rattle.std.proofs.Common.{◌≡◌, List, [], ◌∷◌, ◌++◌, Bool, true, false, not, ◌&&◌, ◌||◌, cond, Option, Some, None, refl, sym, ap, ◌∙◌, true≢false}
use Rattle.std.specs.Prelude.{is_some}
use Rattle.ssa_model.specs.definitions.Body.{points, strictly_under}
use Rattle.ssa_model.specs.definitions.Path.{Element, Path, same_element, same_path, under}
use Rattle.ssa_model.specs.definitions.PathMap.{PathSet, has, has_at_or_above, listed, set_of}
use Rattle.ssa_model.specs.definitions.PathMap.{paths as set_paths}
use Rattle.ssa_model.proofs.Basics.{both-true as both, or-false as or_false, or_true}
use Rattle.ssa_model.proofs.Lists.{any-listed, has-listed}
use Rattle.ssa_model.proofs.PathMaps.{has-paths, has-set_of, has-union}
use Rattle.ssa_model.proofs.Pruned.{from_one, some_one}
use Rattle.ssa_model.proofs.ShownNames.{turned as same_either_way}
use Rattle.ssa_path.specs.Children.{child_at, elements, rises}
use Rattle.ssa_path.specs.declared.element.Elem.{Elem}
use Rattle.ssa_path.specs.declared.trie.Trie.{Trie}
use Rattle.ssa_path.specs.declared.trie.Trie.TheViews.{out-Trie}
use Rattle.ssa_path.specs.Trie.{are_filled_tries, here_path, is_filled, is_one_of, is_trie, paths, paths_below}
use Rattle.ssa_path.specs.View.{element_view}
use Rattle.ssa_path.proofs.Levels.{GoesOn, any-below, child-more, found, one-level-root, paths-level, same_path-reading}
use Rattle.ssa_path.proofs.Orders.{both_first, both_second}
use Rattle.ssa_path.proofs.Searching.{absent-below}
use Rattle.ssa_typed.specs.Cut.{uncut, goes, stays_by, AreUncut, is_point_at, IsUncut, paths_of, is_filled_in}
use Rattle.ssa_typed.specs.Points.{is_in_dict, is_point_of, point_in, stands_below}
use Rattle.ssa_typed.specs.Rows.{below, body_of, is_tree, rows}
use Rattle.ssa_typed.specs.declared.node.Node.{Node}
use Rattle.ssa_typed.proofs.Collecting.{point-level}
use Rattle.ssa_typed.proofs.Lookups.{content-root}
use Rattle.ssa_typed.proofs.Reached.{reached}
use Rattle.ssa_typed.proofs.Restricting.{below_set}
use Rattle.ssa_typed.proofs.Stands.{points-body, stands-body}

-- ---- what goes

-- whether a path is under another is told of the rests behind one element in both
goes-more : GoesOn (λ p g. under g p)
goes-more e f p q = ap (λ b. b && under q p) (same_either_way e f)

goes-first : (b : Bool) (c : Trie) (x : Option Trie) (p : Path) → (b ≡ true → x ≡ None)
    → ((b && goes (paths c) p) || goes (paths_of x) p) ≡ goes (paths_of (cond b (Some c) x)) p
goes-first true c x p h = ap (λ y. goes (paths c) p || goes (paths_of y) p) (h refl) ∙ or_false _
goes-first false c x p h = refl

-- below the child of an element goes what the child's trie says
pub goes-below : (e : Element) (cs : List (Elem × Trie)) (p : Path) → rises (elements cs) ≡ true
    → goes (paths_below cs) (e ∷ p) ≡ goes (paths_of (child_at e cs)) p
goes-below e [] p h = refl
goes-below e (c ∷ cs) p h =
    child-more (λ p g. under g p) goes-more e c cs p
    ∙ ap (λ b. (same_element e (element_view c.0) && goes (paths c.1) p) || b) (goes-below e cs p (both_second _ _ h))
    ∙ goes-first (same_element e (element_view c.0)) c.1 (child_at e cs) p (λ s. absent-below e (element_view c.0) cs s (both_first _ _ h))

goes-root : (gone : List Path) → goes gone [] ≡ is_one_of gone []
goes-root [] = refl
goes-root ([] ∷ gone) = refl
goes-root ((e ∷ g) ∷ gone) = goes-root gone

-- the paths of a child's trie
pub one-below : (e : Element) (cs : List (Elem × Trie)) (p : Path) → rises (elements cs) ≡ true
    → is_one_of (paths_below cs) (e ∷ p) ≡ is_one_of (paths_of (child_at e cs)) p
one-below e cs p h = any-below same_path same_path-reading e cs p h ∙ at (child_at e cs)
  where
    at : (o : Option Trie) → found same_path o p ≡ is_one_of (paths_of o) p
    at None = refl
    at (Some t) = refl

module _ (g : Trie) (here : (out-Trie g).here ≡ false) where
  -- where the place itself does not go, its root does not
  pub not-here : goes (paths g) [] ≡ false
  not-here = goes-root (paths g) ∙ one-level-root g ∙ here

  -- and what goes below it is told by the tries below it
  pub goes-level : (e : Element) (p : Path) → goes (paths g) (e ∷ p) ≡ goes (paths_below (below_set g)) (e ∷ p)
  goes-level e p = ap (λ gs. goes gs (e ∷ p)) (paths-level g ∙ ap (λ b. here_path b ++ paths_below (below_set g)) here)

-- where the place itself goes, all goes
pub all-go : (g : Trie) → (out-Trie g).here ≡ true → (p : Path) → goes (paths g) p ≡ true
all-go g here p = from_one (λ q. under q p) (paths g) [] (one-level-root g ∙ here) refl

-- what the tries of a place have under an element, if anything, is a trie with some path
pub child-filled : (e : Element) (cs : List (Elem × Trie)) → are_filled_tries cs ≡ true → is_filled_in (child_at e cs) ≡ true
child-filled e [] h = refl
child-filled e (c ∷ cs) h =
    elim (same_element e (element_view c.0)) as (λ b. is_filled_in (cond b (Some c.1) (child_at e cs)) ≡ true) [
      | true ↦ both_first _ (are_filled_tries cs) h
      | false ↦ child-filled e cs (both_second (is_trie c.1 && is_filled c.1) _ h)
    ]

-- ---- the tests

-- of what goes only what is held stays
pub gone-left : (point : Bool) {goes held : Bool} → goes ≡ true → stays_by point goes held ≡ held
gone-left true {held} h = ap (λ b. not b || held) h
gone-left false h = refl

-- what is held stays
pub held-left : (point goes : Bool) → stays_by point goes true ≡ true
held-left point goes = or_true (point && not goes) true refl

-- a point that does not go stays
pub point-left : {point goes : Bool} (held : Bool) → point ≡ true → goes ≡ false → stays_by point goes held ≡ true
point-left held h k = λ i. (h i && not (k i)) || held

-- the points at and below a child
pub point-at : (d : Bool) (e : Element) (c : Node) (p : Path) → point_in d e (Some c) p ≡ is_point_at (point_in d e (Some c) []) c p
point-at d e c [] = refl
point-at d e c (f ∷ p) = refl

-- ---- a point at or below each place of a child

module _ (d : Bool) (e : Element) (c : Node) where
  -- a point at or below a place
  abbrev Reach : Path → Type 0
  Reach p = (q : Path) × (point_in d e (Some c) q ≡ true) × (under p q ≡ true)

  point-there : (q : Path) → is_point_of (rows c) q ≡ true → point_in d e (Some c) q ≡ true
  point-there [] h = absurd (true≢false (sym h))
  point-there (f ∷ q) h = h

  reach-below : (f : Element) (p : Path) → has (body_of c) (f ∷ p) ≡ true → Reach (f ∷ p)
  reach-below f p there =
      let x = some_one (under (f ∷ p)) (set_paths (points (body_of c))) (reached (body_of c) (f ∷ p) there) in
      (x.0, point-there x.0 (sym (points-body c x.0) ∙ has-paths (points (body_of c)) x.0 ∙ x.1), x.2)

  bare : stands_below (rows c) [] ≡ false → point_in d e (Some c) [] ≡ true
  bare h = both _ _ (ap is_some (content-root c)) (or_true _ _ (or_true _ _ (or_true d _ (ap not h))))

  from-strict : (y : Path) → has (body_of c) y ≡ true → strictly_under [] y ≡ true → Reach []
  from-strict [] there strict = absurd (true≢false (sym strict))
  from-strict (f ∷ p) there strict = let x = reach-below f p there in (x.0, x.1, refl)

  -- at or below each place of a child is a point
  pub reach : (p : Path) → has (body_of c) p ≡ true → Reach p
  reach (f ∷ p) there = reach-below f p there
  reach [] there =
      elim (stands_below (rows c) []) as (λ b. stands_below (rows c) [] ≡ b → Reach []) [
        | true ↦ λ more.
            let y = some_one (strictly_under []) (set_paths (body_of c)) (stands-body (rows c) [] ∙ more) in
            from-strict y.0 (has-paths (body_of c) y.0 ∙ y.1) y.2
        | false ↦ λ none. ([], bare none, refl)
      ] refl

-- ---- a child

-- what stays by itself at and below a node stays so below it
pub uncut-below : (root : Bool) (n : Node) (gone held ps : List Path) → is_tree n ≡ true → IsUncut root n gone held ps
    → AreUncut (is_in_dict n) (below n) gone held ps
uncut-below root n gone held ps tree u e p = u (e ∷ p)
    ∙ ap (λ b. stays_by b (goes gone (e ∷ p)) (is_one_of held (e ∷ p))) (point-level n tree false e e p)

-- what stays, and is not held, is a point
pub point-of : (point goes : Bool) → stays_by point goes false ≡ true → point ≡ true
point-of true goes h = refl
point-of false goes h = h

-- ---- THE BRIDGE: what stays of a body by itself

-- the paths that stay by themselves where those of one list go and those of another are held
abbrev pub Staying : Node → List Path → List Path → PathSet
Staying n gone held = uncut (body_of n) (listed gone) (listed held)

module _ (n : Node) (gone held : List Path) (tree : is_tree n ≡ true) where
  point-stays : (e : Element) (p : Path) → has (set_of (set_paths (points (body_of n))) (λ q. not (has_at_or_above (listed gone) q))) (e ∷ p)
      ≡ (point_in (is_in_dict n) e (child_at e (below n)) p && not (goes gone (e ∷ p)))
  point-stays e p =
      let q = e ∷ p in
      has-set_of (set_paths (points (body_of n))) (λ q. not (has_at_or_above (listed gone) q)) q
      ∙ (λ i. (sym (has-paths (points (body_of n)) q) ∙ points-body n q ∙ point-level n tree false e e p) i
      && not (any-listed (λ x. under x q) gone i))

  -- they are told by the body's points
  pub body-uncut : AreUncut (is_in_dict n) (below n) gone held (set_paths (Staying n gone held))
  body-uncut e p =
      let q = e ∷ p in
      sym (has-paths (Staying n gone held) q)
      ∙ has-union (set_of (set_paths (points (body_of n))) (λ q. not (has_at_or_above (listed gone) q))) (listed held) q
      ∙ (λ i. point-stays e p i || has-listed held q i)
