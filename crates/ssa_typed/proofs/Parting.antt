-- A tree without places, each of which goes with all that is below it, level by level.
use Rattle.std.proofs.Common.{◌≡◌, List, [], ◌∷◌, ◌++◌, true, false, not, ◌&&◌, ◌||◌, Option, Some, None, refl, sym, ap, subst₂, ◌∙◌}
use Rattle.std.specs.Prelude.{is_some}
use Rattle.std.specs.List.{list_any}
use Rattle.ssa_model.specs.definitions.Body.{Body, restricted}
use Rattle.ssa_model.specs.definitions.Path.{Element, Path, is_root, same_path, under}
use Rattle.ssa_model.specs.definitions.PathMap.{PathSet, has, has_at_or_below, listed, set_of}
use Rattle.ssa_model.specs.definitions.PathMap.{paths as set_paths}
use Rattle.ssa_model.proofs.Basics.{both-true as both, not_true, some≢none, yes_no}
use Rattle.ssa_model.proofs.Lists.{has-listed}
use Rattle.ssa_model.proofs.PathMaps.{has-paths, has-set_of}
use Rattle.ssa_model.proofs.Pruned.{from_one, some_one}
use Rattle.ssa_model.proofs.Tables.{apart_by, element-itself as same_element-itself, here_below}
use Rattle.ssa_model.proofs.Tests.{same_tests}
use Rattle.ssa_path.specs.Children.{child_at, elements, rises}
use Rattle.ssa_path.specs.declared.element.Elem.{Elem}
use Rattle.ssa_path.specs.declared.trie.Trie.{Trie}
use Rattle.ssa_path.specs.declared.trie.Trie.TheViews.{out-Trie}
use Rattle.ssa_path.specs.Trie.{is_one_of, paths, paths_below}
use Rattle.ssa_path.specs.View.{element_view}
use Rattle.ssa_path.proofs.Levels.{any-level, one-level-root, same_path-reading}
use Rattle.ssa_path.proofs.Orders.{both_first, both_second}
use Rattle.ssa_typed.specs.Cut.{paths_of, IsLeft}
use Rattle.ssa_typed.specs.Points.{content_in}
use Rattle.ssa_typed.specs.Restricted.{AreRestricted, IsRestricted}
use Rattle.ssa_typed.specs.Rows.{below, body_of, content_at, is_tree, rows}
use Rattle.ssa_typed.specs.Without.{AreKept, AreWithout, GoesWhole, GoWhole, IsChildWithout, IsKept, IsWithout}
use Rattle.ssa_typed.specs.declared.node.Node.{Node, Branch, Dict, List as ListOf}
use Rattle.ssa_typed.proofs.Building.{Child}
use Rattle.ssa_typed.proofs.Cutting.{one-below}
use Rattle.ssa_typed.proofs.Leaving.{IsLeaving, any-rests, leaving-gone, leaving-part, leaving-whole, left-restricted, next-there, none-under, rests}
use Rattle.ssa_typed.proofs.Levels.{Children}
use Rattle.ssa_typed.proofs.Looks.{get-body}
use Rattle.ssa_typed.proofs.Lookups.{content-level, content-root}
use Rattle.ssa_typed.proofs.OverNodes.{below-Branch, below-Dict, below-List}
use Rattle.ssa_typed.proofs.Reached.{parts-agree}
use Rattle.ssa_typed.proofs.Restricting.{below_set, body-part, dict-restricted, list-restricted, part-false, record-restricted}

-- ---- the walk over the children

module _ (gs : List (Elem × Trie)) (rise : rises (elements gs) ≡ true) (cs : List Child) (c : Child) (all left made : List Child) (is : all ≡ c ∷ left)
    (h : IsLeaving (AreKept cs (paths_below gs)) cs all made) where
  abbrev IsNow : List Child → List Child → Type 0
  IsNow = IsLeaving (AreKept cs (paths_below gs)) cs

  abbrev own : Element
  own = element_view c.0

  member : (ps : List Path) → AreKept cs (paths_below gs) ps → (p : Path)
      → is_one_of ps (own ∷ p) ≡ (is_some (content_at (rows c.1) p) && not (is_one_of (paths_of (child_at own gs)) p))
  member ps u p = u own p ∙ (λ i. is_some (content_in (next-there cs c all left made is h i) p) && not (one-below own gs p rise i))

  -- the next child stays whole, where nothing of it goes
  pub parting-whole : child_at own gs ≡ None → (new : List Child) → new ≡ made ++ c ∷ [] → IsNow left new
  parting-whole none =
      leaving-whole cs c all left made is h (λ ps u p place.
      here_below ps (own ∷ p) (member ps u p
      ∙ (λ i. (sym (ap is_some (get-body c.1 p)) ∙ place) i && not (is_one_of (paths_of (none i)) p))))

  module _ (t : Trie) (part : Option Node) (goes_at : child_at own gs ≡ Some t) (without : IsChildWithout (paths t) c.1 part) where
    part-left : (ps : List Path) → AreKept cs (paths_below gs) ps → IsLeft (rests own ps) c.1 part
    part-left ps u =
        without (rests own ps) (λ p. any-rests same_path same_path-reading own ps p ∙ member ps u p
        ∙ (λ i. is_some (content_at (rows c.1) p) && not (is_one_of (paths_of (goes_at i)) p)))

    -- the next child stays, without what goes of it
    pub parting-part : (n : Node) (new : List Child) → part ≡ Some n → new ≡ made ++ (c.0, n) ∷ [] → IsNow left new
    parting-part = leaving-part cs c all left made is h part part-left

    -- the next child goes
    pub parting-gone : part ≡ None → IsNow left made
    parting-gone = leaving-gone cs c all left made is h part part-left

  -- with each place of the next child that goes goes all that the child has below it
  pub child-whole : (t : Trie) → child_at own gs ≡ Some t → GoWhole cs (paths_below gs) → GoesWhole c.1 (paths t)
  child-whole t goes_at whole p q goes above place =
      let at = λ (x : Path). one-below own gs x rise ∙ ap (λ o. is_one_of (paths_of o) x) goes_at in
      sym (at q) ∙ whole own p q (at p ∙ goes) above (ap (λ o. is_some (content_in o q)) (next-there cs c all left made is h) ∙ place)

-- ---- a child

-- a child that goes itself goes whole
pub gone-without : (n : Node) (g : Trie) → (out-Trie g).here ≡ true → GoesWhole n (paths g) → IsChildWithout (paths g) n None
gone-without n g here whole ps u = record {
  content = λ p. sym (part-false (λ q. list_any (under q) ps) p (content_at (rows n) p) (none-under ps none p));
  trees = λ m is. absurd (some≢none m (sym is));
}
  where
    none : (q : Path) → is_one_of ps q ≡ false
    none q =
        apart_by (is_one_of ps q) (λ k.
        let facts = sym (u q) ∙ k in
        let place = both_first (is_some (content_at (rows n) q)) _ facts in
        yes_no (is_one_of (paths g) q) (whole [] q (one-level-root g ∙ here) refl place)
        (not_true (is_one_of (paths g) q) (both_second (is_some (content_at (rows n) q)) _ facts)))

module _ (n : Node) (g : Trie) where
  -- below a tree that goes whole all does
  pub below-whole : is_tree n ≡ true → GoesWhole n (paths g) → GoWhole (below n) (paths_below (below_set g))
  below-whole tree whole e p q goes above place =
      sym (any-level same_path same_path-reading g e q)
      ∙ whole (e ∷ p) (e ∷ q) (any-level same_path same_path-reading g e p ∙ goes)
      (both _ _ (same_element-itself e) above) (ap is_some (content-level n e q tree) ∙ place)

  kept-below : is_tree n ≡ true → (ps : List Path) → IsKept n (paths g) ps → AreKept (below n) (paths_below (below_set g)) ps
  kept-below tree ps u e p =
      u (e ∷ p) ∙ (λ i. is_some (content-level n e p tree i) && not (any-level same_path same_path-reading g e p i))

  -- a child that does not go itself stays, without what goes below it
  pub left-without : (made : Node) → is_tree n ≡ true → (out-Trie g).here ≡ false → IsWithout (paths_below (below_set g)) n made
      → IsChildWithout (paths g) n (Some made)
  left-without made tree here without ps u =
      left-restricted ps n made
      (from_one (under []) ps [] (u [] ∙ (λ i. is_some (content-root n i) && not ((one-level-root g ∙ here) i))) refl)
      (without ps (kept-below tree ps u))

-- ---- a node of the children that stay

module _ (gone : List Path) (n : Node) (v w : Children) (tree : is_tree n ≡ true) where
  kept-children : (cs : List Child) → below n ≡ cs → AreWithout gone cs w.items → (ps : List Path) → AreKept (below n) gone ps → AreRestricted ps cs w.items
  kept-children cs is h ps u = h ps (λ e p. u e p ∙ ap (λ l. is_some (content_in (child_at e l) p) && not (is_one_of gone (e ∷ p))) is)

  -- a record without places
  pub record-without : n ≡ Branch v → AreWithout gone v.items w.items → IsWithout gone n (Branch w)
  record-without is h ps u = record-restricted ps ps (λ e p. refl) n v w tree is (kept-children v.items (ap below is ∙ below-Branch v) h ps u)

  -- a Dict without places
  pub dict-without : n ≡ Dict v → AreWithout gone v.items w.items → IsWithout gone n (Dict w)
  dict-without is h ps u = dict-restricted ps ps (λ e p. refl) n v w tree is (kept-children v.items (ap below is ∙ below-Dict v) h ps u)

  -- a list without places
  pub list-without : n ≡ ListOf v → AreWithout gone v.items w.items → IsWithout gone n (ListOf w)
  list-without is h ps u = list-restricted ps ps (λ e p. refl) n v w tree is (kept-children v.items (ap below is ∙ below-List v) h ps u)

-- ---- THE BRIDGE: the body without places

module _ (n made : Node) (g : Trie) (tree : is_tree n ≡ true) (without : IsWithout (paths_below (below_set g)) n made) where
  abbrev Kept : PathSet
  Kept = set_of (set_paths (body_of n)) (λ p. not (has (listed (paths g)) p))

  has-kept : (p : Path) → has Kept p ≡ (has (body_of n) p && not (has (listed (paths g)) p))
  has-kept p =
      has-set_of (set_paths (body_of n)) (λ q. not (has (listed (paths g)) q)) p
      ∙ ap (λ b. b && not (has (listed (paths g)) p)) (sym (has-paths (body_of n) p))

  made-restricted : IsRestricted (set_paths Kept) n made
  made-restricted =
      without (set_paths Kept) (λ e p.
      sym (has-paths Kept (e ∷ p)) ∙ has-kept (e ∷ p)
      ∙ (λ i. is_some ((get-body n (e ∷ p) ∙ content-level n e p tree) i)
      && not ((has-listed (paths g) (e ∷ p) ∙ any-level same_path same_path-reading g e p) i)))

  -- a tree without places is a tree
  pub without-tree : is_tree made ≡ true
  without-tree = made-restricted.tree

  module _ (inner : has (listed (paths g)) [] ≡ false)
      (whole : (p q : Path) → has (listed (paths g)) p ≡ true → under p q ≡ true → has (body_of n) q ≡ true → has (listed (paths g)) q ≡ true) where
    agree : (p : Path) → has (body_of n) p ≡ true → (is_root p || has_at_or_below Kept p) ≡ not (has (listed (paths g)) p)
    agree [] here = sym (ap not inner)
    agree (e ∷ p) here =
        let q = e ∷ p in
        same_tests (has_at_or_below Kept q) (not (has (listed (paths g)) q))
        (λ h.
        let x = some_one (under q) (set_paths Kept) h in
        let facts = sym (has-kept x.0) ∙ has-paths Kept x.0 ∙ x.1 in
        ap not (apart_by (has (listed (paths g)) q) (λ k.
        yes_no (has (listed (paths g)) x.0) (whole q x.0 k x.2 (both_first (has (body_of n) x.0) _ facts))
        (not_true (has (listed (paths g)) x.0) (both_second (has (body_of n) x.0) _ facts)))))
        (λ h. here_below (set_paths Kept) q (sym (has-paths Kept q) ∙ has-kept q ∙ both (has (body_of n) q) _ here h))

    -- its body is the tree's body without the places that go
    pub without-body : body_of made ≡ restricted (body_of n) (λ p. not (has (listed (paths g)) p))
    without-body =
        body-part (set_paths Kept) n made made-restricted
        ∙ parts-agree n tree (λ p. is_root p || has_at_or_below Kept p) (λ p. not (has (listed (paths g)) p)) agree

-- with each place of a body that goes goes all that the body has below it
abbrev pub Whole : Body → PathSet → Type 0
Whole b gone = (p q : Path) → has gone p ≡ true → under p q ≡ true → has b q ≡ true → has gone q ≡ true

-- where this holds of a body and a set, it does of their trees
pub whole-trees : (n : Node) (g : Trie) (b : Body) (gone : PathSet) → body_of n ≡ b → listed (paths g) ≡ gone → Whole b gone
    → Whole (body_of n) (listed (paths g))
whole-trees n g b gone same gone_is whole = subst₂ (λ c s. Whole c s) (sym same) (sym gone_is) whole

-- where it holds of a tree's body, it does of the tree
pub whole-listed : (n : Node) (g : Trie) → Whole (body_of n) (listed (paths g)) → GoesWhole n (paths g)
whole-listed n g whole p q goes above place =
    sym (has-listed (paths g) q) ∙ whole p q (has-listed (paths g) p ∙ goes) above (ap is_some (get-body n q) ∙ place)
