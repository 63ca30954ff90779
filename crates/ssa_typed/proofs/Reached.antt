-- Each place of a body but its root is at or above one of its points, so a set with the points keeps it whole; a part is told by the places.
use Rattle.std.proofs.Common.{◌≡◌, ℕ, zero, suc, ◌+◌, ◌<◌, ◌≤◌, List, [], ◌∷◌, ◌++◌, length, Bool, true, false, not, ◌||◌, cond, Option, Some, None, refl, sym, ap, ◌∙◌, true≢false, arith}
use Rattle.std.specs.Prelude.{filter, option_map, is_some, if◌then◌else◌}
use Rattle.ssa_model.specs.definitions.Path.{Element, Path, is_item, is_item_element, is_root, parent, same_element, same_path, under}
use Rattle.ssa_model.specs.definitions.PathMap.{PathSet, get, has, has_at_or_below, paths}
use Rattle.ssa_model.specs.definitions.Kind.{is_among}
use Rattle.ssa_model.specs.definitions.Body.{Body, Content, leaf, atom, record_branch, dict_branch, list_branch, is_bare, is_dict, is_leaf, is_point, order_at, points, restricted, restricted_content, strictly_under}
use Rattle.ssa_model.proofs.Tests.{same_tests}
use Rattle.ssa_model.proofs.PutItems.{filter-members}
use Rattle.ssa_model.proofs.PathMaps.{get-restricted, has-paths, has-points, is_one_of, same_map, same_path-true}
use Rattle.ssa_model.proofs.Pruned.{from_one, some_one, under-rest, under-trans}
use Rattle.ssa_model.proofs.Tables.{either, here_below, true_or, element-itself as same_element-itself}
use Rattle.ssa_path.proofs.Orders.{both_first, both_second}
use Rattle.ssa_typed.specs.Reached.{PartsAreOfPlaces}
use Rattle.ssa_typed.specs.Rows.{body_of, is_tree}
use Rattle.ssa_typed.specs.declared.node.Node.{Node}
use Rattle.ssa_typed.proofs.AnyTree.{tree-beginning, tree-items, tree-root}
use Rattle.ssa_typed.proofs.Stands.{one_level}
use Rattle.ssa_model.proofs.Basics.{or_true, not_false, both-true as both}

-- ---- how long the paths are

deeper : (g p : Path) → strictly_under g p ≡ true → length g < length p
deeper [] [] h = absurd (true≢false (sym h))
deeper [] (f ∷ p) h = omega arith
deeper (e ∷ g) [] h = absurd (true≢false (sym h))
deeper (e ∷ g) (f ∷ p) h = let rest = deeper g p (both_second (same_element e f) _ (sym (one_level e f g p) ∙ h)) in omega arith

-- how long all the paths are, one behind the other
total : List Path → ℕ
total [] = 0
total (p ∷ ps) = length p + total ps

within-total : (ps : List Path) (q : Path) → is_one_of ps q ≡ true → length q ≤ total ps
unfolding total
within-total [] q h = absurd (true≢false (sym h))
within-total (p ∷ ps) q h =
    either (same_path q p) (is_one_of ps q) h
    (λ same. let long : length q ≡ length p = ap length (same_path-true q p same) in omega arith)
    (λ later. let rest = within-total ps q later in omega arith)

-- ---- a point at or below each place

longer-root : (p : Path) → 0 < length p → is_root p ≡ false
longer-root [] h = absurd (omega arith)
longer-root (e ∷ p) h = refl

module _ (b : Body) where
  bare-point : (p : Path) → is_root p ≡ false → is_bare b p ≡ true → is_point b p ≡ true
  bare-point p deep bare =
      both (not (is_root p)) _ (ap not deep) (or_true (is_leaf (get b p)) _ (or_true (is_item p) _ (or_true (is_dict (get b (parent p))) _ bare)))

  point-here : (p : Path) → has b p ≡ true → is_point b p ≡ true → has_at_or_below (points b) p ≡ true
  point-here p there point = here_below (paths (points b)) p (sym (has-paths (points b) p) ∙ has-points b p ∙ both (has b p) (is_point b p) there point)

  reach : (most : ℕ) (p : Path) → total (paths b) < length p + most → is_root p ≡ false → has b p ≡ true → has_at_or_below (points b) p ≡ true
  reach zero p bound deep there = let long = within-total (paths b) p (sym (has-paths b p) ∙ there) in absurd (omega arith)
  reach (suc most) p bound deep there =
      elim (is_bare b p) as (λ t. is_bare b p ≡ t → has_at_or_below (points b) p ≡ true) [
        | true ↦ λ bare. point-here p there (bare-point p deep bare)
        | false ↦ λ more.
            let q = some_one (strictly_under p) (paths b) (not_false _ more) in
            let long = deeper p q.0 q.2 in
            let next = reach most q.0 (omega arith) (longer-root q.0 (omega arith)) (has-paths b q.0 ∙ q.1) in
            let x = some_one (under q.0) (paths (points b)) next in
            from_one (under p) (paths (points b)) x.0 x.1 (under-trans p q.0 x.0 (both_first (under p q.0) _ q.2) x.2)
      ] refl

  -- each place of a body is the root, or at or above a point
  pub reached : (p : Path) → has b p ≡ true → (is_root p || has_at_or_below (points b) p) ≡ true
  reached p there =
      elim (is_root p) as (λ t. is_root p ≡ t → (t || has_at_or_below (points b) p) ≡ true) [
        | true ↦ λ root. refl
        | false ↦ λ deep. reach (suc (total (paths b))) p (omega arith) deep there
      ] refl

-- ---- the places of a tree

module _ (n : Node) (tree : is_tree n ≡ true) where
  at-root : (p : Path) → is_root p ≡ true → has (body_of n) p ≡ true
  at-root [] h = tree-root n
  at-root (e ∷ p) h = absurd (true≢false (sym h))

  above-point : (p : Path) → has_at_or_below (points (body_of n)) p ≡ true → has (body_of n) p ≡ true
  above-point p h =
      let x = some_one (under p) (paths (points (body_of n))) h in
      let rest = under-rest p x.0 x.2 in
      let there = both_first (has (body_of n) x.0) _ (sym (has-points (body_of n) x.0) ∙ has-paths (points (body_of n)) x.0 ∙ x.1) in
      tree-beginning n tree p rest.0 (ap (has (body_of n)) (sym rest.1) ∙ there)

  -- a tree's body has the root, what is at or above its points, and nothing else
  pub tree-places : (p : Path) → has (body_of n) p ≡ (is_root p || has_at_or_below (points (body_of n)) p)
  tree-places p =
      same_tests (has (body_of n) p) (is_root p || has_at_or_below (points (body_of n)) p) (reached (body_of n) p)
      (λ h. either (is_root p) (has_at_or_below (points (body_of n)) p) h (at-root p) (above-point p))

-- ---- a set with all the points

-- where all elements pass a test, it leaves none of them out
pub all-pass : (test : Element → Bool) (es : List Element) → ((e : Element) → is_among e es ≡ true → test e ≡ true) → filter test es ≡ es
all-pass test [] h = refl
all-pass test (e ∷ es) h =
    ap (λ b. cond b (e ∷ filter test es) (filter test es)) (h e (true_or (same_element e e) (is_among e es) (same_element-itself e)))
    ∙ ap (λ fs. e ∷ fs) (all-pass test es (λ f among. h f (or_true (same_element f e) (is_among f es) among)))

whole-content : (test : Path → Bool) (p : Path) (c : Content) → ((e : Element) → is_among e (order_at (Some c)) ≡ true → test (p ++ e ∷ []) ≡ true)
    → restricted_content test p c ≡ c
whole-content test p (leaf s) h = refl
whole-content test p (atom v) h = refl
whole-content test p record_branch h = refl
whole-content test p dict_branch h = refl
whole-content test p (list_branch es) h = ap list_branch (all-pass (λ e. test (p ++ e ∷ [])) es h)

module _ (n : Node) (tree : is_tree n ≡ true) (test : Path → Bool) (all : (p : Path) → has (body_of n) p ≡ true → test p ≡ true) where
  item-stays : (p : Path) (e : Element) → is_among e (order_at (get (body_of n) p)) ≡ true → test (p ++ e ∷ []) ≡ true
  item-stays p e among = all (p ++ e ∷ []) (both_second (is_item_element e) _ (sym (tree-items n tree p e) ∙ among))

  -- where all places of a tree pass a test, what it has at a path stays whole
  pub part-whole : (p : Path) (o : Option Content) → get (body_of n) p ≡ o → (if test p then option_map (restricted_content test p) o else None) ≡ o
  part-whole p None is = elim (test p) as (λ b. ◌≡◌ {A = Option Content} (if b then None else None) None) [ true ↦ refl | false ↦ refl ]
  part-whole p (Some c) is =
      ap (λ b. if b then Some (restricted_content test p c) else None) (all p (ap is_some is))
      ∙ ap (λ d. Some d) (whole-content test p c (λ e among. item-stays p e (ap (λ o. is_among e (order_at o)) is ∙ among)))

module _ (n : Node) (tree : is_tree n ≡ true) (stay : PathSet) (all : (p : Path) → has (points (body_of n)) p ≡ true → has stay p ≡ true) where
  abbrev test : Path → Bool
  test p = is_root p || has_at_or_below stay p

  place-stays : (p : Path) → has (body_of n) p ≡ true → test p ≡ true
  place-stays p there =
      either (is_root p) (has_at_or_below (points (body_of n)) p) (reached (body_of n) p there)
      (true_or (is_root p) (has_at_or_below stay p))
      (λ below.
      let x = some_one (under p) (paths (points (body_of n))) below in
      or_true (is_root p) (has_at_or_below stay p) (from_one (under p) (paths stay) x.0 (sym (has-paths stay x.0)
      ∙ all x.0 (has-paths (points (body_of n)) x.0 ∙ x.1)) x.2))

  -- where all points of a tree stay, all of its body stays
  pub tree-kept : restricted (body_of n) test ≡ body_of n
  tree-kept =
      same_map (restricted (body_of n) test) (body_of n) (λ p. get-restricted (body_of n) test p
      ∙ part-whole n tree test place-stays p (get (body_of n) p) refl)

-- ---- tests that agree at each place

-- tests that agree on the items leave the same of a content
pub same-content : (f g : Path → Bool) (p : Path) (c : Content) → ((e : Element) → is_among e (order_at (Some c)) ≡ true → f (p ++ e ∷ []) ≡ g (p ++ e ∷ []))
    → restricted_content f p c ≡ restricted_content g p c
same-content f g p (leaf s) h = refl
same-content f g p (atom v) h = refl
same-content f g p record_branch h = refl
same-content f g p dict_branch h = refl
same-content f g p (list_branch es) h = ap list_branch (filter-members (λ e. f (p ++ e ∷ [])) (λ e. g (p ++ e ∷ [])) es h)

module _ (n : Node) (tree : is_tree n ≡ true) (f g : Path → Bool) (agree : (p : Path) → has (body_of n) p ≡ true → f p ≡ g p) where
  items-agree : (p : Path) (e : Element) → is_among e (order_at (get (body_of n) p)) ≡ true → f (p ++ e ∷ []) ≡ g (p ++ e ∷ [])
  items-agree p e among = agree (p ++ e ∷ []) (both_second (is_item_element e) _ (sym (tree-items n tree p e) ∙ among))

  part-agrees : (p : Path) (o : Option Content) → get (body_of n) p ≡ o
      → (if f p then option_map (restricted_content f p) o else None) ≡ (if g p then option_map (restricted_content g p) o else None)
  part-agrees p None is =
      let none = λ (b : Bool). elim b as (λ t. ◌≡◌ {A = Option Content} (if t then None else None) None) [ true ↦ refl | false ↦ refl ] in
      none (f p) ∙ sym (none (g p))
  part-agrees p (Some c) is =
      let same = same-content f g p c (λ e among. items-agree p e (ap (λ o. is_among e (order_at o)) is ∙ among)) in
      let test = agree p (ap is_some is) in
      λ i. if test i then Some (same i) else None

  -- where tests agree at each place of a tree, the same part of its body passes them
  pub parts-agree : restricted (body_of n) f ≡ restricted (body_of n) g
  parts-agree =
      same_map (restricted (body_of n) f) (restricted (body_of n) g) (λ p.
      get-restricted (body_of n) f p ∙ part-agrees p (get (body_of n) p) refl ∙ sym (get-restricted (body_of n) g p))

-- the part of a tree's body is told by its places alone
pub tree-parts : (n : Node) → is_tree n ≡ true → PartsAreOfPlaces (body_of n)
tree-parts n tree s t alike =
    parts-agree n tree (λ p. is_root p || has_at_or_below s p) (λ p. is_root p || has_at_or_below t p) (λ p there. ap (λ b. is_root p || b) (alike p there))
