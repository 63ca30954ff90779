-- What a live body loses where a configuration is put over it and places are given up, told by the points of the live body alone.
use Rattle.std.proofs.Common.{◌≡◌, [], ◌∷◌, Bool, true, false, not, ◌&&◌, ◌||◌, Option, Some, None, refl, sym, ap, subst, subst₂, ◌∙◌, true≢false}
use Rattle.std.specs.Cmp.{first_so, second_so}
use Rattle.std.specs.Prelude.{is_some}
use Rattle.std.specs.List.{list_any}
use Rattle.ssa_model.specs.definitions.Body.{Body, Content, leaf, atom, record_branch, dict_branch, list_branch, is_bare, is_dict, is_leaf, is_point, over, over_content, points, removed, strictly_under}
use Rattle.ssa_model.specs.definitions.Path.{Path, is_item, is_root, parent, same_element, under}
use Rattle.ssa_model.specs.definitions.PathMap.{PathSet, get, has, has_at_or_above, has_at_or_below, listed, set_of, union}
use Rattle.ssa_model.specs.definitions.PathMap.{paths as set_paths}
use Rattle.ssa_model.proofs.Basics.{and-true as and_true, both-true as both, none-there, not_true, or-false as or_false, or_true, yes_no}
use Rattle.ssa_model.proofs.Lists.{any-listed, has-listed}
use Rattle.ssa_model.proofs.PathMaps.{get-over, has-paths, has-points, has-set_of, has-union, is_one_of, same_sets}
use Rattle.ssa_model.proofs.Pruned.{IsClosed, closed-above, from_one, some_one, under-trans}
use Rattle.ssa_model.proofs.Tables.{either, element-itself as same_element-itself, has-over, has-restricted, true_or}
use Rattle.ssa_model.proofs.Tests.{by_test, same_tests}
use Rattle.ssa_path.specs.declared.trie.Trie.{Trie}
use Rattle.ssa_path.specs.Trie.{paths}
use Rattle.ssa_typed.specs.Alike.{are_alike, AreAlike}
use Rattle.ssa_typed.specs.Cut.{uncut}
use Rattle.ssa_typed.specs.LostWith.{left_with, AreFree, AreLost, IsFree}
use Rattle.ssa_typed.specs.Rows.{body_of, is_tree}
use Rattle.ssa_typed.specs.declared.node.Node.{Node}
use Rattle.ssa_typed.proofs.AnyTree.{tree-closed, tree-root}
use Rattle.ssa_typed.proofs.Cutting.{body-uncut, Staying}
use Rattle.ssa_typed.proofs.Looks.{get-body}
use Rattle.ssa_typed.proofs.LostPaths.{gone-point, left-point}
use Rattle.ssa_typed.proofs.Reached.{reached}
use Rattle.ssa_typed.proofs.RootedBodies.{dicts-over}

-- ---- what a set has at or below a path

-- where a set has a path, it has one at or below each place above it
pub below-one : (s : PathSet) (p q : Path) → has s q ≡ true → under p q ≡ true → has_at_or_below s p ≡ true
below-one s p q one u = from_one (under p) (set_paths s) q (sym (has-paths s q) ∙ one) u

-- a path that passes a test is one of the set, and the test holds of it
pub passed : (s : PathSet) (test : Path → Bool) (q : Path) → has (set_of (set_paths s) test) q ≡ true → (has s q ≡ true) × (test q ≡ true)
passed s test q one =
    let facts = sym (has-set_of (set_paths s) test q) ∙ one in
    (has-paths s q ∙ first_so (is_one_of (set_paths s) q) (test q) facts, second_so (is_one_of (set_paths s) q) (test q) facts)

-- a path of the set of which the test holds passes it
pub passes : (s : PathSet) (test : Path → Bool) (q : Path) → has s q ≡ true → test q ≡ true → has (set_of (set_paths s) test) q ≡ true
passes s test q one passing = has-set_of (set_paths s) test q ∙ (λ i. (sym (has-paths s q) ∙ one) i && passing i)

-- ---- one sort of content over another

no-dict : (c d : Content) → are_alike (Some c) (Some d) ≡ true → is_dict (Some d) ≡ false → is_dict (Some c) ≡ false
no-dict (leaf s) d h k = refl
no-dict (atom v) d h k = refl
no-dict record_branch d h k = refl
no-dict (list_branch es) d h k = refl
no-dict dict_branch (leaf s) h k = absurd (true≢false (sym h))
no-dict dict_branch (atom v) h k = absurd (true≢false (sym h))
no-dict dict_branch record_branch h k = absurd (true≢false (sym h))
no-dict dict_branch (list_branch es) h k = absurd (true≢false (sym h))
no-dict dict_branch dict_branch h k = absurd (true≢false k)

over-dict : (c d : Content) → is_dict (over_content (Some c) (Some d)) ≡ is_dict (Some d)
over-dict c (leaf s) = refl
over-dict c (atom v) = refl
over-dict c record_branch = refl
over-dict c dict_branch = refl
over-dict c (list_branch es) = refl

-- a Dict stays one, and nothing else becomes one
dict-over : (b d : Option Content) → are_alike b d ≡ true → is_some b ≡ true → is_dict (over_content b d) ≡ is_dict b
dict-over None d h there = absurd (true≢false (sym there))
dict-over (Some c) None h there = refl
dict-over (Some c) (Some d) h there =
    same_tests (is_dict (over_content (Some c) (Some d))) (is_dict (Some c)) (λ k. (dicts-over c d h k).0)
    (λ k. over-dict c d ∙ by_test (is_dict (Some d)) (λ t. t) (λ f. yes_no (is_dict (Some c)) k (no-dict c d h f)))

-- ---- the places that stay

module _ (live config : Body) (alike : AreAlike live config) (live_closed : IsClosed live) (config_closed : IsClosed config) where
  abbrev merged : Body
  merged = over live config

  -- a place that the configuration lacks is a point of the merged body where it is one of the live body
  module _ (x : Path) (away : has config x ≡ false) where
    there : has merged x ≡ has live x
    there = has-over live config x ∙ ap (λ b. has live x || b) away ∙ or_false (has live x)

    content : get merged x ≡ get live x
    content = get-over live config x ∙ ap (over_content (get live x)) (none-there (get config x) away)

    bare : is_bare merged x ≡ is_bare live x
    bare =
        ap not (same_tests (list_any (strictly_under x) (set_paths merged)) (list_any (strictly_under x) (set_paths live))
        (λ h.
        let y = some_one (strictly_under x) (set_paths merged) h in
        either (has live y.0) (has config y.0) (sym (has-over live config y.0) ∙ has-paths merged y.0 ∙ y.1)
        (λ k. from_one (strictly_under x) (set_paths live) y.0 (sym (has-paths live y.0) ∙ k) y.2)
        (λ k. yes_no (has config x) (closed-above config config_closed x y.0 k (first_so (under x y.0) (not (under y.0 x)) y.2)) away))
        (λ h.
        let y = some_one (strictly_under x) (set_paths live) h in
        from_one (strictly_under x) (set_paths merged) y.0
        (sym (has-paths merged y.0) ∙ has-over live config y.0 ∙ true_or (has live y.0) (has config y.0) (has-paths live y.0 ∙ y.1)) y.2))

    in-dict : has live x ≡ true → is_dict (get merged (parent x)) ≡ is_dict (get live (parent x))
    in-dict own =
        ap is_dict (get-over live config (parent x))
        ∙ dict-over (get live (parent x)) (get config (parent x)) (alike (parent x)) (closed-above live live_closed (parent x) x own (under-parent x))
      where
        under-parent : (p : Path) → under (parent p) p ≡ true
        under-parent [] = refl
        under-parent (e ∷ []) = refl
        under-parent (e ∷ f ∷ p) = both (same_element e e) (under (parent (f ∷ p)) (f ∷ p)) (same_element-itself e) (under-parent (f ∷ p))

    same-point : has (points merged) x ≡ has (points live) x
    same-point =
        has-points merged x
        ∙ by_test (has live x)
        (λ own i. there i && (not (is_root x) && (is_leaf (content i) || (is_item x || (in-dict own i || bare i)))))
        (λ none. (λ i. (there ∙ none) i && is_point merged x) ∙ (λ i. sym none i && is_point live x))
        ∙ sym (has-points live x)

  module _ (gone held : PathSet) (free : AreFree config gone held) where
    -- the configuration's points above the paths that go
    abbrev above : PathSet
    above = set_of (set_paths (points config)) (has_at_or_below gone)

    -- what stays by itself of the merged body
    abbrev left : PathSet
    left = uncut merged gone (union held above)

    -- what stays by itself of the live body
    abbrev own : PathSet
    own = uncut live gone held

    held-left : (x : Path) → has (union held above) x ≡ true → has left x ≡ true
    held-left x h =
        has-union (set_of (set_paths (points merged)) (λ p. not (has_at_or_above gone p))) (union held above) x
        ∙ or_true (has (set_of (set_paths (points merged)) (λ p. not (has_at_or_above gone p))) x) (has (union held above) x) h

    point-inner : (b : Body) (x : Path) → has (points b) x ≡ true → is_root x ≡ false
    point-inner b x h =
        not_true (is_root x) (first_so (not (is_root x)) _ (second_so (has b x) (is_point b x) (sym (has-points b x) ∙ h)))

    point-there : (b : Body) (x : Path) → has (points b) x ≡ true → has b x ≡ true
    point-there b x h = first_so (has b x) (is_point b x) (sym (has-points b x) ∙ h)

    -- a point at or below each place but the root
    point-below : (b : Body) (p : Path) → is_root p ≡ false → has b p ≡ true
        → (x : Path) × (has (points b) x ≡ true) × (under p x ≡ true)
    point-below b p inner here =
        let x = some_one (under p) (set_paths (points b)) (sym (ap (λ r. r || has_at_or_below (points b) p) inner) ∙ reached b p here) in
        (x.0, has-paths (points b) x.0 ∙ x.1, x.2)

    -- all of the configuration stays
    config-stays : (q : Path) → is_root q ≡ false → has config q ≡ true → has_at_or_below left q ≡ true
    config-stays q inner here =
        let c = point-below config q inner here in
        by_test (has_at_or_below gone c.0)
        (λ over_gone. below-one left q c.0 (held-left c.0 (has-union held above c.0
        ∙ or_true (has held c.0) (has above c.0) (passes (points config) (has_at_or_below gone) c.0 c.1 over_gone))) c.2)
        (λ free_below.
        let m = point-below merged c.0 (point-inner config c.0 c.1)
        (has-over live config c.0 ∙ or_true (has live c.0) (has config c.0) (point-there config c.0 c.1)) in
        by_test (has_at_or_above gone m.0)
        (λ goes.
        either (has_at_or_above gone c.0) (has_at_or_below gone c.0) (gone-point merged gone held c.0 m.0 m.2 goes)
        (λ k.
        let g = some_one (λ d. under d c.0) (set_paths gone) k in
        yes_no (has config g.0) (closed-above config config_closed g.0 c.0 (point-there config c.0 c.1) g.2) (free g.0 (has-paths gone g.0 ∙ g.1)).0)
        (λ k. yes_no (has_at_or_below gone c.0) k free_below))
        (λ stays. left-point merged gone (union held above) q m.0 m.1 (under-trans q c.0 m.0 c.2 m.2) stays))

    -- what stays by itself of the live body leaves each place above it
    own-stays : (q : Path) → is_root q ≡ false → has_at_or_below own q ≡ true → has_at_or_below left q ≡ true
    own-stays q inner h =
        let x = some_one (under q) (set_paths own) h in
        either (has (set_of (set_paths (points live)) (λ p. not (has_at_or_above gone p))) x.0) (has held x.0)
        (sym (has-union (set_of (set_paths (points live)) (λ p. not (has_at_or_above gone p))) held x.0) ∙ has-paths own x.0 ∙ x.1)
        (λ k.
        let facts = passed (points live) (λ p. not (has_at_or_above gone p)) x.0 k in
        by_test (has config x.0)
        (λ t.
        let y = some_one (under x.0) (set_paths left) (config-stays x.0 (point-inner live x.0 facts.0) t) in
        from_one (under q) (set_paths left) y.0 y.1 (under-trans q x.0 y.0 x.2 y.2))
        (λ away. left-point merged gone (union held above) q x.0 (same-point x.0 away ∙ facts.0) x.2 (not_true (has_at_or_above gone x.0) facts.1)))
        (λ k. below-one left q x.0 (held-left x.0 (has-union held above x.0 ∙ true_or (has held x.0) (has above x.0) k)) x.2)

    own-has : (q x : Path) → has own x ≡ true → under q x ≡ true → (has config q || has_at_or_below own q) ≡ true
    own-has q x one u = or_true (has config q) (has_at_or_below own q) (below-one own q x one u)

    config-has : (q x : Path) → has config x ≡ true → under q x ≡ true → (has config q || has_at_or_below own q) ≡ true
    config-has q x one u = true_or (has config q) (has_at_or_below own q) (closed-above config config_closed q x one u)

    -- nothing else stays
    left-has : (q : Path) → has_at_or_below left q ≡ true → (has config q || has_at_or_below own q) ≡ true
    left-has q h =
        let x = some_one (under q) (set_paths left) h in
        either (has (set_of (set_paths (points merged)) (λ p. not (has_at_or_above gone p))) x.0) (has (union held above) x.0)
        (sym (has-union (set_of (set_paths (points merged)) (λ p. not (has_at_or_above gone p))) (union held above) x.0) ∙ has-paths left x.0 ∙ x.1)
        (λ k.
        let facts = passed (points merged) (λ p. not (has_at_or_above gone p)) x.0 k in
        by_test (has config x.0) (λ t. config-has q x.0 t x.2)
        (λ away. own-has q x.0 (has-union (set_of (set_paths (points live)) (λ p. not (has_at_or_above gone p))) held x.0
        ∙ true_or (has (set_of (set_paths (points live)) (λ p. not (has_at_or_above gone p))) x.0) (has held x.0)
        (passes (points live) (λ p. not (has_at_or_above gone p)) x.0 (sym (same-point x.0 away) ∙ facts.0) facts.1)) x.2))
        (λ k. either (has held x.0) (has above x.0) (sym (has-union held above x.0) ∙ k)
        (λ j. own-has q x.0 (has-union (set_of (set_paths (points live)) (λ p. not (has_at_or_above gone p))) held x.0
        ∙ or_true (has (set_of (set_paths (points live)) (λ p. not (has_at_or_above gone p))) x.0) (has held x.0) j) x.2)
        (λ j. config-has q x.0 (point-there config x.0 (passed (points config) (has_at_or_below gone) x.0 j).0) x.2))

    module _ (rooted : has config [] ≡ true) where
      -- a place of the live body goes that the configuration lacks, and that has nothing at or below it that stays by itself
      pub places-go : (q : Path) → has (removed live (left_with live config gone held)) q ≡ (has live q && not (has config q || has_at_or_below own q))
      places-go q =
          has-set_of (set_paths live) (λ p. not (has (left_with live config gone held) p)) q
          ∙ (λ i. sym (has-paths live q) i && not (has-restricted merged (λ p. is_root p || has_at_or_below left p) q i))
          ∙ by_test (has live q)
          (λ here i. has live q && not (stays q here i))
          (λ none. (λ i. none i && not ((is_root q || has_at_or_below left q) && has merged q))
          ∙ (λ i. sym none i && not (has config q || has_at_or_below own q)))
        where
          stays : (q : Path) → has live q ≡ true → ((is_root q || has_at_or_below left q) && has merged q) ≡ (has config q || has_at_or_below own q)
          stays [] here =
              has-over live config [] ∙ true_or (has live []) (has config []) here
              ∙ sym (true_or (has config []) (has_at_or_below own []) rooted)
          stays (e ∷ p) here =
              let q = e ∷ p in
              (λ i. has_at_or_below left q && (has-over live config q ∙ true_or (has live q) (has config q) here) i)
              ∙ and_true (has_at_or_below left q)
              ∙ same_tests (has_at_or_below left q) (has config q || has_at_or_below own q) (left-has q)
              (λ h. either (has config q) (has_at_or_below own q) h (config-stays q refl) (own-stays q refl))

-- ---- THE BRIDGE: the paths that a body loses

-- the body of a tree is free of the paths of two tries where it is free of their sets
pub free-listed : (m : Node) (g k : Trie) (config : Body) (gone held : PathSet) → body_of m ≡ config → listed (paths g) ≡ gone → listed (paths k) ≡ held
    → AreFree config gone held → AreFree (body_of m) (listed (paths g)) (listed (paths k))
free-listed m g k config gone held same gone_is held_is free =
    subst (λ b. AreFree b (listed (paths g)) (listed (paths k))) (sym same) (subst₂ (λ s t. AreFree config s t) (sym gone_is) (sym held_is) free)

-- a tree is free where its body is
pub trees-free : (m : Node) (g k : Trie) → AreFree (body_of m) (listed (paths g)) (listed (paths k)) → IsFree (Some m) (paths g) (paths k)
trees-free m g k free x going =
    let facts = free x (has-listed (paths g) x ∙ going) in
    (sym (ap is_some (get-body m x)) ∙ facts.0, sym (any-listed (under x) (paths k)) ∙ facts.1)

-- what falls in a live tree is what its body loses
pub lost-listed : (n m : Node) (g k t : Trie) → is_tree n ≡ true → is_tree m ≡ true → AreAlike (body_of n) (body_of m)
    → AreFree (body_of m) (listed (paths g)) (listed (paths k)) → AreLost n m (paths g) (paths k) t
    → listed (paths t) ≡ removed (body_of n) (left_with (body_of n) (body_of m) (listed (paths g)) (listed (paths k)))
lost-listed n m g k t tree config_tree alike free h =
    same_sets _ _ (λ q.
    has-listed (paths t) q
    ∙ h.paths_are (set_paths (Staying n (paths g) (paths k))) (body-uncut n (paths g) (paths k) tree) q
    ∙ (λ i. is_some (sym (get-body n q) i)
    && not (is_some (sym (get-body m q) i) || has_at_or_below (Staying n (paths g) (paths k)) q))
    ∙ sym (places-go (body_of n) (body_of m) alike (tree-closed n tree) (tree-closed m config_tree) (listed (paths g)) (listed (paths k)) free (tree-root m) q))
