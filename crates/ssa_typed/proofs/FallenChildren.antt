-- Whether a live child goes itself, and with it the live tree's places.
use Rattle.std.proofs.Common.{◌≡◌, ◌≤◌, length, List, [], ◌∷◌, Bool, true, false, not, ◌&&◌, ◌||◌, cond, Option, Some, None, refl, sym, ap, ◌∙◌, true≢false, arith}
use Rattle.std.specs.Prelude.{is_some, ◌==◌}
use Rattle.std.specs.List.{list_any}
use Rattle.std.proofs.lemmas.Bool.Decides.{nat_tests}
use Rattle.ssa_model.specs.definitions.Kind.{is_among}
use Rattle.ssa_model.specs.definitions.Path.{Element, Path, same_element, same_path, under}
use Rattle.ssa_model.proofs.Basics.{and-true as and_true, both-true as both, first_false, none-there, not_true, or_true, second_false, some≢none}
use Rattle.ssa_model.proofs.Fitting.{same_element-true, some_there}
use Rattle.ssa_model.proofs.Pruned.{from_one, some_one}
use Rattle.ssa_model.proofs.Tables.{apart_by, either, element-itself as same_element-itself}
use Rattle.ssa_model.proofs.Tests.{by_test, same_tests}
use Rattle.ssa_path.specs.Children.{child_at, elements, rises}
use Rattle.ssa_path.specs.declared.element.Elem.{Elem}
use Rattle.ssa_path.specs.declared.trie.Trie.{Trie}
use Rattle.ssa_path.specs.declared.trie.Trie.TheOpen.{Trie-F}
use Rattle.ssa_path.specs.declared.trie.Trie.TheViews.{out-Trie, roll-Trie}
use Rattle.ssa_path.specs.Trie.{are_filled_tries, is_filled, is_one_of, is_trie, paths, paths_below}
use Rattle.ssa_path.specs.View.{element_view}
use Rattle.ssa_path.proofs.Levels.{any-level, any-made, any-root, is_trie-made, one-level-root, one-made-root, same_path-reading}
use Rattle.ssa_path.proofs.Lists.{length-elements}
use Rattle.ssa_path.proofs.Orders.{both_first, both_second}
use Rattle.ssa_path.proofs.Searching.{absent-below}
use Rattle.ssa_typed.specs.Cut.{goes, is_filled_in, is_point_at, paths_of, stays_by, AreUncut, IsUncut}
use Rattle.ssa_typed.specs.LostWith.{all_here, falls, tries_in, AreFallen, AreLost, IsFallen, IsFree}
use Rattle.ssa_typed.specs.Points.{content_in, is_in_dict, is_point_of, point_in, IsAllPlaces}
use Rattle.ssa_typed.specs.Rows.{below, content_at, is_tree, rows}
use Rattle.ssa_typed.specs.declared.node.Node.{Node}
use Rattle.ssa_typed.proofs.AnyTree.{closed-in}
use Rattle.ssa_typed.proofs.Counting.{no-more}
use Rattle.ssa_typed.proofs.Cutting.{all-go, child-filled, gone-left, goes-level, held-left, not-here, one-below, point-left, point-of, uncut-below}
use Rattle.ssa_typed.proofs.Leaving.{none-longer, none-under}
use Rattle.ssa_typed.proofs.Falling.{level-in, no-node}
use Rattle.ssa_typed.proofs.Levels.{level-below, rises-apart}
use Rattle.ssa_typed.proofs.Looks.{some-child}
use Rattle.ssa_typed.proofs.Lookups.{content-level, content-root}
use Rattle.ssa_typed.proofs.Restricting.{below_set}

-- ---- a child that goes with all that is below it

-- nothing of the configuration is there and nothing is held, so all of it falls
pub whole-falls : (point : Bool) (n : Node) (y : Option Node) (g : Trie) (o : Option Trie) (t : Trie) → (out-Trie g).here ≡ true
    → IsFree y (paths g) (paths_of o) → IsAllPlaces n t → IsFallen point n y (paths g) (paths_of o) t
whole-falls point n y g o t here free all = record { paths_are = held; trie = all.trie }
  where
    facts : (is_some (content_in y []) ≡ false) × (list_any (under []) (paths_of o) ≡ false)
    facts = free [] (one-level-root g ∙ here)

    unheld : (q : Path) → is_one_of (paths_of o) q ≡ false
    unheld q = apart_by (is_one_of (paths_of o) q) (λ k. true≢false (sym (from_one (under []) (paths_of o) q k refl) ∙ facts.1))

    away : (p : Path) → is_some (content_in y p) ≡ false
    away p = ap (λ x. is_some (content_in x p)) (no-node y facts.0)

    held : (ps : List Path) → IsUncut point n (paths g) (paths_of o) ps → (p : Path) → is_one_of (paths t) p ≡ falls ps n y p
    held ps u p =
        let none = none-under ps (λ q. u q ∙ gone-left (is_point_at point n q) (all-go g here q) ∙ unheld q) p in
        all.paths_are p
        ∙ sym ((λ i. is_some (content_at (rows n) p) && not (away p i || none i)) ∙ and_true (is_some (content_at (rows n) p)))

-- ---- tries that all have their own places

child-among : (e : Element) (ts : List (Elem × Trie)) → is_some (child_at e ts) ≡ is_among e (elements ts)
child-among e [] = refl
child-among e (t ∷ ts) =
    elim (same_element e (element_view t.0)) as (λ b. is_some (cond b (Some t.1) (child_at e ts)) ≡ (b || is_among e (elements ts)))
    [ true ↦ refl | false ↦ child-among e ts ]

here-child : (e : Element) (ts : List (Elem × Trie)) (t : Trie) → all_here ts ≡ true → child_at e ts ≡ Some t → (out-Trie t).here ≡ true
here-child e [] t h is = absurd (some≢none t (sym is))
here-child e (c ∷ ts) t h is =
    elim (same_element e (element_view c.0)) as (λ b. cond b (Some c.1) (child_at e ts) ≡ Some t → (out-Trie t).here ≡ true) [
      | true ↦ λ k. let same : c.1 ≡ t = cc in ap (λ x. (out-Trie x).here) (sym same) ∙ both_first (out-Trie c.1).here _ h
      | false ↦ λ k. here-child e ts t (both_second (out-Trie c.1).here _ h) k
    ] is

here-all : (ts : List (Elem × Trie)) → rises (elements ts) ≡ true → ((e : Element) (t : Trie) → child_at e ts ≡ Some t → (out-Trie t).here ≡ true)
    → all_here ts ≡ true
here-all [] rise h = refl
here-all (c ∷ ts) rise h =
    both (out-Trie c.1).here (all_here ts)
    (h (element_view c.0) c.1 (ap (λ b. cond b (Some c.1) (child_at (element_view c.0) ts)) (same_element-itself (element_view c.0))))
    (here-all ts (both_second _ _ rise) (λ e t is. h e t (
    elim (same_element e (element_view c.0)) as (λ b. same_element e (element_view c.0) ≡ b → cond b (Some c.1) (child_at e ts) ≡ Some t) [
      | true ↦ λ s. absurd (some≢none t (sym is ∙ absent-below e (element_view c.0) ts s (both_first _ _ rise)))
      | false ↦ λ s. is
    ] refl)))

-- ---- a child of which nothing stays by itself but what is below it

-- all so many children go
abbrev pub all_fall : List (Elem × Trie) → Node → Bool
all_fall ts n = (length ts == length (below n)) && all_here ts

module _ (n : Node) (g : Trie) (ts : List (Elem × Trie)) (tree : is_tree n ≡ true) (ps : List Path) (u : IsUncut false n (paths g) [] ps)
    (told : (e : Element) (p : Path) → is_one_of (paths_below ts) (e ∷ p) ≡ falls ps n None (e ∷ p)) (rise : rises (elements ts) ≡ true)
    (tries : are_filled_tries ts ≡ true) where
  own-here : (e : Element) → is_one_of (paths_below ts) (e ∷ []) ≡ is_one_of (paths_of (child_at e ts)) []
  own-here e = one-below e ts [] rise

  -- each of the tries is of a child
  of-child : (e : Element) → is_among e (elements ts) ≡ true → is_among e (elements (below n)) ≡ true
  of-child e one =
      let t = some_there (child_at e ts) (child-among e ts ∙ one) in
      let filled : is_filled t.0 ≡ true = both_second (is_trie t.0) _ (ap is_filled_in (sym t.1) ∙ child-filled e ts tries) in
      let x = some_one (under []) (paths t.0) (any-root (paths t.0) ∙ filled) in
      let there = both_first (is_some (content_at (rows n) (e ∷ x.0))) _
      (sym (told e x.0) ∙ one-below e ts x.0 rise ∙ ap (λ o. is_one_of (paths_of o) x.0) t.1 ∙ x.1) in
      sym (some-child n e) ∙ ap is_some (content-level n e [] tree)
      ∙ closed-in (child_at e (below n)) x.0 (sym (ap is_some (content-level n e x.0 tree)) ∙ there)

  no-more-tries : length ts ≤ length (below n)
  no-more-tries =
      let few = no-more (elements ts) (elements (below n)) (rises-apart (elements ts) rise) of-child in
      let long = length-elements ts in
      let children = length-elements (below n) in
      omega arith

  -- where all go, nothing below the child stays by itself
  none-left : all_fall ts n ≡ true → list_any (under []) ps ≡ false
  none-left all = apart_by (list_any (under []) ps) (λ k. let x = some_one (under []) ps k in at x.0 x.1)
    where
      among : (e : Element) → is_among e (elements (below n)) ≡ true → is_among e (elements ts) ≡ true
      among e one =
          by_test (is_among e (elements ts)) (λ h. h) (λ off.
          let few = no-more (e ∷ elements ts) (elements (below n)) (both (not (is_among e (elements ts))) _ (ap not off) (rises-apart (elements ts) rise))
          (λ f h. either (same_element f e) (is_among f (elements ts)) h (λ s. ap (λ x. is_among x (elements (below n))) (same f e s) ∙ one) (of-child f)) in
          let long = length-elements ts in
          let children = length-elements (below n) in
          let equal = both_first (length ts == length (below n)) _ all in
          absurd (grind (arith, nat_tests)))
        where
          same : (f e : Element) → same_element f e ≡ true → f ≡ e
          same f e s = same_element-true f e s

      at : (q : Path) → is_one_of ps q ≡ true → ⊥
      at [] one = true≢false (sym one ∙ u [])
      at (e ∷ r) one =
          let point = point-of (is_point_of (rows n) (e ∷ r)) (goes (paths g) (e ∷ r)) (sym (u (e ∷ r)) ∙ one) in
          let place = both_first (is_some (content_at (rows n) (e ∷ r))) _ point in
          let child = sym (some-child n e) ∙ ap is_some (content-level n e [] tree)
          ∙ closed-in (child_at e (below n)) r (sym (ap is_some (content-level n e r tree)) ∙ place) in
          let t = some_there (child_at e ts) (child-among e ts ∙ among e child) in
          let here = here-child e ts t.0 (both_second (length ts == length (below n)) _ all) t.1 in
          let fallen = sym (told e []) ∙ own-here e ∙ ap (λ o. is_one_of (paths_of o) []) t.1 ∙ one-level-root t.0 ∙ here in
          let none = not_true _ (both_second (is_some (content_at (rows n) (e ∷ []))) _ fallen) in
          true≢false (sym (from_one (under (e ∷ [])) ps (e ∷ r) one (both (same_element e e) true (same_element-itself e) refl)) ∙ none)

  -- where nothing below it stays by itself, all go
  all-left : list_any (under []) ps ≡ false → all_fall ts n ≡ true
  all-left none =
      let few = no-more (elements (below n)) (elements ts) ((level-below n).apart tree) (λ e one. sym (child-among e ts) ∙ (own e one).0) in
      let long = length-elements ts in
      let children = length-elements (below n) in
      let less = no-more-tries in
      let equal : (length ts == length (below n)) ≡ true = grind (arith, nat_tests) in
      both (length ts == length (below n)) (all_here ts) equal
      (here-all ts rise (λ e t is. sym (one-level-root t) ∙ ap (λ o. is_one_of (paths_of o) []) (sym is)
      ∙ (own e (of-child e (sym (child-among e ts) ∙ ap is_some is))).1))
    where
      own : (e : Element) → is_among e (elements (below n)) ≡ true
          → (is_some (child_at e ts) ≡ true) × (is_one_of (paths_of (child_at e ts)) [] ≡ true)
      own e one =
          let fallen : is_one_of (paths_of (child_at e ts)) [] ≡ true =
          sym (own-here e) ∙ told e [] ∙ (λ i. (some-child n e ∙ one) i && not (none-longer ps none (e ∷ []) i)) in
          (there (child_at e ts) fallen, fallen)
        where
          there : (o : Option Trie) → is_one_of (paths_of o) [] ≡ true → is_some o ≡ true
          there None h = absurd (true≢false (sym h))
          there (Some t) h = refl

  -- all go where nothing at or below the child stays by itself
  pub all-falls : all_fall ts n ≡ not (list_any (under []) ps)
  all-falls =
      same_tests (all_fall ts n) (not (list_any (under []) ps)) (λ h. ap not (none-left h))
      (λ h. all-left (not_true (list_any (under []) ps) h))

-- ---- the trie of a child

-- the child stays itself
abbrev pub stays_so : Bool → Option Node → Option Trie → Bool
stays_so point y o = point || (is_some y || is_some o)

module _ (point : Bool) (n : Node) (y : Option Node) (g : Trie) (o : Option Trie) (tree : is_tree n ≡ true) (filled : is_filled_in o ≡ true)
    (here : (out-Trie g).here ≡ false) where
  uncut-in : (ps : List Path) → IsUncut point n (paths g) (paths_of o) ps
      → AreUncut (is_in_dict n) (below n) (paths_below (below_set g)) (paths_below (tries_in o)) ps
  uncut-in ps u e p =
      uncut-below point n (paths g) (paths_of o) ps tree u e p
      ∙ (λ i. stays_by (point_in (is_in_dict n) e (child_at e (below n)) p) (goes-level g here e p i)
      (level-in same_path same_path-reading o e p i))

  held-there : (ps : List Path) → IsUncut point n (paths g) (paths_of o) ps → is_some o ≡ true → list_any (under []) ps ≡ true
  held-there ps u some =
      let t = some_there o some in
      let full = both_second (is_trie t.0) (is_filled t.0) (ap is_filled_in (sym t.1) ∙ filled) in
      let x = some_one (under []) (paths t.0) (any-root (paths t.0) ∙ full) in
      from_one (under []) ps x.0
      (u x.0 ∙ ap (λ q. stays_by (is_point_at point n x.0) (goes (paths g) x.0) (is_one_of (paths_of q) x.0)) t.1
      ∙ ap (stays_by (is_point_at point n x.0) (goes (paths g) x.0)) x.1 ∙ held-left (is_point_at point n x.0) (goes (paths g) x.0)) refl

  node-there : is_some y ≡ true → is_some (content_in y []) ≡ true
  node-there some = let m = some_there y some in ap (λ x. is_some (content_in x [])) m.1 ∙ ap is_some (content-root m.0)

  root-stays : (ps : List Path) → IsUncut point n (paths g) (paths_of o) ps → stays_so point y o ≡ true
      → (is_some (content_in y []) || list_any (under []) ps) ≡ true
  root-stays ps u stay =
      either point (is_some y || is_some o) stay
      (λ h. or_true (is_some (content_in y [])) _ (from_one (under []) ps [] (u [] ∙ point-left (is_one_of (paths_of o) []) h (not-here g here)) refl))
      (λ h. either (is_some y) (is_some o) h
      (λ k. ap (λ b. b || list_any (under []) ps) (node-there k))
      (λ k. or_true (is_some (content_in y [])) _ (held-there ps u k)))

  module _ (x : Trie-F Trie) (h : AreFallen n y (paths_below (below_set g)) (paths_below (tries_in o)) x.below.items)
      (itself : x.here ≡ (not (stays_so point y o) && all_fall x.below.items n)) where
    root-free : (ps : List Path) → IsUncut point n (paths g) (paths_of o) ps → stays_so point y o ≡ false
        → all_fall x.below.items n ≡ not (is_some (content_in y []) || list_any (under []) ps)
    root-free ps u free =
        let bare = first_false point _ free in
        let no_node = none-there y (first_false (is_some y) _ (second_false point _ free)) in
        let no_trie = none-there o (second_false (is_some y) _ (second_false point _ free)) in
        let alone : IsUncut false n (paths g) [] ps =
        λ q. u q ∙ (λ i. stays_by (is_point_at (bare i) n q) (goes (paths g) q) (is_one_of (paths_of (no_trie i)) q)) in
        all-falls n g x.below.items tree ps alone (λ e p. h.paths_are ps (uncut-in ps u) e p ∙ ap (λ m. falls ps n m (e ∷ p)) no_node) h.risen h.tries
        ∙ ap (λ m. not (is_some (content_in m []) || list_any (under []) ps)) (sym no_node)

    root-falls : (ps : List Path) → IsUncut point n (paths g) (paths_of o) ps → x.here ≡ falls ps n y []
    root-falls ps u =
        itself
        ∙ elim (stays_so point y o) as (λ b. stays_so point y o ≡ b
        → (not b && all_fall x.below.items n) ≡ not (is_some (content_in y []) || list_any (under []) ps)) [
          | true ↦ λ s. sym (ap not (root-stays ps u s))
          | false ↦ λ s. root-free ps u s
        ] refl
        ∙ ap (λ c. is_some c && not (is_some (content_in y []) || list_any (under []) ps)) (sym (content-root n))

    -- what falls below a child, and the child itself where it goes, make the trie of what falls there
    pub child-falls : IsFallen point n y (paths g) (paths_of o) (roll-Trie x)
    child-falls = record { paths_are = held; trie = is_trie-made x h.risen h.tries }
      where
        held : (ps : List Path) → IsUncut point n (paths g) (paths_of o) ps → (p : Path) → is_one_of (paths (roll-Trie x)) p ≡ falls ps n y p
        held ps u [] = one-made-root x ∙ root-falls ps u
        held ps u (e ∷ p) =
            any-made same_path same_path-reading x e p ∙ h.paths_are ps (uncut-in ps u) e p

-- ---- the trie of a live tree

-- the root of a configuration does not go
pub root-kept : (m : Node) (g : Trie) (held : List Path) → IsFree (Some m) (paths g) held → (out-Trie g).here ≡ false
root-kept m g held free =
    apart_by (out-Trie g).here (λ h. true≢false (sym (ap is_some (content-root m)) ∙ (free [] (one-level-root g ∙ h)).0))

-- what falls below the root makes the trie of what is lost
pub tree-falls : (n m : Node) (g k : Trie) (x : Trie-F Trie) → IsFree (Some m) (paths g) (paths k) → x.here ≡ false
    → AreFallen n (Some m) (paths_below (below_set g)) (paths_below (below_set k)) x.below.items → AreLost n m (paths g) (paths k) (roll-Trie x)
tree-falls n m g k x free stays h = record { paths_are = held; trie = is_trie-made x h.risen h.tries }
  where
    uncut : (ps : List Path) → AreUncut (is_in_dict n) (below n) (paths g) (paths k) ps
        → AreUncut (is_in_dict n) (below n) (paths_below (below_set g)) (paths_below (below_set k)) ps
    uncut ps u e p =
        u e p ∙ (λ i. stays_by (point_in (is_in_dict n) e (child_at e (below n)) p) (goes-level g (root-kept m g (paths k) free) e p i)
        (any-level same_path same_path-reading k e p i))

    held : (ps : List Path) → AreUncut (is_in_dict n) (below n) (paths g) (paths k) ps → (p : Path) → is_one_of (paths (roll-Trie x)) p ≡ falls ps n (Some m) p
    held ps u [] =
        one-made-root x ∙ stays
        ∙ sym (λ i. is_some (content-root n i) && not (is_some (content-root m i) || list_any (under []) ps))
    held ps u (e ∷ p) =
        any-made same_path same_path-reading x e p ∙ h.paths_are ps (uncut ps u) e p
