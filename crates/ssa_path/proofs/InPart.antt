-- The children and the paths of a part.
use Rattle.std.proofs.Common.{◌≡◌, List, [], ◌∷◌, Bool, true, false, not, ◌&&◌, cond, Some, None, refl, sym, ap, ◌∙◌, true≢false}
use Rattle.std.specs.Prelude.{filter}
use Rattle.std.specs.Ordering.{is_lt}
use Rattle.ssa_model.specs.definitions.Parts.{Subresource, main, status, status_path, is_path_of}
use Rattle.ssa_model.specs.definitions.Path.{Element, Path, element_cmp, same_element, same_path, under}
use Rattle.ssa_model.specs.definitions.PathMap.{empty, listed, set_of, paths as set_paths}
use Rattle.ssa_model.proofs.Lists.{has-listed}
use Rattle.ssa_model.proofs.PathMaps.{has-paths, has-set_of, same_sets}
use Rattle.ssa_model.proofs.Basics.{and-true as and_true, and-false as and_false, both-true as both}
use Rattle.ssa_model.proofs.Fitting.{same_element-true}
use Rattle.ssa_model.proofs.Tables.{either}
use Rattle.ssa_path.specs.Children.{child_at, elements, is_below, rises}
use Rattle.ssa_path.specs.declared.element.Elem.{Elem}
use Rattle.ssa_path.specs.declared.trie.Trie.{Trie}
use Rattle.ssa_path.specs.declared.trie.Trie.TheOpen.{Trie-F}
use Rattle.ssa_path.specs.declared.trie.Trie.TheViews.{out-Trie, roll-Trie}
use Rattle.ssa_path.specs.Subresources.{are_in_part, in_part, other_part, IsPartOf, LiesIn}
use Rattle.ssa_path.specs.Trie.{are_filled_tries, is_filled, is_one_of, is_trie, paths, paths_below}
use Rattle.ssa_path.specs.View.{element_view}
use Rattle.ssa_path.proofs.Levels.{any-below, any-child, any-level, any-made, any-paths, found, is_trie-made, one-level-root, one-made-root, same_path-reading, trie-parts}
use Rattle.ssa_path.proofs.Orders.{both_first, both_second}

-- ---- elements of which some are left out

module _ (test : Element → Bool) where
  filter-below : (e : Element) (es : List Element) → is_below e es ≡ true → is_below e (filter test es) ≡ true
  filter-below e [] h = refl
  filter-below e (f ∷ es) h =
      elim (test f) as (λ b. is_below e (cond b (f ∷ filter test es) (filter test es)) ≡ true) [
        | true ↦ both _ _ (both_first _ _ h) (filter-below e es (both_second _ _ h))
        | false ↦ filter-below e es (both_second (is_lt (element_cmp e f)) _ h)
      ]

  -- elements that rise do so where some are left out
  pub filter-rises : (es : List Element) → rises es ≡ true → rises (filter test es) ≡ true
  filter-rises [] h = refl
  filter-rises (e ∷ es) h =
      elim (test e) as (λ b. rises (cond b (e ∷ filter test es) (filter test es)) ≡ true) [
        | true ↦ both _ _ (filter-below e es (both_first _ _ h)) (filter-rises es (both_second _ _ h))
        | false ↦ filter-rises es (both_second (is_below e es) _ h)
      ]

-- ---- the children of a part

-- the path behind an element is of the part just where the element is
pub side : (s : Subresource) (e : Element) (p : Path) → is_path_of s (e ∷ p) ≡ is_path_of s (e ∷ [])
side main e p = refl
side status e p = refl

module _ {A : Type 0} (s : Subresource) where
  -- their elements are those of the part
  pub part-elements : (cs : List (Elem × A)) → elements (in_part s cs) ≡ filter (λ e. is_path_of s (e ∷ [])) (elements cs)
  part-elements [] = refl
  part-elements (c ∷ cs) =
      let e = element_view c.0 in
      elim (is_path_of s (e ∷ [])) as (λ b. elements (cond b (c ∷ in_part s cs) (in_part s cs))
      ≡ cond b (e ∷ filter (λ f. is_path_of s (f ∷ [])) (elements cs)) (filter (λ f. is_path_of s (f ∷ [])) (elements cs))) [
        | true ↦ λ i. e ∷ part-elements cs i
        | false ↦ part-elements cs
      ]

  -- the child of an element that is of the part
  pub part-child : (e : Element) (cs : List (Elem × A)) → is_path_of s (e ∷ []) ≡ true → child_at e (in_part s cs) ≡ child_at e cs
  part-child e [] h = refl
  part-child e (c ∷ cs) h =
      let f = element_view c.0 in
      elim (same_element e f) as (λ b. same_element e f ≡ b → child_at e (cond (is_path_of s (f ∷ [])) (c ∷ in_part s cs) (in_part s cs))
      ≡ cond b (Some c.1) (child_at e cs)) [
        | true ↦ λ same.
            ap (λ b. child_at e (cond b (c ∷ in_part s cs) (in_part s cs))) (ap (λ g. is_path_of s (g ∷ [])) (sym (same_element-true e f same)) ∙ h)
            ∙ ap (λ b. cond b (Some c.1) (child_at e (in_part s cs))) same
        | false ↦ λ other.
            elim (is_path_of s (f ∷ [])) as (λ b. child_at e (cond b (c ∷ in_part s cs) (in_part s cs)) ≡ child_at e cs) [
              | true ↦ ap (λ b. cond b (Some c.1) (child_at e (in_part s cs))) other ∙ part-child e cs h
              | false ↦ part-child e cs h
            ]
      ] refl

  -- of another element there is none
  pub other-child : (e : Element) (cs : List (Elem × A)) → is_path_of s (e ∷ []) ≡ false → child_at e (in_part s cs) ≡ None
  other-child e [] h = refl
  other-child e (c ∷ cs) h =
      let f = element_view c.0 in
      elim (is_path_of s (f ∷ [])) as (λ b. is_path_of s (f ∷ []) ≡ b → child_at e (cond b (c ∷ in_part s cs) (in_part s cs)) ≡ None) [
        | true ↦ λ own.
            elim (same_element e f) as (λ b. same_element e f ≡ b → cond b (Some c.1) (child_at e (in_part s cs)) ≡ None) [
              | true ↦ λ same. absurd (true≢false (sym own ∙ ap (λ g. is_path_of s (g ∷ [])) (sym (same_element-true e f same)) ∙ h))
              | false ↦ λ _. other-child e cs h
            ] refl
        | false ↦ λ _. other-child e cs h
      ] refl

-- the children of a part rise as all do
pub part-rises : {A : Type 0} (s : Subresource) (cs : List (Elem × A)) → rises (elements cs) ≡ true → rises (elements (in_part s cs)) ≡ true
part-rises s cs h = ap rises (part-elements s cs) ∙ filter-rises (λ e. is_path_of s (e ∷ [])) (elements cs) h

-- ---- the paths of a part

tries-stay : (s : Subresource) (cs : List (Elem × Trie)) → are_filled_tries cs ≡ true → are_filled_tries (in_part s cs) ≡ true
tries-stay s [] h = refl
tries-stay s (c ∷ cs) h =
    let rest = tries-stay s cs (both_second (is_trie c.1 && is_filled c.1) _ h) in
    elim (is_path_of s (element_view c.0 ∷ [])) as (λ b. are_filled_tries (cond b (c ∷ in_part s cs) (in_part s cs)) ≡ true) [
      | true ↦ both _ _ (both_first (is_trie c.1 && is_filled c.1) _ h) rest
      | false ↦ rest
    ]

module _ (s : Subresource) (old : Trie) (x : Trie-F Trie) (tree : is_trie old ≡ true) where
  abbrev old_below : List (Elem × Trie)
  old_below = (out-Trie old).below.items

  risen : rises (elements old_below) ≡ true
  risen = (trie-parts old old_below refl tree).0

  found-part : (e : Element) (p : Path) → found same_path (child_at e (in_part s old_below)) p ≡ (found same_path (child_at e old_below) p && is_path_of s (e ∷ p))
  found-part e p =
      elim (is_path_of s (e ∷ [])) as (λ b. is_path_of s (e ∷ []) ≡ b → found same_path (child_at e (in_part s old_below)) p
      ≡ (found same_path (child_at e old_below) p && is_path_of s (e ∷ p))) [
        | true ↦ λ own.
            ap (λ c. found same_path c p) (part-child s e old_below own)
            ∙ sym (ap (λ b. found same_path (child_at e old_below) p && b) (side s e p ∙ own) ∙ and_true _)
        | false ↦ λ other.
            ap (λ c. found same_path c p) (other-child s e old_below other)
            ∙ sym (ap (λ b. found same_path (child_at e old_below) p && b) (side s e p ∙ other) ∙ and_false _)
      ] refl

  -- a root's trie with the children of the part has the paths of the part
  pub part-trie : x.here ≡ ((out-Trie old).here && is_path_of s []) → x.below.items ≡ in_part s old_below → IsPartOf s old (roll-Trie x)
  part-trie here below = record {
    paths_are = at;
    trie = is_trie-made x (ap (λ cs. rises (elements cs)) below ∙ part-rises s old_below risen) (ap are_filled_tries below
        ∙ tries-stay s old_below (trie-parts old old_below refl tree).1);
  }
    where
      at : (p : Path) → is_one_of (paths (roll-Trie x)) p ≡ (is_one_of (paths old) p && is_path_of s p)
      at [] = one-made-root x ∙ here ∙ ap (λ b. b && is_path_of s []) (sym (one-level-root old))
      at (e ∷ p) =
          any-made same_path same_path-reading x e p ∙ ap (λ cs. is_one_of (paths_below cs) (e ∷ p)) below
          ∙ any-below same_path same_path-reading e (in_part s old_below) p (part-rises s old_below risen) ∙ found-part e p
          ∙ ap (λ b. b && is_path_of s (e ∷ p)) (sym (any-paths same_path same_path-reading old e p tree))

-- ---- all paths are of a part

child-of : (s : Subresource) (cs : List (Elem × Trie)) → are_in_part s cs ≡ true → (e : Element) (p : Path) → is_one_of (paths_below cs) (e ∷ p) ≡ true
    → is_path_of s (e ∷ []) ≡ true
child-of s [] all e p there = absurd (true≢false (sym there))
child-of s (c ∷ cs) all e p there =
    let f = element_view c.0 in
    either (same_element e f && is_one_of (paths c.1) p) (is_one_of (paths_below cs) (e ∷ p)) (sym (any-child same_path same_path-reading e c cs p) ∙ there)
    (λ here. ap (λ g. is_path_of s (g ∷ [])) (same_element-true e f (both_first (same_element e f) _ here)) ∙ both_first (is_path_of s (f ∷ [])) _ all)
    (λ later. child-of s cs (both_second (is_path_of s (f ∷ [])) _ all) e p later)

-- where the root itself and its children are of the part, all is
pub all-of : (s : Subresource) (t : Trie) → ((out-Trie t).here ≡ true → is_path_of s [] ≡ true) → are_in_part s (out-Trie t).below.items ≡ true → LiesIn s t
all-of s t here all [] there = here (sym (one-level-root t) ∙ there)
all-of s t here all (e ∷ p) there =
    side s e p ∙ child-of s (out-Trie t).below.items all e p (sym (any-level same_path same_path-reading t e p) ∙ there)

-- of paths that are all of the part none is outside it
pub none-outside : (s : Subresource) (t : Trie) → LiesIn s t → empty ≡ set_of (set_paths (listed (paths t))) (λ p. not (is_path_of s p))
none-outside s t all =
    same_sets _ _ (λ p.
    sym (has-set_of (set_paths (listed (paths t))) (λ q. not (is_path_of s q)) p
    ∙ ap (λ b. b && not (is_path_of s p)) (sym (has-paths (listed (paths t)) p) ∙ has-listed (paths t) p)
    ∙ elim (is_one_of (paths t) p) as (λ b. is_one_of (paths t) p ≡ b → (b && not (is_path_of s p)) ≡ false) [
      | true ↦ λ there. ap not (all p there)
      | false ↦ λ _. refl
    ] refl))

-- what is of the other part is not of this one
pub other-side : (s : Subresource) (p : Path) → is_path_of (other_part s) p ≡ not (is_path_of s p)
other-side main p = elim (under status_path p) as (λ b. b ≡ not (not b)) [ true ↦ refl | false ↦ refl ]
other-side status p = refl
