-- The part of a tree that stays, level by level.
use Rattle.std.proofs.Common.{◌≡◌, List, [], ◌∷◌, ◌++◌, Bool, true, false, ◌&&◌, cond, Option, Some, None, refl, sym, ap, ◌∙◌}
use Rattle.std.specs.Prelude.{filter, option_map, if◌then◌else◌}
use Rattle.std.specs.List.{list_any}
use Rattle.ssa_model.specs.definitions.Body.{Content, leaf, atom, record_branch, dict_branch, list_branch, restricted, restricted_content}
use Rattle.ssa_model.specs.definitions.Path.{Element, Path, is_item_element, same_element, under}
use Rattle.ssa_model.proofs.Fitting.{distinct-filter, same_element-true}
use Rattle.ssa_model.proofs.PathMaps.{get-restricted, same_map}
use Rattle.ssa_path.specs.Children.{child_at, elements, rises}
use Rattle.ssa_path.specs.declared.element.Elem.{Elem}
use Rattle.ssa_path.specs.declared.trie.Trie.{Trie}
use Rattle.ssa_path.specs.declared.trie.Trie.TheViews.{out-Trie}
use Rattle.ssa_path.specs.Trie.{are_filled_tries, is_filled, is_trie, paths, paths_below}
use Rattle.ssa_path.specs.View.{element_view}
use Rattle.ssa_path.proofs.InPart.{filter-rises}
use Rattle.ssa_path.proofs.Levels.{any-level, under-reading}
use Rattle.ssa_path.proofs.Orders.{both_first, both_second}
use Rattle.ssa_typed.specs.Points.{content_in}
use Rattle.ssa_typed.specs.Restricted.{stays, part_at, AreRestricted, IsRestricted}
use Rattle.ssa_typed.specs.Rows.{body_of, rows, below, own_content, content_at, is_tree, are_trees, are_apart, are_fields, are_items}
use Rattle.ssa_typed.specs.declared.node.Node.{Node, Branch, Dict, List as ListOf}
use Rattle.ssa_typed.proofs.Building.{Child}
use Rattle.ssa_typed.proofs.Levels.{Children, own-Branch, own-Dict, own-List, tree-Branch, tree-Dict, tree-List, level-below}
use Rattle.ssa_typed.proofs.Lookups.{content-level, content-root}
use Rattle.ssa_typed.proofs.Looks.{get-body}
use Rattle.ssa_typed.proofs.OverNodes.{below-Branch, below-Dict, below-List, all-filter, fields-all, items-all, is_field}
use Rattle.ssa_typed.proofs.Fitting.{apart-distinct}
use Rattle.ssa_model.proofs.Basics.{both-true as both}

-- ---- the content that stays, told by another test or from another place

content-shift : (f g : Path → Bool) (e : Element) (p : Path) (c : Content) → ((q : Path) → f (e ∷ q) ≡ g q)
    → restricted_content f (e ∷ p) c ≡ restricted_content g p c
content-shift f g e p (leaf s) h = refl
content-shift f g e p (atom v) h = refl
content-shift f g e p record_branch h = refl
content-shift f g e p dict_branch h = refl
content-shift f g e p (list_branch es) h = λ i. list_branch (filter (λ x. h (p ++ x ∷ []) i) es)

-- of nothing nothing stays
pub part-none : (f : Path → Bool) (p : Path) → part_at f p None ≡ None
part-none f p = elim (f p) as (λ b. ◌≡◌ {A = Option Content} (if b then None else None) None) [ true ↦ refl | false ↦ refl ]

-- where the place does not stay, nothing of it does
pub part-false : (f : Path → Bool) (p : Path) (c : Option Content) → f p ≡ false → part_at f p c ≡ None
part-false f p c h = ap (λ b. if b then option_map (restricted_content f p) c else None) h

-- tests that agree behind an element leave the same there
pub part-shift : (f g : Path → Bool) (e : Element) (p : Path) (c : Option Content) → ((q : Path) → f (e ∷ q) ≡ g q) → part_at f (e ∷ p) c ≡ part_at g p c
part-shift f g e p None h = part-none f (e ∷ p) ∙ sym (part-none g p)
part-shift f g e p (Some c) h = λ i. if h p i then Some (content-shift f g e p c h i) else None

-- ---- below a child of the set's tries

module _ (ts : List (Elem × Trie)) (rise : rises (elements ts) ≡ true) (tries : are_filled_tries ts ≡ true) where
  child-passes : (e : Element) (us : List (Elem × Trie)) (t : Trie) → are_filled_tries us ≡ true → child_at e us ≡ Some t → (is_trie t && is_filled t) ≡ true
  child-passes e [] t h s = cc
  child-passes e (u ∷ us) t h s =
      elim (same_element e (element_view u.0)) as (λ b. cond b (Some u.1) (child_at e us) ≡ Some t → (is_trie t && is_filled t) ≡ true) [
        | true ↦ λ k. let same : u.1 ≡ t = cc in ap (λ x. is_trie x && is_filled x) (sym same) ∙ both_first (is_trie u.1 && is_filled u.1) _ h
        | false ↦ λ k. child-passes e us t (both_second (is_trie u.1 && is_filled u.1) _ h) k
      ] s

  module _ (e : Element) (t : Trie) (there : child_at e ts ≡ Some t) where
    -- what the set has under an element is a trie
    pub trie-there : is_trie t ≡ true
    trie-there = both_first (is_trie t) _ (child-passes e ts t tries there)

-- ---- what stays of children, one by one

-- of no children none stay
pub none-stay : (ps : List Path) → AreRestricted ps [] []
none-stay ps = record { elements_are = refl; contents = λ e p. sym (part-none (stays ps) (e ∷ p)); trees = refl }

module _ (ps : List Path) (c : Child) (left : List Child) where
  -- the first child stays, as far as the paths say
  pub first-stays : (n : Node) (xs : List Child) → stays ps (element_view c.0 ∷ []) ≡ true
      → ((p : Path) → content_at (rows n) p ≡ part_at (stays ps) (element_view c.0 ∷ p) (content_at (rows c.1) p)) → is_tree n ≡ true
      → AreRestricted ps left xs → AreRestricted ps (c ∷ left) ((c.0, n) ∷ xs)
  first-stays n xs stay content tree h =
      let f = element_view c.0 in
      record {
        elements_are = (λ i. f ∷ h.elements_are i) ∙ sym (ap
            (λ b. cond b (f ∷ filter (λ e. stays ps (e ∷ [])) (elements left)) (filter (λ e. stays ps (e ∷ [])) (elements left))) stay);
        contents = λ e p.
            elim (same_element e f) as (λ b. same_element e f ≡ b
            → content_in (cond b (Some n) (child_at e xs)) p ≡ part_at (stays ps) (e ∷ p) (content_in (cond b (Some c.1) (child_at e left)) p)) [
              | true ↦ λ s. content p ∙ ap (λ g. part_at (stays ps) (g ∷ p) (content_at (rows c.1) p)) (sym (same_element-true e f s))
              | false ↦ λ s. h.contents e p
            ] refl;
        trees = both _ _ tree h.trees;
      }

  -- the first child goes
  pub first-goes : (xs : List Child) → ((q : Path) → stays ps (element_view c.0 ∷ q) ≡ false) → AreRestricted ps left xs → AreRestricted ps (c ∷ left) xs
  first-goes xs goes h =
      let f = element_view c.0 in
      record {
        elements_are = h.elements_are ∙ sym (ap (λ b. cond b (f ∷ filter (λ e. stays ps (e ∷ [])) (elements left))
            (filter (λ e. stays ps (e ∷ [])) (elements left))) (goes []));
        contents = λ e p.
            h.contents e p
            ∙ elim (same_element e f) as (λ b. same_element e f ≡ b
            → part_at (stays ps) (e ∷ p) (content_in (child_at e left) p)
            ≡ part_at (stays ps) (e ∷ p) (content_in (cond b (Some c.1) (child_at e left)) p)) [
              | true ↦ λ s.
                  let gone = ap (λ g. stays ps (g ∷ p)) (same_element-true e f s) ∙ goes p in
                  part-false (stays ps) (e ∷ p) (content_in (child_at e left) p) gone ∙ sym (part-false (stays ps) (e ∷ p) (content_at (rows c.1) p) gone)
              | false ↦ λ s. refl
            ] refl;
        trees = h.trees;
      }

-- ---- fewer elements stand as well as all

-- elements that are apart are so where some are left out
pub filter-apart : (test : Element → Bool) (es : List Element) → are_apart es ≡ true → are_apart (filter test es) ≡ true
filter-apart test es h = apart-distinct (filter test es) ∙ distinct-filter test es (sym (apart-distinct es) ∙ h)

-- so it is of those of fields
pub filter-fields : (test : Element → Bool) (es : List Element) → are_fields es ≡ true → are_fields (filter test es) ≡ true
filter-fields test es h = fields-all (filter test es) ∙ all-filter is_field test es (sym (fields-all es) ∙ h)

-- so it is of those of items
pub filter-items : (test : Element → Bool) (es : List Element) → are_items es ≡ true → are_items (filter test es) ≡ true
filter-items test es h = items-all (filter test es) ∙ all-filter is_item_element test es (sym (items-all es) ∙ h)

-- ---- the children of a node

module _ (n : Node) (cs : List Child) (is : below n ≡ cs) where
  -- the children of a tree are trees
  pub children-trees : is_tree n ≡ true → are_trees cs ≡ true
  children-trees tree = ap are_trees (sym is) ∙ (level-below n).trees tree

-- ---- a node of the children that stay

-- the children of a trie
abbrev pub below_set : Trie → List (Elem × Trie)
below_set t = (out-Trie t).below.items

-- paths below a node and those below its children say the same where these are told the same
module _ (ps bs : List Path) (same : (e : Element) (p : Path) → list_any (under (e ∷ p)) ps ≡ list_any (under (e ∷ p)) bs) where
  restricted-level : (n made : Node) (cs xs : List Child) → is_tree n ≡ true → is_tree made ≡ true
      → Some (own_content made) ≡ part_at (stays ps) [] (Some (own_content n))
      → below n ≡ cs → below made ≡ xs → AreRestricted bs cs xs → IsRestricted ps n made
  restricted-level n made cs xs tree new own is new_is h = record { content = at; tree = new }
    where
      at : (p : Path) → content_at (rows made) p ≡ part_at (stays ps) p (content_at (rows n) p)
      at [] = content-root made ∙ own ∙ ap (part_at (stays ps) []) (sym (content-root n))
      at (e ∷ p) =
          let f = stays bs in
          let g = stays ps in
          let c = content_at (rows n) (e ∷ p) in
          content-level made e p new ∙ ap (λ l. content_in (child_at e l) p) new_is ∙ h.contents e p
          ∙ ap (part_at f (e ∷ p)) (ap (λ l. content_in (child_at e l) p) (sym is) ∙ sym (content-level n e p tree))
          ∙ part-shift f (λ q. g (e ∷ q)) e p c (λ q. sym (same e q))
          ∙ sym (part-shift g (λ q. g (e ∷ q)) e p c (λ q. refl))

  module _ (n : Node) (v w : Children) (tree : is_tree n ≡ true) where
    abbrev AreLeft : Type 0
    AreLeft = AreRestricted bs v.items w.items

    abbrev test_below : Element → Bool
    test_below e = stays bs (e ∷ [])

    named-stand : AreLeft → ((rises (elements v.items) && are_fields (elements v.items)) && are_trees v.items) ≡ true
        → ((rises (elements w.items) && are_fields (elements w.items)) && are_trees w.items) ≡ true
    named-stand h old =
        let es = elements v.items in
        let stand = both_first (rises es && are_fields es) _ old in
        both _ _ (both _ _ (ap rises h.elements_are ∙ filter-rises test_below es (both_first (rises es) _ stand)) (ap are_fields h.elements_are
        ∙ filter-fields test_below es (both_second (rises es) _ stand))) h.trees

    -- a record of the fields that stay is what stays of the record
    pub record-restricted : n ≡ Branch v → AreLeft → IsRestricted ps n (Branch w)
    record-restricted is h =
        restricted-level n (Branch w) v.items w.items tree (tree-Branch w ∙ named-stand h (sym (tree-Branch v) ∙ sym (ap is_tree is) ∙ tree))
        (ap (λ c. Some c) (own-Branch w) ∙ sym (ap (λ c. part_at (stays ps) [] (Some c)) (ap own_content is ∙ own-Branch v)))
        (ap below is ∙ below-Branch v) (below-Branch w) h

    -- a Dict of the entries that stay is what stays of the Dict
    pub dict-restricted : n ≡ Dict v → AreLeft → IsRestricted ps n (Dict w)
    dict-restricted is h =
        restricted-level n (Dict w) v.items w.items tree (tree-Dict w ∙ named-stand h (sym (tree-Dict v) ∙ sym (ap is_tree is) ∙ tree))
        (ap (λ c. Some c) (own-Dict w) ∙ sym (ap (λ c. part_at (stays ps) [] (Some c)) (ap own_content is ∙ own-Dict v)))
        (ap below is ∙ below-Dict v) (below-Dict w) h

    -- a list of the items that stay is what stays of the list
    pub list-restricted : n ≡ ListOf v → AreLeft → IsRestricted ps n (ListOf w)
    list-restricted is h =
        let es = elements v.items in
        let old = sym (tree-List v) ∙ sym (ap is_tree is) ∙ tree in
        let stand = both_first (are_apart es && are_items es) _ old in
        let apart = ap are_apart h.elements_are ∙ filter-apart test_below es (both_first (are_apart es) _ stand) in
        let items = ap are_items h.elements_are ∙ filter-items test_below es (both_second (are_apart es) _ stand) in
        let order = h.elements_are ∙ (λ i. filter (λ e. sym (same e []) i) es) in
        restricted-level n (ListOf w) v.items w.items tree (tree-List w ∙ both _ _ (both _ _ apart items) h.trees)
        (ap (λ c. Some c) (own-List w ∙ ap list_branch order) ∙ sym (ap (λ c. part_at (stays ps) [] (Some c)) (ap own_content is ∙ own-List v)))
        (ap below is ∙ below-List v) (below-List w) h

-- a trie's paths below its root are those of its children
pub below-same : (t : Trie) (e : Element) (p : Path) → list_any (under (e ∷ p)) (paths t) ≡ list_any (under (e ∷ p)) (paths_below (below_set t))
below-same t e p = any-level under under-reading t e p

-- ---- THE BRIDGE: the part of a body

-- the body of what stays is the body's part at or above the paths, with the root
pub body-part : (ps : List Path) (n made : Node) → IsRestricted ps n made → body_of made ≡ restricted (body_of n) (stays ps)
body-part ps n made h =
    same_map (body_of made) (restricted (body_of n) (stays ps)) (λ p.
    get-body made p ∙ h.content p ∙ ap (part_at (stays ps) p) (sym (get-body n p)) ∙ sym (get-restricted (body_of n) (stays ps) p))
