-- A node made of the children of one node over those of another.
use Rattle.std.proofs.Common.{◌≡◌, suc, ◌+◌, ◌*◌, ◌<◌, length, List, [], ◌∷◌, ◌++◌, Bool, true, false, not, ◌&&◌, cond, Option, Some, None, refl, sym, ap, subst, ◌∙◌, true≢false, arith, rules, Result, Ok, Err}
use Rattle.std.specs.Prelude.{filter, OnOk}
use Rattle.std.specs.List.{list_any}
use Rattle.ssa_model.specs.definitions.Body.{Content, leaf, atom, record_branch, dict_branch, list_branch, joined, laid, over_content, over, is_leaf, order_at}
use Rattle.ssa_model.specs.definitions.Kind.{is_among}
use Rattle.ssa_model.specs.definitions.Path.{Element, same_element, is_item_element}
use Rattle.ssa_model.proofs.PathMaps.{same_map, get-over}
use Rattle.ssa_path.specs.Children.{child_at, elements, rises}
use Rattle.ssa_path.specs.View.{element_view}
use Rattle.ssa_path.proofs.Orders.{both_first, both_second}
use Rattle.ssa_typed.specs.Alike.{are_alike, AreAlike}
use Rattle.ssa_typed.specs.Over.{AreAlikeBelow, AreAlikeTrees, IsOver, AreOver, AreOverInOrder, HaveOver}
use Rattle.ssa_typed.specs.Points.{content_in}
use Rattle.ssa_typed.specs.Rows.{body_of, rows, rows_below, below, below_of, content_of, own_content, leaf_content, is_tree, are_trees, are_apart, are_fields, are_items}
use Rattle.ssa_typed.specs.declared.node.Leaf.{Leaf}
use Rattle.ssa_typed.specs.declared.node.Leaf.TheVariants.{Scalar, Atomic}
use Rattle.ssa_typed.specs.declared.node.Node.{Node, Leaf as LeafOf, Branch, Dict, List as ListOf, the_lemmas}
use Rattle.ssa_typed.specs.declared.node.Node.TheOpen.{Node-F}
use Rattle.ssa_typed.specs.declared.node.Node.TheViews.{out-Node, roll-Node, roll-out-Node}
use Rattle.ssa_typed.proofs.Building.{Child}
use Rattle.ssa_typed.proofs.Levels.{Children, level-below, own-Branch, own-Dict, own-List, tree-Branch, tree-Dict, tree-List, rises-apart}
use Rattle.ssa_typed.proofs.Looks.{get-body}
use Rattle.ssa_typed.proofs.Lookups.{child_at-rest, content-root}
use Rattle.ssa_typed.proofs.Sizes.{length-level}
use Rattle.ssa_typed.proofs.Overlaying.{alike-below, alike-root, over-apart, over-level}
use Rattle.ssa_model.proofs.Fitting.{same_element-true}
use Rattle.ssa_model.proofs.Tables.{element-itself as same_element-itself}
use Rattle.ssa_model.proofs.Basics.{both-true as both, some≢none as some-none}

-- ---- contents of one sort

-- the content is a list's
unfoldable pub is_listing : Content → Bool
is_listing (list_branch es) = true
is_listing _ = false

leaf-alike : (c d : Content) → are_alike (Some c) (Some d) ≡ true → is_leaf (Some d) ≡ true → is_leaf (Some c) ≡ true
leaf-alike (leaf s) d h k = refl
leaf-alike (atom v) d h k = refl
leaf-alike record_branch (leaf s) h k = h
leaf-alike record_branch (atom v) h k = h
leaf-alike record_branch record_branch h k = k
leaf-alike record_branch dict_branch h k = k
leaf-alike record_branch (list_branch es) h k = k
leaf-alike dict_branch (leaf s) h k = h
leaf-alike dict_branch (atom v) h k = h
leaf-alike dict_branch record_branch h k = k
leaf-alike dict_branch dict_branch h k = k
leaf-alike dict_branch (list_branch es) h k = k
leaf-alike (list_branch fs) (leaf s) h k = h
leaf-alike (list_branch fs) (atom v) h k = h
leaf-alike (list_branch fs) record_branch h k = k
leaf-alike (list_branch fs) dict_branch h k = k
leaf-alike (list_branch fs) (list_branch es) h k = k

-- what is of one sort with a list is a list
pub list-alike : (c : Content) (es : List Element) → are_alike (Some c) (Some (list_branch es)) ≡ true → is_listing c ≡ true
unfolding is_listing
list-alike (leaf s) es h = h
list-alike (atom v) es h = h
list-alike record_branch es h = h
list-alike dict_branch es h = h
list-alike (list_branch fs) es h = refl

-- what is of one sort with a record is a record
pub record-alone : (c : Content) → are_alike (Some c) (Some record_branch) ≡ true → record_branch ≡ c
record-alone (leaf s) h = absurd (true≢false (sym h))
record-alone (atom v) h = absurd (true≢false (sym h))
record-alone record_branch h = refl
record-alone dict_branch h = absurd (true≢false (sym h))
record-alone (list_branch es) h = absurd (true≢false (sym h))

-- what is of one sort with a Dict is a Dict
pub dict-alone : (c : Content) → are_alike (Some c) (Some dict_branch) ≡ true → dict_branch ≡ c
dict-alone (leaf s) h = absurd (true≢false (sym h))
dict-alone (atom v) h = absurd (true≢false (sym h))
dict-alone record_branch h = absurd (true≢false (sym h))
dict-alone dict_branch h = refl
dict-alone (list_branch es) h = absurd (true≢false (sym h))

record-alike : (c : Content) → are_alike (Some c) (Some record_branch) ≡ true → is_listing c ≡ false
unfolding is_listing
record-alike c h = ap is_listing (sym (record-alone c h))

dict-alike : (c : Content) → are_alike (Some c) (Some dict_branch) ≡ true → is_listing c ≡ false
unfolding is_listing
dict-alike c h = ap is_listing (sym (dict-alone c h))

-- ---- what stands below a node of each sort

-- below a leaf's content is nothing
pub below-leaf : (x : Node-F Node) → is_leaf (Some (content_of x)) ≡ true → below_of x ≡ []
below-leaf (Node-F.Leaf l) h = refl
below-leaf (Node-F.Branch v) h = absurd (true≢false (sym h))
below-leaf (Node-F.Dict v) h = absurd (true≢false (sym h))
below-leaf (Node-F.List v) h = absurd (true≢false (sym h))

fields-made : (x : Node-F Node) → is_tree (roll-Node x) ≡ true → is_listing (content_of x) ≡ false → are_fields (elements (below_of x)) ≡ true
unfolding is_listing roll-Node denote.Hole.Carrier.roll
fields-made (Node-F.Leaf l) h k = refl
fields-made (Node-F.Branch v) h k = both_second (rises (elements v.items)) _ (both_first _ (are_trees v.items) (sym (tree-Branch v) ∙ h))
fields-made (Node-F.Dict v) h k = both_second (rises (elements v.items)) _ (both_first _ (are_trees v.items) (sym (tree-Dict v) ∙ h))
fields-made (Node-F.List v) h k = absurd (true≢false k)

items-made : (x : Node-F Node) → is_tree (roll-Node x) ≡ true → is_listing (content_of x) ≡ true → are_items (elements (below_of x)) ≡ true
unfolding is_listing roll-Node denote.Hole.Carrier.roll
items-made (Node-F.Leaf l) h k = refl
items-made (Node-F.Branch v) h k = absurd (true≢false (sym k))
items-made (Node-F.Dict v) h k = absurd (true≢false (sym k))
items-made (Node-F.List v) h k = both_second (are_apart (elements v.items)) _ (both_first _ (are_trees v.items) (sym (tree-List v) ∙ h))

listing-made : (x : Node-F Node) → is_listing (content_of x) ≡ true → content_of x ≡ list_branch (elements (below_of x))
unfolding is_listing
listing-made (Node-F.Leaf (Scalar s)) k = absurd (true≢false (sym k))
listing-made (Node-F.Leaf (Atomic v)) k = absurd (true≢false (sym k))
listing-made (Node-F.Branch v) k = absurd (true≢false (sym k))
listing-made (Node-F.Dict v) k = absurd (true≢false (sym k))
listing-made (Node-F.List v) k = refl

-- the order of a list is that of its items
pub order-made : (x : Node-F Node) → is_listing (content_of x) ≡ true → order_at (Some (content_of x)) ≡ elements (below_of x)
order-made x k = ap (λ c. order_at (Some c)) (listing-made x k)

rolled : (n : Node) → is_tree n ≡ true → is_tree (roll-Node (out-Node n)) ≡ true
rolled n h = ap is_tree (roll-out-Node n) ∙ h

-- ---- a test that each element passes

-- each of the elements passes the test
pub all_of : (Element → Bool) → List Element → Bool
all_of test [] = true
all_of test (e ∷ es) = test e && all_of test es

-- the element is no item's
abbrev pub is_field : Element → Bool
is_field e = not (is_item_element e)

-- elements are those of fields where each passes the test for one
pub fields-all : (es : List Element) → are_fields es ≡ all_of is_field es
unfolding all_of
fields-all [] = refl
fields-all (e ∷ es) = ap (λ b. is_field e && b) (fields-all es)

-- elements are those of items where each passes the test for one
pub items-all : (es : List Element) → are_items es ≡ all_of is_item_element es
unfolding all_of
items-all [] = refl
items-all (e ∷ es) = ap (λ b. is_item_element e && b) (items-all es)

module _ (test : Element → Bool) where
  -- elements that all pass a test do so, too, where some are left out
  pub all-filter : (q : Element → Bool) (es : List Element) → all_of test es ≡ true → all_of test (filter q es) ≡ true
  unfolding all_of
  all-filter q [] h = refl
  all-filter q (e ∷ es) h =
      elim (q e) as (λ b. all_of test (cond b (e ∷ filter q es) (filter q es)) ≡ true) [
        | true ↦ both _ _ (both_first (test e) _ h) (all-filter q es (both_second (test e) _ h))
        | false ↦ all-filter q es (both_second (test e) _ h)
      ]

  all-append : (es fs : List Element) → all_of test es ≡ true → all_of test fs ≡ true → all_of test (es ++ fs) ≡ true
  unfolding all_of
  all-append [] fs h k = k
  all-append (e ∷ es) fs h k = both _ _ (both_first (test e) _ h) (all-append es fs (both_second (test e) _ h) k)

  all-laid : (moves : Element → Bool) (es fs : List Element) → all_of test es ≡ true → all_of test fs ≡ true → all_of test (laid moves es fs) ≡ true
  unfolding all_of
  all-laid moves [] fs h k = k
  all-laid moves (e ∷ es) [] h k =
      elim (moves e) as (λ b. all_of test (cond b (laid moves es []) (e ∷ laid moves es [])) ≡ true) [
        | true ↦ all-laid moves es [] (both_second (test e) _ h) k
        | false ↦ both _ _ (both_first (test e) _ h) (all-laid moves es [] (both_second (test e) _ h) k)
      ]
  all-laid moves (e ∷ es) (f ∷ fs) h k =
      elim (moves e) as (λ b. all_of test (cond b (f ∷ laid moves es fs) (e ∷ laid moves es (f ∷ fs))) ≡ true) [
        | true ↦ both _ _ (both_first (test f) _ k) (all-laid moves es fs (both_second (test e) _ h) (both_second (test f) _ k))
        | false ↦ both _ _ (both_first (test e) _ h) (all-laid moves es (f ∷ fs) (both_second (test e) _ h) k)
      ]

  -- elements that pass a test do so where they are joined
  pub all-joined : (es fs : List Element) → all_of test es ≡ true → all_of test fs ≡ true → all_of test (joined es fs) ≡ true
  all-joined es fs h k =
      all-laid (λ e. is_among e fs) es (filter (λ f. is_among f es) fs ++ filter (λ f. not (is_among f es)) fs) h
      (all-append (filter (λ f. is_among f es) fs) (filter (λ f. not (is_among f es)) fs) (all-filter (λ f. is_among f es) fs k)
      (all-filter (λ f. not (is_among f es)) fs k))

  all-child : (cs : List Child) (e : Element) (c : Node) → all_of test (elements cs) ≡ true → child_at e cs ≡ Some c → test e ≡ true
  unfolding all_of
  all-child [] e c h found = absurd (some-none c (sym found))
  all-child (d ∷ cs) e c h found =
      elim (same_element e (element_view d.0)) as (λ b. same_element e (element_view d.0) ≡ b → cond b (Some d.1) (child_at e cs) ≡ Some c → test e ≡ true) [
        | true ↦ λ s k. ap test (same_element-true e (element_view d.0) s) ∙ both_first (test (element_view d.0)) _ h
        | false ↦ λ s k. all-child cs e c (both_second (test (element_view d.0)) _ h) k
      ] refl found

-- the first child is found under its element
pub head-child : (d : Child) (ds : List Child) → child_at (element_view d.0) (d ∷ ds) ≡ Some d.1
head-child d ds = ap (λ b. cond b (Some d.1) (child_at (element_view d.0) ds)) (same_element-itself (element_view d.0))

-- where elements are apart, the later children are found behind the first
pub later-child : (d : Child) (ds : List Child) (e : Element) (c : Node) → are_apart (elements (d ∷ ds)) ≡ true → child_at e ds ≡ Some c
    → child_at e (d ∷ ds) ≡ Some c
later-child d ds e c apart found =
    elim (same_element e (element_view d.0)) as (λ b. same_element e (element_view d.0) ≡ b → cond b (Some d.1) (child_at e ds) ≡ Some c) [
      | true ↦ λ s. absurd (some-none c (sym found ∙ child_at-rest e d ds s apart))
      | false ↦ λ s. found
    ] refl

later-apart : (d : Child) (ds : List Child) → are_apart (elements (d ∷ ds)) ≡ true → are_apart (elements ds) ≡ true
later-apart d ds apart = both_second (not (list_any (same_element (element_view d.0)) (elements ds))) _ apart

all-found : (test : Element → Bool) (ds : List Child) → are_apart (elements ds) ≡ true → ((e : Element) (c : Node) → child_at e ds ≡ Some c → test e ≡ true)
    → all_of test (elements ds) ≡ true
unfolding all_of
all-found test [] apart h = refl
all-found test (d ∷ ds) apart h =
    both _ _ (h (element_view d.0) d.1 (head-child d ds)) (all-found test ds (later-apart d ds apart) (λ e c found. h e c (later-child d ds e c apart found)))

-- ---- children over others

module _ (test : Element → Bool) (cs ds xs : List Child) (over : HaveOver cs ds xs) where
  over-either : (e : Element) (x : Node) (o q : Option Node) → all_of test (elements cs) ≡ true → all_of test (elements ds) ≡ true → child_at e cs ≡ o
      → child_at e ds ≡ q → child_at e xs ≡ Some x → test e ≡ true
  over-either e x (Some c) q h k own other found = all-child test cs e c h own
  over-either e x None (Some d) h k own other found = all-child test ds e d k other
  over-either e x None None h k own other found =
      absurd (some-none (own_content x)
      (sym (content-root x) ∙ ap (λ o. content_in o []) (sym found) ∙ over e [] ∙ (λ i. over_content (content_in (own i) []) (content_in (other i) []))))

  -- elements of children over others pass a test that those of both pass
  pub all-over : are_apart (elements xs) ≡ true → all_of test (elements cs) ≡ true → all_of test (elements ds) ≡ true → all_of test (elements xs) ≡ true
  all-over apart h k = all-found test xs apart (λ e x found. over-either e x (child_at e cs) (child_at e ds) h k refl refl found)

-- ---- each sort of node

-- a leaf itself is what it holds
pub own-Leaf : (l : Leaf) → own_content (LeafOf l) ≡ leaf_content l
own-Leaf l = search (rules, the_lemmas)

-- below a record are its fields
pub below-Branch : (v : Children) → below (Branch v) ≡ v.items
below-Branch v = search (rules, the_lemmas)

-- below a Dict are its entries
pub below-Dict : (v : Children) → below (Dict v) ≡ v.items
below-Dict v = search (rules, the_lemmas)

-- below a list are its items
pub below-List : (v : Children) → below (ListOf v) ≡ v.items
below-List v = search (rules, the_lemmas)

-- what a leaf holds is a leaf's content: a scalar or an atomic value
pub leaf-there : (l : Leaf) → is_leaf (Some (leaf_content l)) ≡ true
leaf-there (Scalar s) = refl
leaf-there (Atomic v) = refl

over-leaf : (b : Option Content) (l : Leaf) → over_content b (Some (leaf_content l)) ≡ Some (leaf_content l)
over-leaf b (Scalar s) = refl
over-leaf b (Atomic v) = refl

-- children over live ones are over equal live ones
pub over-live : (cs bs ds xs : List Child) → cs ≡ bs → AreOver cs ds xs → AreOver bs ds xs
over-live cs bs ds xs e h = subst (λ l. AreOver l ds xs) e h

-- so it is where they are put in order
pub order-live : (cs bs ds xs : List Child) → cs ≡ bs → AreOverInOrder cs ds xs → AreOverInOrder bs ds xs
order-live cs bs ds xs e h = subst (λ l. AreOverInOrder l ds xs) e h

module _ (n m : Node) (live : is_tree n ≡ true) (config : is_tree m ≡ true) (alike : AreAlikeTrees n m) where
  leaf-below : (x : Node) (l : Leaf) → own_content x ≡ leaf_content l → below x ≡ []
  leaf-below x l is = below-leaf (out-Node x) (ap (λ c. is_leaf (Some c)) is ∙ leaf-there l)

  no-children : (l : Leaf) → m ≡ LeafOf l → below n ≡ []
  no-children l is =
      below-leaf (out-Node n)
      (leaf-alike (own_content n) (own_content m) (alike-root n m alike) (ap (λ x. is_leaf (Some (own_content x))) is
      ∙ ap (λ c. is_leaf (Some c)) (own-Leaf l) ∙ leaf-there l))

  -- a leaf of the configuration stands over the live node as it is
  pub leaf-over : (l : Leaf) → m ≡ LeafOf l → IsOver n m (LeafOf l)
  leaf-over l is =
      let none_live = no-children l is in
      let own = ap own_content is ∙ own-Leaf l in
      let none_config = leaf-below m l own in
      let none : HaveOver (below n) (below m) (below m) = λ e p.
      ap (λ cs. content_in (child_at e cs) p) none_config
      ∙ (λ i. over_content (content_in (child_at e (sym none_live i)) p) (content_in (child_at e (sym none_config i)) p)) in
      subst (IsOver n m) is
      (over-level n m m live config config
      (ap (λ c. Some c) own ∙ sym (ap (λ c. over_content (Some (own_content n)) (Some c)) own ∙ over-leaf (Some (own_content n)) l)) none)

  -- children of both nodes, in the order of their elements
  stand-named : (cs : List Child) → is_listing (own_content n) ≡ false → is_listing (own_content m) ≡ false → AreOverInOrder (below n) (below m) cs
      → ((rises (elements cs) && are_fields (elements cs)) && are_trees cs) ≡ true
  stand-named cs a b h =
      let es = elements (below n) in
      let fs = elements (below m) in
      let fields = all-over is_field (below n) (below m) cs h.contents (rises-apart (elements cs) h.rise)
      (sym (fields-all es) ∙ fields-made (out-Node n) (rolled n live) a) (sym (fields-all fs) ∙ fields-made (out-Node m) (rolled m config) b) in
      both _ _ (both _ _ h.rise (fields-all (elements cs) ∙ fields)) h.trees

  apart-over : (cs : List Child) → AreOver (below n) (below m) cs → are_apart (elements cs) ≡ true
  apart-over cs h = over-apart (below n) (below m) cs ((level-below n).apart live) ((level-below m).apart config) h

  module _ (v w : Children) where
    -- a record of the fields of both, in order, is the configuration's over the live node
    pub record-over : m ≡ Branch w → AreOverInOrder (below n) w.items v.items → IsOver n m (Branch v)
    unfolding is_listing
    record-over is put =
        let own = ap own_content is ∙ own-Branch w in
        let h = subst (λ ds. AreOverInOrder (below n) ds v.items) (sym (ap below is ∙ below-Branch w)) put in
        let sort = record-alike (own_content n) (ap (λ c. are_alike (Some (own_content n)) (Some c)) (sym own) ∙ alike-root n m alike) in
        over-level n m (Branch v) live config (tree-Branch v ∙ stand-named v.items sort (ap is_listing own) h)
        (ap (λ c. Some c) (own-Branch v) ∙ sym (ap (λ c. over_content (Some (own_content n)) (Some c)) own))
        (λ e p. ap (λ cs. content_in (child_at e cs) p) (below-Branch v) ∙ h.contents e p)

    -- a Dict of the entries of both, in order, is the configuration's over the live node
    pub dict-over : m ≡ Dict w → AreOverInOrder (below n) w.items v.items → IsOver n m (Dict v)
    unfolding is_listing
    dict-over is put =
        let own = ap own_content is ∙ own-Dict w in
        let h = subst (λ ds. AreOverInOrder (below n) ds v.items) (sym (ap below is ∙ below-Dict w)) put in
        let sort = dict-alike (own_content n) (ap (λ c. are_alike (Some (own_content n)) (Some c)) (sym own) ∙ alike-root n m alike) in
        over-level n m (Dict v) live config (tree-Dict v ∙ stand-named v.items sort (ap is_listing own) h)
        (ap (λ c. Some c) (own-Dict v) ∙ sym (ap (λ c. over_content (Some (own_content n)) (Some c)) own))
        (λ e p. ap (λ cs. content_in (child_at e cs) p) (below-Dict v) ∙ h.contents e p)

    -- a list of the items of both, the live ones first, is the configuration's over the live node
    pub list-over : m ≡ ListOf w → AreOver (below n) w.items v.items → IsOver n m (ListOf v)
    unfolding is_listing
    list-over is put =
        let es = elements (below n) in
        let fs = elements (below m) in
        let own = ap own_content is ∙ own-List w in
        let below_is = ap below is ∙ below-List w in
        let h = subst (λ ds. AreOver (below n) ds v.items) (sym below_is) put in
        let items = ap elements below_is in
        let sort = list-alike (own_content n) (elements w.items) (ap (λ c. are_alike (Some (own_content n)) (Some c)) (sym own) ∙ alike-root n m alike) in
        let all_items =
        items-all (elements v.items) ∙ ap (all_of is_item_element) h.elements_are
        ∙ all-joined is_item_element es fs (sym (items-all es) ∙ items-made (out-Node n) (rolled n live) sort)
        (sym (items-all fs) ∙ items-made (out-Node m) (rolled m config) (ap is_listing own)) in
        over-level n m (ListOf v) live config (tree-List v ∙ both _ _ (both _ _ (apart-over v.items h) all_items) h.trees)
        (ap (λ c. Some c) (own-List v ∙ ap list_branch (h.elements_are ∙ (λ i. joined (sym (order-made (out-Node n) sort) i) (items i))))
        ∙ sym (ap (λ c. over_content (Some (own_content n)) (Some c)) own))
        (λ e p. ap (λ cs. content_in (child_at e cs) p) (below-List v) ∙ h.contents e p)

-- ---- what rises below a node

rises-made : (x : Node-F Node) → is_tree (roll-Node x) ≡ true → is_listing (content_of x) ≡ false → rises (elements (below_of x)) ≡ true
unfolding is_listing roll-Node denote.Hole.Carrier.roll
rises-made (Node-F.Leaf l) h k = refl
rises-made (Node-F.Branch v) h k = both_first _ (are_fields (elements v.items)) (both_first _ (are_trees v.items) (sym (tree-Branch v) ∙ h))
rises-made (Node-F.Dict v) h k = both_first _ (are_fields (elements v.items)) (both_first _ (are_trees v.items) (sym (tree-Dict v) ∙ h))
rises-made (Node-F.List v) h k = absurd (true≢false k)

module _ (n m : Node) (v : Children) (cs : List Child) (seen : cs ≡ below n) (live : is_tree n ≡ true) (alike : AreAlikeTrees n m) where
  live-rises : is_listing (own_content n) ≡ false → rises (elements cs) ≡ true
  live-rises sort = ap (λ l. rises (elements l)) seen ∙ rises-made (out-Node n) (rolled n live) sort

  -- where the configuration has a record, the live fields rise
  pub live-fields-rise : m ≡ Branch v → rises (elements cs) ≡ true
  live-fields-rise is =
      let own = ap own_content is ∙ own-Branch v in
      live-rises (record-alike (own_content n) (ap (λ c. are_alike (Some (own_content n)) (Some c)) (sym own) ∙ alike-root n m alike))

  -- where it has a Dict, the live entries rise
  pub live-entries-rise : m ≡ Dict v → rises (elements cs) ≡ true
  live-entries-rise is =
      let own = ap own_content is ∙ own-Dict v in
      live-rises (dict-alike (own_content n) (ap (λ c. are_alike (Some (own_content n)) (Some c)) (sym own) ∙ alike-root n m alike))

-- ---- going down to the children

-- a success gives what follows from what it gives
pub ok-gives : {A E : Type 0} {P Q : Type 0} (r : Result A E) → OnOk r P → (P → Q) → OnOk r Q
ok-gives (Ok x) h f = f h
ok-gives (Err e) h f = tt

-- what equals one node over another is that, too
pub left-over : (n m x y : Node) → x ≡ y → IsOver n m y → IsOver n m x
left-over n m x y e h = subst (IsOver n m) (sym e) h

module _ (n m : Node) (cs ds : List Child) (own : cs ≡ below n) (is : below m ≡ ds) (live : is_tree n ≡ true) (config : is_tree m ≡ true)
    (alike : AreAlikeTrees n m) where
  -- the walk over the live children is shorter than the walk at their node
  pub live-smaller : 4 * length (rows_below cs) + 2 < 4 * length (rows n)
  live-smaller = let long = length-level n ∙ ap (λ l. suc (length (rows_below l))) (sym own) in omega arith

  -- the configuration's children are trees
  pub config-trees : are_trees ds ≡ true
  config-trees = ap are_trees (sym is) ∙ (level-below m).trees config

  -- the configuration's children are apart
  pub config-apart : are_apart (elements ds) ≡ true
  config-apart = ap (λ l. are_apart (elements l)) (sym is) ∙ (level-below m).apart config

  -- where both nodes have a child, the two trees are alike
  pub children-alike : AreAlikeBelow cs ds
  children-alike = subst (AreAlikeBelow cs) is (subst (λ l. AreAlikeBelow l (below m)) (sym own) (alike-below n m live config alike))

-- the fields of a record that is a tree rise
pub record-rises : (m : Node) (v : Children) → m ≡ Branch v → is_tree m ≡ true → rises (elements v.items) ≡ true
record-rises m v is tree = both_first _ (are_fields (elements v.items)) (both_first _ (are_trees v.items) (sym (tree-Branch v) ∙ sym (ap is_tree is) ∙ tree))

-- the entries of a Dict that is a tree rise
pub dict-rises : (m : Node) (v : Children) → m ≡ Dict v → is_tree m ≡ true → rises (elements v.items) ≡ true
dict-rises m v is tree = both_first _ (are_fields (elements v.items)) (both_first _ (are_trees v.items) (sym (tree-Dict v) ∙ sym (ap is_tree is) ∙ tree))

-- ---- THE BRIDGE: one body over another

-- the body of one tree over another is the one body over the other
pub over-body : (n m made : Node) → IsOver n m made → body_of made ≡ over (body_of n) (body_of m)
over-body n m made h =
    same_map (body_of made) (over (body_of n) (body_of m)) (λ p.
    get-body made p ∙ h.content p ∙ sym (get-over (body_of n) (body_of m) p ∙ (λ i. over_content (get-body n p i) (get-body m p i))))

-- where two bodies are alike, so are their trees
pub alike-bodies : (n m : Node) → AreAlike (body_of n) (body_of m) → AreAlikeTrees n m
alike-bodies n m h p = sym (λ i. are_alike (get-body n p i) (get-body m p i)) ∙ h p
