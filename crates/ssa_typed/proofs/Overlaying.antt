-- One tree over another, level by level.
use Rattle.std.proofs.Common.{◌≡◌, ℕ, zero, suc, arith, ◌<◌, List, [], ◌∷◌, ◌++◌, length, get_or, map, Bool, true, false, not, ◌||◌, cond, Option, Some, None, option_map, refl, sym, ap, ◌∙◌}
use Rattle.std.specs.Prelude.{filter}
use Rattle.std.specs.List.{list_any}
use Rattle.ssa_model.specs.definitions.Body.{Content, leaf, atom, record_branch, dict_branch, list_branch, joined, over_content}
use Rattle.ssa_model.specs.definitions.Kind.{is_among}
use Rattle.ssa_model.specs.definitions.Path.{Element, Path, same_element}
use Rattle.ssa_model.specs.definitions.Record.{are_in_one_order}
use Rattle.ssa_model.proofs.Fitting.{distinct-joined, same_element-true}
use Rattle.ssa_model.proofs.Joining.{joined-in-order, none-of}
use Rattle.ssa_path.specs.Children.{child_at, elements}
use Rattle.ssa_path.specs.declared.element.Elem.{Elem}
use Rattle.ssa_path.specs.View.{element_view}
use Rattle.ssa_path.proofs.Orders.{both_second}
use Rattle.ssa_typed.specs.Alike.{are_alike}
use Rattle.ssa_typed.specs.Copies.{kept}
use Rattle.ssa_typed.specs.MergedOrder.{MergedChild, is_new, live_child, new_child, merged}
use Rattle.ssa_typed.specs.Over.{AreAlikeBelow, AreAlikeTrees, IsOver, AreOver, HaveOver}
use Rattle.ssa_typed.specs.Points.{content_in}
use Rattle.ssa_typed.specs.Rows.{rows, below, own_content, content_at, is_tree, are_trees, are_apart}
use Rattle.ssa_typed.specs.declared.node.Node.{Node}
use Rattle.ssa_typed.proofs.Building.{Child}
use Rattle.ssa_typed.proofs.Copying.{kept-rows, kept-tree}
use Rattle.ssa_typed.proofs.Lookups.{content-level, content-root, child_at-rest}
use Rattle.ssa_model.proofs.Tables.{element-itself as same_element-itself}
use Rattle.ssa_typed.proofs.Fitting.{apart-distinct}
use Rattle.ssa_model.proofs.Basics.{both-true as both, some≢none as some-none}

-- ---- going down

-- the children of one element below alike trees are alike
pub alike-child : (n m : Node) (e : Element) (c d : Node) → is_tree n ≡ true → is_tree m ≡ true → child_at e (below n) ≡ Some c
    → child_at e (below m) ≡ Some d → AreAlikeTrees n m → AreAlikeTrees c d
alike-child n m e c d live config is_c is_d h p =
    sym (λ i. are_alike ((content-level n e p live ∙ ap (λ x. content_in x p) is_c) i) ((content-level m e p config ∙ ap (λ x. content_in x p) is_d) i))
    ∙ h (e ∷ p)

-- below alike trees, what both have is alike
pub alike-below : (n m : Node) → is_tree n ≡ true → is_tree m ≡ true → AreAlikeTrees n m → AreAlikeBelow (below n) (below m)
alike-below n m live config h e c d is_c is_d = alike-child n m e c d live config is_c is_d h

-- the roots of alike trees are of one sort
pub alike-root : (n m : Node) → AreAlikeTrees n m → are_alike (Some (own_content n)) (Some (own_content m)) ≡ true
alike-root n m h = sym (λ i. are_alike (content-root n i) (content-root m i)) ∙ h []

-- ---- each child over what the configuration has over it

-- what is made of a merged child: the configuration's node over the live one
pub record IsMade (p : MergedChild) (x : Child) : Type 0 where
  -- it stands under the child's element
  pub element : element_view x.0 ≡ element_view p.0
  -- at each path stands the configuration's content over the live one
  pub content : (q : Path) → content_at (rows x.1) q ≡ over_content (content_at (rows p.1.0) q) (content_in p.1.1 q)
  -- it is a tree
  pub tree : is_tree x.1 ≡ true

-- a child is made of each merged one, in their order
abbrev pub AreMade : List MergedChild → List Child → Type 0
AreMade [] [] = Unit {0}
AreMade [] (x ∷ xs) = ⊥
AreMade (p ∷ ps) [] = ⊥
AreMade (p ∷ ps) (x ∷ xs) = IsMade p x × AreMade ps xs

-- one child more is made
pub made-push : (ps : List MergedChild) (xs : List Child) (p : MergedChild) (x : Child) → AreMade ps xs → IsMade p x → AreMade (ps ++ p ∷ []) (xs ++ x ∷ [])
made-push [] [] p x h one = (one, tt)
made-push [] (y ∷ xs) p x h one = absurd h
made-push (r ∷ ps) [] p x h one = absurd h
made-push (r ∷ ps) (y ∷ xs) p x h one = (h.0, made-push ps xs p x h.1 one)

made-elements : (ps : List MergedChild) (xs : List Child) → AreMade ps xs → elements xs ≡ elements ps
made-elements [] [] h = refl
made-elements [] (x ∷ xs) h = absurd h
made-elements (p ∷ ps) [] h = absurd h
made-elements (p ∷ ps) (x ∷ xs) h = λ i. h.0.element i ∷ made-elements ps xs h.1 i

made-trees : (ps : List MergedChild) (xs : List Child) → AreMade ps xs → are_trees xs ≡ true
made-trees [] [] h = refl
made-trees [] (x ∷ xs) h = absurd h
made-trees (p ∷ ps) [] h = absurd h
made-trees (p ∷ ps) (x ∷ xs) h = both _ _ h.0.tree (made-trees ps xs h.1)

-- what stands below a merged child
abbrev merged_content : Option (Node × Option Node) → Path → Option Content
merged_content None q = None
merged_content (Some n) q = over_content (content_at (rows n.0) q) (content_in n.1 q)

made-content : (ps : List MergedChild) (xs : List Child) (e : Element) (q : Path) → AreMade ps xs
    → content_in (child_at e xs) q ≡ merged_content (child_at e ps) q
made-content [] [] e q h = refl
made-content [] (x ∷ xs) e q h = absurd h
made-content (p ∷ ps) [] e q h = absurd h
made-content (p ∷ ps) (x ∷ xs) e q h =
    ap (λ f. content_in (cond (same_element e f) (Some x.1) (child_at e xs)) q) h.0.element
    ∙ (elim (same_element e (element_view p.0)) as (λ b. content_in (cond b (Some x.1) (child_at e xs)) q
    ≡ merged_content (cond b (Some p.1) (child_at e ps)) q) [
      | true ↦ h.0.content q
      | false ↦ made-content ps xs e q h.1
    ])

-- ---- what the configuration alone has

none-any : (e : Element) (cs : List Child) → elim (child_at e cs) [ None ↦ true | Some c ↦ false ] ≡ not (is_among e (elements cs))
none-any e [] = refl
none-any e (c ∷ cs) =
    elim (same_element e (element_view c.0)) as (λ b. elim (cond b (Some c.1) (child_at e cs)) [ None ↦ true | Some x ↦ false ]
    ≡ not (b || is_among e (elements cs))) [ true ↦ refl | false ↦ none-any e cs ]

-- the new children's elements are those of the configuration's that no live child has
pub new-elements : (cs ds : List Child) → elements (filter (is_new cs) ds) ≡ filter (λ f. not (is_among f (elements cs))) (elements ds)
new-elements cs [] = refl
new-elements cs (d ∷ ds) =
    one (is_new cs d)
    ∙ (λ i. cond (none-any (element_view d.0) cs i) (element_view d.0 ∷ new-elements cs ds i) (new-elements cs ds i))
  where
    one : (b : Bool) → elements (cond b (d ∷ filter (is_new cs) ds) (filter (is_new cs) ds))
        ≡ cond b (element_view d.0 ∷ elements (filter (is_new cs) ds)) (elements (filter (is_new cs) ds))
    one true = refl
    one false = refl

-- where the live children lack the element, the new ones have the configuration's child of it
pub new-child : (cs ds : List Child) (e : Element) → child_at e cs ≡ None → child_at e (filter (is_new cs) ds) ≡ child_at e ds
new-child cs [] e h = refl
new-child cs (d ∷ ds) e h =
    elim (same_element e (element_view d.0)) as (λ s. same_element e (element_view d.0) ≡ s
    → child_at e (cond (is_new cs d) (d ∷ filter (is_new cs) ds) (filter (is_new cs) ds)) ≡ cond s (Some d.1) (child_at e ds)) [
      | true ↦ λ s.
          let lacks : is_new cs d ≡ true = ap (λ f. elim (child_at f cs) [ None ↦ true | Some c ↦ false ]) (sym (same_element-true e (element_view d.0) s))
          ∙ ap (λ o. elim o [ None ↦ true | Some c ↦ false ]) h in
          ap (λ b. child_at e (cond b (d ∷ filter (is_new cs) ds) (filter (is_new cs) ds))) lacks
          ∙ ap (λ b. cond b (Some d.1) (child_at e (filter (is_new cs) ds))) s
      | false ↦ λ s.
          elim (is_new cs d) as (λ b. child_at e (cond b (d ∷ filter (is_new cs) ds) (filter (is_new cs) ds)) ≡ child_at e ds) [
            | true ↦ ap (λ b. cond b (Some d.1) (child_at e (filter (is_new cs) ds))) s ∙ new-child cs ds e h
            | false ↦ new-child cs ds e h
          ]
    ] refl

-- ---- all children of both

all_pass : (es : List Element) → filter (λ f. not (is_among f [])) es ≡ es
all_pass [] = refl
all_pass (e ∷ es) = ap (λ fs. e ∷ fs) (all_pass es)

-- over nothing a content stays as it is
pub over-none : (c : Option Content) → over_content None c ≡ c
over-none None = refl
over-none (Some (leaf s)) = refl
over-none (Some (atom v)) = refl
over-none (Some record_branch) = refl
over-none (Some dict_branch) = refl
over-none (Some (list_branch es)) = (λ i. Some (list_branch (none-of es i ++ all_pass es i)))

-- of children behind others, the elements stand behind the others'
pub elements-append : (cs ds : List Child) → elements (cs ++ ds) ≡ elements cs ++ elements ds
elements-append [] ds = refl
elements-append (c ∷ cs) ds = ap (λ es. element_view c.0 ∷ es) (elements-append cs ds)

-- ---- the merged children

live-found : (cs ds : List Child) (rest : List MergedChild) (e : Element)
    → child_at e (map (live_child ds) cs ++ rest) ≡ elim (child_at e cs) [ None ↦ child_at e rest | Some c ↦ Some (c, child_at e ds) ]
live-found [] ds rest e = refl
live-found (c ∷ cs) ds rest e =
    elim (same_element e (element_view c.0)) as (λ b. same_element e (element_view c.0) ≡ b
    → cond b (Some (c.1, child_at (element_view c.0) ds)) (child_at e (map (live_child ds) cs ++ rest))
    ≡ elim (cond b (Some c.1) (child_at e cs)) [ None ↦ child_at e rest | Some x ↦ Some (x, child_at e ds) ]) [
      | true ↦ λ s. ap (λ f. Some (c.1, child_at f ds)) (sym (same_element-true e (element_view c.0) s))
      | false ↦ λ s. live-found cs ds rest e
    ] refl

new-found : (ds : List Child) (e : Element) → child_at e (map new_child ds) ≡ option_map (λ d. (d, None)) (child_at e ds)
new-found [] e = refl
new-found (d ∷ ds) e =
    elim (same_element e (element_view d.0)) as (λ b. cond b (Some (d.1, None)) (child_at e (map new_child ds))
    ≡ option_map (λ x. (x, None)) (cond b (Some d.1) (child_at e ds))) [
      | true ↦ refl
      | false ↦ new-found ds e
    ]

-- the live child of an element with the configuration's, else the configuration's alone
abbrev pub found_in : Option Node → Option Node → Option (Node × Option Node)
found_in None other = option_map (λ d. (d, None)) other
found_in (Some c) other = Some (c, other)

-- among the merged children, an element's is the live one with the configuration's, or the configuration's alone
pub merged-found : (cs ds : List Child) (e : Element) → child_at e (merged cs ds) ≡ found_in (child_at e cs) (child_at e ds)
merged-found cs ds e =
    live-found cs ds (map new_child (filter (is_new cs) ds)) e
    ∙ (elim (child_at e cs) as (λ o. child_at e cs ≡ o → elim o
    [ None ↦ child_at e (map new_child (filter (is_new cs) ds)) | Some c ↦ Some (c, child_at e ds) ] ≡ found_in o (child_at e ds)) [
      | None ↦ λ h. new-found (filter (is_new cs) ds) e ∙ ap (option_map (λ d. (d, None))) (new-child cs ds e h)
      | Some c ↦ λ h. refl
    ] refl)

found-content : (own other : Option Node) (q : Path) → merged_content (found_in own other) q ≡ over_content (content_in own q) (content_in other q)
found-content None None q = refl
found-content None (Some d) q = sym (over-none (content_at (rows d) q))
found-content (Some c) other q = refl

live-elements : (cs ds : List Child) (rest : List MergedChild) → elements (map (live_child ds) cs ++ rest) ≡ elements cs ++ elements rest
live-elements [] ds rest = refl
live-elements (c ∷ cs) ds rest = ap (λ es. element_view c.0 ∷ es) (live-elements cs ds rest)

new_child-elements : (ds : List Child) → elements (map new_child ds) ≡ elements ds
new_child-elements [] = refl
new_child-elements (d ∷ ds) = ap (λ es. element_view d.0 ∷ es) (new_child-elements ds)

-- the merged children's elements are the live ones, and behind them the configuration's own
pub merged-elements : (cs ds : List Child) → elements (merged cs ds) ≡ elements cs ++ filter (λ f. not (is_among f (elements cs))) (elements ds)
merged-elements cs ds =
    live-elements cs ds (map new_child (filter (is_new cs) ds))
    ∙ ap (λ es. elements cs ++ es) (new_child-elements (filter (is_new cs) ds) ∙ new-elements cs ds)

-- what is made of all merged children are the configuration's over the live ones, where the elements of both stand in one order
pub children-over : (cs ds made : List Child) → are_in_one_order (elements cs) (elements ds) ≡ true → AreMade (merged cs ds) made → AreOver cs ds made
children-over cs ds made order each = record {
  elements_are = made-elements (merged cs ds) made each ∙ merged-elements cs ds ∙ sym (joined-in-order (elements cs) (elements ds) order);
  contents = λ e q. made-content (merged cs ds) made e q each ∙ ap (λ o. merged_content o q) (merged-found cs ds e)
      ∙ found-content (child_at e cs) (child_at e ds) q;
  trees = made-trees (merged cs ds) made each;
}

-- ---- a node of these children

-- children over others are apart where both were
pub over-apart : (cs ds xs : List Child) → are_apart (elements cs) ≡ true → are_apart (elements ds) ≡ true → AreOver cs ds xs → are_apart (elements xs) ≡ true
over-apart cs ds xs live config h =
    let es = elements cs in
    let fs = elements ds in
    ap are_apart h.elements_are ∙ apart-distinct (joined es fs) ∙ distinct-joined es fs (sym (apart-distinct es) ∙ live) (sym (apart-distinct fs) ∙ config)

-- a node with the contents of both, at itself and below, is the one node over the other
pub over-level : (n m made : Node) → is_tree n ≡ true → is_tree m ≡ true → is_tree made ≡ true
    → Some (own_content made) ≡ over_content (Some (own_content n)) (Some (own_content m)) → HaveOver (below n) (below m) (below made) → IsOver n m made
over-level n m made live config tree own h = record { content = at; tree = tree }
  where
    at : (p : Path) → content_at (rows made) p ≡ over_content (content_at (rows n) p) (content_at (rows m) p)
    at [] = content-root made ∙ own ∙ sym (λ i. over_content (content-root n i) (content-root m i))
    at (e ∷ p) =
        content-level made e p tree ∙ h e p
        ∙ sym (λ i. over_content (content-level n e p live i) (content-level m e p config i))

-- ---- one child more

module _ (p : MergedChild) (x : Child) (same : element_view x.0 ≡ element_view p.0) where
  -- over what the configuration has
  pub made-over : (d : Node) → p.1.1 ≡ Some d → IsOver p.1.0 d x.1 → IsMade p x
  made-over d over made = record {
    element = same;
    content = λ q. made.content q ∙ ap (λ o. over_content (content_at (rows p.1.0) q) (content_in o q)) (sym over);
    tree = made.tree;
  }

  -- a copy, where the configuration has nothing over it
  pub made-copied : p.1.1 ≡ None → is_tree p.1.0 ≡ true → kept x.1 ≡ kept p.1.0 → IsMade p x
  made-copied none tree copy = record {
    element = same;
    content = λ q. ap (λ rs. content_at rs q) (kept-rows x.1 p.1.0 copy) ∙ ap (λ o. over_content (content_at (rows p.1.0) q) (content_in o q)) (sym none);
    tree = kept-tree x.1 p.1.0 copy ∙ tree;
  }

-- ---- the child at an index

-- the child at a place is the one of its element, where elements are apart
pub child-at-index : {A : Type 0} (cs : List (Elem × A)) (i : ℕ) (c : Elem × A) → i < length cs → c ≡ get_or cs i c → are_apart (elements cs) ≡ true
    → child_at (element_view c.0) cs ≡ Some c.1
child-at-index [] i c lt is apart = absurd (omega arith)
child-at-index (d ∷ cs) zero c lt is apart =
    (λ i. cond (same_element (element_view c.0) (element_view (sym is i).0)) (Some (sym is i).1) (child_at (element_view c.0) cs))
    ∙ ap (λ b. cond b (Some c.1) (child_at (element_view c.0) cs)) (same_element-itself (element_view c.0))
child-at-index (d ∷ cs) (suc i) c lt is apart =
    let e = element_view c.0 in
    let later = child-at-index cs i c (omega arith) is (both_second (not (list_any (same_element (element_view d.0)) (elements cs))) _ apart) in
    elim (same_element e (element_view d.0)) as (λ b. same_element e (element_view d.0) ≡ b → cond b (Some d.1) (child_at e cs) ≡ Some c.1) [
      | true ↦ λ s. absurd (some-none c.1 (sym later ∙ child_at-rest e d cs s apart))
      | false ↦ λ s. later
    ] refl
