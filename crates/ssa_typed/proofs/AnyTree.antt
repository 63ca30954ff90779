-- What holds of the body of each tree, whatever its kind.
use Rattle.std.proofs.Common.{◌≡◌, List, [], ◌∷◌, ◌++◌, Bool, true, false, not, ◌&&◌, ◌||◌, Option, Some, None, refl, sym, ap, subst, ◌∙◌, true≢false, append-nil, rules}
use Rattle.std.specs.Prelude.{is_some}
use Rattle.ssa_model.specs.definitions.Path.{Element, Path, same_element, is_item_element}
use Rattle.ssa_model.specs.definitions.PathMap.{get, has}
use Rattle.ssa_model.specs.definitions.Kind.{is_among}
use Rattle.ssa_model.specs.definitions.Body.{order_at}
use Rattle.ssa_model.specs.definitions.Fitting.{are_distinct}
use Rattle.ssa_path.specs.Children.{child_at, elements}
use Rattle.ssa_path.proofs.Orders.{both_first, both_second}
use Rattle.ssa_typed.specs.Rows.{rows, below, body_of, own_content, content_at, is_tree, are_apart, are_items, are_fields}
use Rattle.ssa_typed.specs.Nodes.{node_on, then_on}
use Rattle.ssa_typed.specs.Points.{content_in}
use Rattle.ssa_typed.specs.declared.node.Node.{Node, Leaf as LeafOf, Branch, Dict, List as ListOf, the_lemmas}
use Rattle.ssa_typed.specs.declared.node.Node.TheOpen.{Node-F}
use Rattle.ssa_typed.specs.declared.node.Node.TheViews.{out-Node, roll-Node, roll-out-Node}
use Rattle.ssa_typed.proofs.Levels.{own-Branch, own-Dict, own-List, level-below, tree-Branch, tree-Dict, tree-List}
use Rattle.ssa_typed.proofs.Looks.{get-body, some-below}
use Rattle.ssa_typed.proofs.Lookups.{content-root, content-level, tree-child}
use Rattle.ssa_model.proofs.Fitting.{same_element-true}
use Rattle.ssa_typed.proofs.Showing.{leaf-order}
use Rattle.ssa_typed.proofs.OverNodes.{own-Leaf}
use Rattle.ssa_typed.proofs.Fitting.{apart-distinct}
use Rattle.ssa_model.proofs.Basics.{not_true}

-- ---- the node at a path

-- where a node is found, it is a tree
abbrev pub IsTreeIn : Option Node → Type 0
IsTreeIn None = Unit {0}
IsTreeIn (Some n) = is_tree n ≡ true

on-child : (c : Option Node) (p q : Path) → ((n : Node) → c ≡ Some n → content_at (rows n) (p ++ q) ≡ content_in (node_on p n) q)
    → content_in c (p ++ q) ≡ content_in (then_on c (node_on p)) q
on-child None p q h = refl
on-child (Some n) p q h = h n refl

-- what stands at a path with more behind it is what the node at the path has at the rest
pub content-on : (p : Path) (n : Node) (q : Path) → is_tree n ≡ true → content_at (rows n) (p ++ q) ≡ content_in (node_on p n) q
content-on [] n q h = refl
content-on (e ∷ p) n q h = content-level n e (p ++ q) h ∙ on-child (child_at e (below n)) p q (λ c is. content-on p c q (tree-child n e c h is))

tree-in : (c : Option Node) (p : Path) → ((n : Node) → c ≡ Some n → IsTreeIn (node_on p n)) → IsTreeIn (then_on c (node_on p))
tree-in None p h = tt
tree-in (Some n) p h = h n refl

-- the node at a path of a tree is a tree
pub tree-on : (p : Path) (n : Node) → is_tree n ≡ true → IsTreeIn (node_on p n)
tree-on [] n h = h
tree-on (e ∷ p) n h = tree-in (child_at e (below n)) p (λ c is. tree-on p c (tree-child n e c h is))

content-here : (p : Path) (n : Node) → is_tree n ≡ true → content_at (rows n) p ≡ content_in (node_on p n) []
content-here p n h = ap (content_at (rows n)) (sym (append-nil p)) ∙ content-on p n [] h

-- ---- the order of a node names its items

none-among : (e : Element) (i : Bool) (es : List Element) → are_fields es ≡ true → is_item_element e ≡ i → (i && is_among e es) ≡ false
none-among e false es h is = refl
none-among e true [] h is = refl
none-among e true (f ∷ es) h is = (λ i. other i || none-among e true es (both_second (not (is_item_element f)) _ h) is i)
  where
    other : same_element e f ≡ false
    other =
        elim (same_element e f) as (λ b. same_element e f ≡ b → b ≡ false) [
          | true ↦ λ s. absurd (true≢false (sym is ∙ ap is_item_element (same_element-true e f s) ∙ not_true _ (both_first (not (is_item_element f)) _ h)))
          | false ↦ λ s. refl
        ] refl

only-items : (e : Element) (i : Bool) (es : List Element) → are_items es ≡ true → is_item_element e ≡ i → is_among e es ≡ (i && is_among e es)
only-items e true es h is = refl
only-items e false [] h is = refl
only-items e false (f ∷ es) h is = (λ i. other i || only-items e false es (both_second (is_item_element f) _ h) is i)
  where
    other : same_element e f ≡ false
    other =
        elim (same_element e f) as (λ b. same_element e f ≡ b → b ≡ false) [
          | true ↦ λ s. absurd (true≢false (sym (both_first (is_item_element f) _ h) ∙ ap is_item_element (sym (same_element-true e f s)) ∙ is))
          | false ↦ λ s. refl
        ] refl

-- what the order of a node tells
record IsOrdered (n : Node) : Type 0 where
  once : are_distinct (order_at (Some (own_content n))) ≡ true
  items : (e : Element) → is_among e (order_at (Some (own_content n))) ≡ (is_item_element e && is_among e (elements (below n)))

ordered-named : (n : Node) (es : List Element) → order_at (Some (own_content n)) ≡ [] → elements (below n) ≡ es → are_fields es ≡ true → IsOrdered n
ordered-named n es none is h = record {
  once = ap are_distinct none;
  items = λ e. ap (is_among e) none ∙ sym (ap (λ fs. is_item_element e && is_among e fs) is ∙ none-among e (is_item_element e) es h refl);
}

ordered-listed : (n : Node) (es : List Element) → order_at (Some (own_content n)) ≡ es → elements (below n) ≡ es → (are_apart es && are_items es) ≡ true
    → IsOrdered n
ordered-listed n es own is h = record {
  once = ap are_distinct own ∙ sym (apart-distinct es) ∙ both_first _ _ h;
  items = λ e. ap (is_among e) own ∙ only-items e (is_item_element e) es (both_second (are_apart es) _ h) refl
      ∙ ap (λ fs. is_item_element e && is_among e fs) (sym is);
}

ordered-made : (x : Node-F Node) → is_tree (roll-Node x) ≡ true → IsOrdered (roll-Node x)
unfolding roll-Node denote.Hole.Carrier.roll
ordered-made (Node-F.Leaf l) h = ordered-named (LeafOf l) [] (ap (λ c. order_at (Some c)) (own-Leaf l) ∙ leaf-order l) (search (rules, the_lemmas)) refl
ordered-made (Node-F.Branch v) h = ordered-named (Branch v) (elements v.items) (ap (λ c. order_at (Some c)) (own-Branch v)) (search (rules, the_lemmas))
    (both_second _ _ (both_first _ _ (sym (tree-Branch v) ∙ h)))
ordered-made (Node-F.Dict v) h = ordered-named (Dict v) (elements v.items) (ap (λ c. order_at (Some c)) (own-Dict v)) (search (rules, the_lemmas))
    (both_second _ _ (both_first _ _ (sym (tree-Dict v) ∙ h)))
ordered-made (Node-F.List v) h = ordered-listed (ListOf v) (elements v.items) (ap (λ c. order_at (Some c)) (own-List v)) (search (rules, the_lemmas))
    (both_first _ _ (sym (tree-List v) ∙ h))

ordered : (n : Node) → is_tree n ≡ true → IsOrdered n
ordered n h = subst (λ m. is_tree m ≡ true → IsOrdered m) (roll-out-Node n) (ordered-made (out-Node n)) h

-- ---- the laws

root-there : (n : Node) → is_some (content_at (rows n) []) ≡ true
root-there n = ap is_some (content-root n)

-- a tree's body has the root
pub tree-root : (n : Node) → has (body_of n) [] ≡ true
tree-root n = ap is_some (get-body n []) ∙ root-there n

-- where something stands below a place, something stands at it
pub closed-in : (c : Option Node) (q : Path) → is_some (content_in c q) ≡ true → is_some (content_in c []) ≡ true
closed-in None q h = h
closed-in (Some n) q h = root-there n

-- each beginning of a path is a path
pub tree-beginning : (n : Node) → is_tree n ≡ true → (p q : Path) → has (body_of n) (p ++ q) ≡ true → has (body_of n) p ≡ true
tree-beginning n h p q there =
    ap is_some (get-body n p ∙ content-here p n h)
    ∙ closed-in (node_on p n) q (sym (ap is_some (get-body n (p ++ q) ∙ content-on p n q h)) ∙ there)

-- above each place of a tree's body stands another of its places
pub tree-closed : (n : Node) → is_tree n ≡ true → (p : Path) (e : Element) → has (body_of n) (p ++ e ∷ []) ≡ true → has (body_of n) p ≡ true
tree-closed n h p e there = tree-beginning n h p (e ∷ []) there

once-in : (c : Option Node) → IsTreeIn c → are_distinct (order_at (content_in c [])) ≡ true
once-in None h = refl
once-in (Some n) h = ap (λ c. are_distinct (order_at c)) (content-root n) ∙ (ordered n h).once

-- a list of a tree's body names no item twice
pub tree-once : (n : Node) → is_tree n ≡ true → (p : Path) → are_distinct (order_at (get (body_of n) p)) ≡ true
tree-once n h p = ap (λ c. are_distinct (order_at c)) (get-body n p ∙ content-here p n h) ∙ once-in (node_on p n) (tree-on p n h)

nothing-there : (e : Element) → false ≡ (is_item_element e && false)
nothing-there e = elim (is_item_element e) as (λ b. false ≡ (b && false)) [ true ↦ refl | false ↦ refl ]

items-in : (c : Option Node) (e : Element) → IsTreeIn c → is_among e (order_at (content_in c [])) ≡ (is_item_element e && is_some (content_in c (e ∷ [])))
items-in None e h = nothing-there e
items-in (Some n) e h =
    ap (λ c. is_among e (order_at c)) (content-root n) ∙ (ordered n h).items e
    ∙ ap (λ b. is_item_element e && b) (sym (ap (λ rs. is_some (content_at rs (e ∷ []))) (level-below n).rows_are ∙ some-below e (below n)))

-- the order at a path names just those items that the body has there
pub tree-items : (n : Node) → is_tree n ≡ true → (p : Path) (e : Element)
    → is_among e (order_at (get (body_of n) p)) ≡ (is_item_element e && has (body_of n) (p ++ e ∷ []))
tree-items n h p e =
    ap (λ c. is_among e (order_at c)) (get-body n p ∙ content-here p n h) ∙ items-in (node_on p n) e (tree-on p n h)
    ∙ ap (λ c. is_item_element e && is_some c) (sym (get-body n (p ++ e ∷ []) ∙ content-on p n (e ∷ []) h))
