-- A tree, level by level.
use Rattle.std.proofs.Common.{◌≡◌, List, [], ◌∷◌, ◌⊎◌, inl, inr, Vec, Global, map, subst, Bool, true, false, not, ◌&&◌, ◌||◌, refl, ap, sym, ◌∙◌, rules}
use Rattle.std.specs.List.{list_any}
use Rattle.std.specs.Ordering.{is_lt}
use Rattle.ssa_model.specs.definitions.Path.{Element, element_cmp, same_element}
use Rattle.ssa_model.specs.definitions.Body.{Content, record_branch, dict_branch, list_branch}
use Rattle.ssa_path.specs.Children.{elements, is_below, rises}
use Rattle.ssa_path.specs.declared.element.Elem.{Elem}
use Rattle.ssa_path.proofs.Orders.{both_first, both_second, not_tied}
use Rattle.ssa_path.proofs.Levels.{elements-map}
use Rattle.ssa_typed.specs.Rows.{rows, rows_below, below, below_of, own_content, is_tree, are_trees, are_apart, are_fields, are_items}
use Rattle.ssa_typed.specs.declared.node.Node.{Node, Branch, Dict, List as ListOf, the_lemmas}
use Rattle.ssa_typed.specs.declared.node.Node.TheOpen.{Node-F}
use Rattle.ssa_typed.specs.declared.node.Node.TheViews.{out-Node, roll-Node, roll-out-Node}
use Rattle.ssa_model.proofs.Basics.{both-true as both}

-- the children of a node, as the program holds them
abbrev pub Children : Type 0
Children = Vec (Elem × Node) Global

-- ---- elements that rise differ

-- an element below others is none of them
pub below-apart : (e : Element) (es : List Element) → is_below e es ≡ true → list_any (same_element e) es ≡ false
below-apart e [] h = refl
below-apart e (f ∷ es) h =
    let first : is_lt (element_cmp e f) ≡ true = both_first _ _ h in
    let rest : is_below e es ≡ true = both_second _ _ h in
    (λ i. not_tied (element_cmp e f) first i || below-apart e es rest i)

-- elements that rise are apart
pub rises-apart : (es : List Element) → rises es ≡ true → are_apart es ≡ true
rises-apart [] h = refl
rises-apart (e ∷ es) h = both _ _ (ap not (below-apart e es (both_first _ _ h))) (rises-apart es (both_second _ _ h))

-- ---- each sort of place

-- a record itself is a record's branch
pub own-Branch : (v : Children) → own_content (Branch v) ≡ record_branch
own-Branch v = search (rules, the_lemmas)

-- a Dict itself is a Dict's branch
pub own-Dict : (v : Children) → own_content (Dict v) ≡ dict_branch
own-Dict v = search (rules, the_lemmas)

-- a list itself is a branch with the order of its items
pub own-List : (v : Children) → own_content (ListOf v) ≡ list_branch (elements v.items)
own-List v = search (rules, the_lemmas)

abbrev marks : Children → List (Elem × Bool)
marks v = map (λ c. (c.0, is_tree c.1)) v.items

made-Branch : (v : Children) → is_tree (Branch v) ≡ ((rises (elements (marks v)) && are_fields (elements (marks v))) && are_trees v.items)
made-Branch v = search (rules, the_lemmas)

made-Dict : (v : Children) → is_tree (Dict v) ≡ ((rises (elements (marks v)) && are_fields (elements (marks v))) && are_trees v.items)
made-Dict v = search (rules, the_lemmas)

made-List : (v : Children) → is_tree (ListOf v) ≡ ((are_apart (elements (marks v)) && are_items (elements (marks v))) && are_trees v.items)
made-List v = search (rules, the_lemmas)

-- a record is a tree where its fields rise and are trees
pub tree-Branch : (v : Children) → is_tree (Branch v) ≡ ((rises (elements v.items) && are_fields (elements v.items)) && are_trees v.items)
tree-Branch v = made-Branch v ∙ ap (λ es. (rises es && are_fields es) && are_trees v.items) (elements-map is_tree v.items)

-- a Dict is a tree where its entries rise and are trees
pub tree-Dict : (v : Children) → is_tree (Dict v) ≡ ((rises (elements v.items) && are_fields (elements v.items)) && are_trees v.items)
tree-Dict v = made-Dict v ∙ ap (λ es. (rises es && are_fields es) && are_trees v.items) (elements-map is_tree v.items)

-- a list is a tree where its items are apart and are trees
pub tree-List : (v : Children) → is_tree (ListOf v) ≡ ((are_apart (elements v.items) && are_items (elements v.items)) && are_trees v.items)
tree-List v = made-List v ∙ ap (λ es. (are_apart es && are_items es) && are_trees v.items) (elements-map is_tree v.items)

-- ---- one level of any node

-- these are the children below the node
pub record IsLevel (n : Node) (cs : List (Elem × Node)) : Type 0 where
  -- the node's rows are its own one and those of the children
  pub rows_are : rows n ≡ ([], own_content n) ∷ rows_below cs
  -- below a tree they are trees
  pub trees : is_tree n ≡ true → are_trees cs ≡ true
  -- below a tree they are apart
  pub apart : is_tree n ≡ true → are_apart (elements cs) ≡ true

-- a branch whose content is made of the elements of its children
level : (branch : List Element → Content) (stands : Bool) (n : Node) (v : Children)
    → rows n ≡ ([], branch (elements (map (λ c. (c.0, rows c.1)) v.items))) ∷ rows_below v.items
    → own_content n ≡ branch (elements v.items) → is_tree n ≡ (stands && are_trees v.items) → (stands ≡ true → are_apart (elements v.items) ≡ true)
    → IsLevel n v.items
level branch stands n v seen own tree apart = record {
  rows_are = seen ∙ ap (λ es. ([], branch es) ∷ rows_below v.items) (elements-map rows v.items) ∙ rw own;
  trees = λ h. both_second stands _ (sym tree ∙ h);
  apart = λ h. apart (both_first stands _ (sym tree ∙ h));
}

-- below a record are its fields
pub level-Branch : (v : Children) → IsLevel (Branch v) v.items
level-Branch v = level (λ es. record_branch) _ (Branch v) v (search (rules, the_lemmas)) (own-Branch v) (tree-Branch v)
    (λ h. rises-apart (elements v.items) (both_first _ _ h))

-- below a Dict are its entries
pub level-Dict : (v : Children) → IsLevel (Dict v) v.items
level-Dict v = level (λ es. dict_branch) _ (Dict v) v (search (rules, the_lemmas)) (own-Dict v) (tree-Dict v)
    (λ h. rises-apart (elements v.items) (both_first _ _ h))

-- below a list are its items
pub level-List : (v : Children) → IsLevel (ListOf v) v.items
level-List v = level list_branch _ (ListOf v) v (search (rules, the_lemmas)) (own-List v) (tree-List v) (λ h. both_first _ _ h)

-- the node has these children
abbrev pub HasChildren : Node → Children → Type 0
HasChildren n v = (n ≡ Branch v) ⊎ ((n ≡ Dict v) ⊎ (n ≡ ListOf v))

-- below a node of any sort are the children that it has
pub level-children : (n : Node) (v : Children) → HasChildren n v → IsLevel n v.items
level-children n v (inl e) = rw e (level-Branch v)
level-children n v (inr (inl e)) = rw e (level-Dict v)
level-children n v (inr (inr e)) = rw e (level-List v)

-- any node is made of its children
level-made : (x : Node-F Node) → IsLevel (roll-Node x) (below_of x)
unfolding roll-Node denote.Hole.Carrier.roll
level-made (Node-F.Leaf l) = record { rows_are = search (rules, the_lemmas); trees = λ h. refl; apart = λ h. refl }
level-made (Node-F.Branch v) = level-Branch v
level-made (Node-F.Dict v) = level-Dict v
level-made (Node-F.List v) = level-List v

-- of any node, also of a leaf, which has none
pub level-below : (n : Node) → IsLevel n (below n)
level-below n = subst (λ m. IsLevel m (below n)) (roll-out-Node n) (level-made (out-Node n))
