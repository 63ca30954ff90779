-- Copies of trees, level by level.
use Rattle.std.proofs.Common.{◌≡◌, List, [], ◌∷◌, ◌++◌, Bool, true, ◌&&◌, refl, sym, ap, ◌∙◌, rules}
use Rattle.ssa_model.specs.definitions.Body.{list_branch}
use Rattle.ssa_model.specs.definitions.Path.{Element}
use Rattle.ssa_path.specs.Children.{elements, rises}
use Rattle.ssa_path.specs.View.{element_view}
use Rattle.ssa_typed.specs.Copies.{kept, kept_below}
use Rattle.ssa_typed.specs.Rows.{Row, rows, rows_below, under_element, is_tree, are_trees, are_apart, are_fields, are_items, leaf_content}
use Rattle.ssa_typed.specs.declared.node.Leaf.{Leaf}
use Rattle.ssa_typed.specs.declared.node.Node.{Node, Leaf as LeafOf, Branch, Dict, List as ListOf, the_lemmas}
use Rattle.ssa_typed.proofs.Building.{Child}
use Rattle.ssa_typed.proofs.Levels.{Children, own-Branch, own-Dict, own-List, tree-Branch, tree-Dict, tree-List, level-Branch, level-Dict, level-List}

abbrev Kept : Type 0
Kept = Element × (List Row × Bool)

rows_of : List Kept → List Row
rows_of [] = []
rows_of (k ∷ ks) = under_element k.0 k.1.0 ++ rows_of ks

elements_of : List Kept → List Element
elements_of [] = []
elements_of (k ∷ ks) = k.0 ∷ elements_of ks

are_trees_of : List Kept → Bool
are_trees_of [] = true
are_trees_of (k ∷ ks) = k.1.1 && are_trees_of ks

rows-kept : (cs : List Child) → rows_below cs ≡ rows_of (kept_below cs)
unfolding rows_of
rows-kept [] = refl
rows-kept (c ∷ cs) = ap (λ rs. under_element (element_view c.0) (rows c.1) ++ rs) (rows-kept cs)

elements-kept : (cs : List Child) → elements cs ≡ elements_of (kept_below cs)
unfolding elements_of
elements-kept [] = refl
elements-kept (c ∷ cs) = ap (λ es. element_view c.0 ∷ es) (elements-kept cs)

trees-kept : (cs : List Child) → are_trees cs ≡ are_trees_of (kept_below cs)
unfolding are_trees_of
trees-kept [] = refl
trees-kept (c ∷ cs) = ap (λ b. is_tree c.1 && b) (trees-kept cs)

-- children that keep the same have the same rows and elements, and are trees alike
pub record AreSame (cs ds : List Child) : Type 0 where
  -- they have the same rows
  pub rows_same : rows_below cs ≡ rows_below ds
  -- they stand under the same elements
  pub elements_same : elements cs ≡ elements ds
  -- all are trees in both lists, or in neither
  pub trees_same : are_trees cs ≡ are_trees ds

-- children that keep the same are the same in rows and elements, and whether they are trees
pub kept-same : (cs ds : List Child) → kept_below cs ≡ kept_below ds → AreSame cs ds
kept-same cs ds e_same = record {
  rows_same = rows-kept cs ∙ ap rows_of e_same ∙ sym (rows-kept ds);
  elements_same = elements-kept cs ∙ ap elements_of e_same ∙ sym (elements-kept ds);
  trees_same = trees-kept cs ∙ ap are_trees_of e_same ∙ sym (trees-kept ds);
}

-- nodes with the same rows, both of which are trees or neither, keep the same
pub kept-pair : (n m : Node) → rows n ≡ rows m → is_tree n ≡ is_tree m → kept n ≡ kept m
kept-pair n m e f = let pairs : ◌≡◌ {A = List Row × Bool} _ _ = λ i. (e i, f i) in pairs

-- nodes that keep the same have the same rows
pub kept-rows : (n m : Node) → kept n ≡ kept m → rows n ≡ rows m
kept-rows n m e = ap (λ (k : List Row × Bool). k.0) e

-- of nodes that keep the same both are trees, or neither is
pub kept-tree : (n m : Node) → kept n ≡ kept m → is_tree n ≡ is_tree m
kept-tree n m e = ap (λ (k : List Row × Bool). k.1) e

-- leaves of the same contents keep the same
pub kept-leaf : (l k : Leaf) (n : Node) → leaf_content l ≡ leaf_content k → n ≡ LeafOf k → kept (LeafOf l) ≡ kept n
kept-leaf l k n same is =
    let pairs : kept (LeafOf l) ≡ kept (LeafOf k) = search (rules, the_lemmas, same) in
    pairs ∙ ap kept (sym is)

-- each leaf is a tree
pub tree-Leaf : (l : Leaf) → is_tree (LeafOf l) ≡ true
tree-Leaf l = search (rules, the_lemmas)

module _ (v w : Children) (n : Node) (e : kept_below v.items ≡ kept_below w.items) where
  same : AreSame v.items w.items
  same = kept-same v.items w.items e

  -- a record of copied fields keeps what the record keeps
  pub kept-Branch : n ≡ Branch w → kept (Branch v) ≡ kept n
  kept-Branch is =
      kept-pair (Branch v) (Branch w)
      ((level-Branch v).rows_are ∙ (λ i. ([], (own-Branch v ∙ sym (own-Branch w)) i) ∷ same.rows_same i) ∙ sym (level-Branch w).rows_are)
      (tree-Branch v ∙ (λ i. (rises (same.elements_same i) && are_fields (same.elements_same i)) && same.trees_same i) ∙ sym (tree-Branch w))
      ∙ ap kept (sym is)

  -- a Dict of copied entries keeps what the Dict keeps
  pub kept-Dict : n ≡ Dict w → kept (Dict v) ≡ kept n
  kept-Dict is =
      kept-pair (Dict v) (Dict w)
      ((level-Dict v).rows_are ∙ (λ i. ([], (own-Dict v ∙ sym (own-Dict w)) i) ∷ same.rows_same i) ∙ sym (level-Dict w).rows_are)
      (tree-Dict v ∙ (λ i. (rises (same.elements_same i) && are_fields (same.elements_same i)) && same.trees_same i) ∙ sym (tree-Dict w))
      ∙ ap kept (sym is)

  -- a list of copied items keeps what the list keeps
  pub kept-List : n ≡ ListOf w → kept (ListOf v) ≡ kept n
  kept-List is =
      kept-pair (ListOf v) (ListOf w)
      ((level-List v).rows_are ∙ (λ i. ([], (own-List v ∙ ap list_branch same.elements_same ∙ sym (own-List w)) i) ∷ same.rows_same i)
      ∙ sym (level-List w).rows_are)
      (tree-List v ∙ (λ i. (are_apart (same.elements_same i) && are_items (same.elements_same i)) && same.trees_same i) ∙ sym (tree-List w))
      ∙ ap kept (sym is)
