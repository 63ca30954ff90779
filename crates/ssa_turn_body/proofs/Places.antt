-- The three kinds of places that have children.
use Rattle.std.proofs.Common.{◌≡◌, List, Bool, ◌&&◌, sym, ap, ◌∙◌}
use Rattle.ssa_model.specs.definitions.Path.{Element}
use Rattle.ssa_model.specs.definitions.Body.{Content, record_branch, dict_branch, list_branch}
use Rattle.ssa_path.specs.Children.{elements, rises}
use Rattle.ssa_typed.specs.Rows.{below, own_content, is_tree, are_trees, are_apart, are_fields, are_items}
use Rattle.ssa_typed.specs.declared.node.Node.{Node, Branch, Dict, List as ListOf}
use Rattle.ssa_typed.proofs.OverNodes.{below-Branch, below-Dict, below-List}
use Rattle.ssa_turn_body.specs.Marks.{may_stand, with_order}
use Rattle.ssa_typed.proofs.Levels.{Children, own-Branch, own-Dict, own-List, tree-Branch, tree-Dict, tree-List}

-- a kind of place: its content and what its invariant asks, both told by the elements of its children
pub record IsKind (kind : Children → Node) : Type 0 where
  -- the content of such a place, by its children's elements
  pub content : List Element → Content
  -- whether children of these elements may stand there
  pub stands : List Element → Bool
  -- the place has this content
  pub own : (v : Children) → own_content (kind v) ≡ content (elements v.items)
  -- the place is a tree where its children may stand there and are trees
  pub tree : (v : Children) → is_tree (kind v) ≡ (stands (elements v.items) && are_trees v.items)
  -- its children are those that it was made of
  pub children : (v : Children) → below (kind v) ≡ v.items
  -- its content with other children is its own with their order
  pub ordered : (v w : Children) → own_content (kind w) ≡ with_order (own_content (kind v)) (elements w.items)
  -- what may stand at its content is what may stand at such a place
  pub asked : (v : Children) (es : List Element) → may_stand (own_content (kind v)) es ≡ stands es

asked-Branch : (v : Children) (es : List Element) → may_stand (own_content (Branch v)) es ≡ (rises es && are_fields es)
asked-Branch v es = ap (λ c. may_stand c es) (own-Branch v)

asked-Dict : (v : Children) (es : List Element) → may_stand (own_content (Dict v)) es ≡ (rises es && are_fields es)
asked-Dict v es = ap (λ c. may_stand c es) (own-Dict v)

asked-List : (v : Children) (es : List Element) → may_stand (own_content (ListOf v)) es ≡ (are_apart es && are_items es)
asked-List v es = ap (λ c. may_stand c es) (own-List v)

ordered-Branch : (v w : Children) → own_content (Branch w) ≡ with_order (own_content (Branch v)) (elements w.items)
ordered-Branch v w = own-Branch w ∙ sym (ap (λ c. with_order c (elements w.items)) (own-Branch v))

ordered-Dict : (v w : Children) → own_content (Dict w) ≡ with_order (own_content (Dict v)) (elements w.items)
ordered-Dict v w = own-Dict w ∙ sym (ap (λ c. with_order c (elements w.items)) (own-Dict v))

ordered-List : (v w : Children) → own_content (ListOf w) ≡ with_order (own_content (ListOf v)) (elements w.items)
ordered-List v w = own-List w ∙ sym (ap (λ c. with_order c (elements w.items)) (own-List v))

-- records are such a kind
pub kind-Branch : IsKind (λ v. Branch v)
kind-Branch = record {
  content = λ es. record_branch;
  stands = λ es. rises es && are_fields es;
  own = own-Branch;
  tree = tree-Branch;
  children = below-Branch;
  ordered = ordered-Branch;
  asked = asked-Branch;
}

-- maps are such a kind
pub kind-Dict : IsKind (λ v. Dict v)
kind-Dict = record {
  content = λ es. dict_branch;
  stands = λ es. rises es && are_fields es;
  own = own-Dict;
  tree = tree-Dict;
  children = below-Dict;
  ordered = ordered-Dict;
  asked = asked-Dict;
}

-- lists are such a kind
pub kind-List : IsKind (λ v. ListOf v)
kind-List = record {
  content = list_branch;
  stands = λ es. are_apart es && are_items es;
  own = own-List;
  tree = tree-List;
  children = below-List;
  ordered = ordered-List;
  asked = asked-List;
}
