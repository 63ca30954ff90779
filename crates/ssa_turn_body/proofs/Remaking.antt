-- A place like another, with other children.
use Rattle.std.proofs.Common.{◌≡◌, ◌<◌, ◌^◌, List, length, true, refl, sym, ap, subst, ◌∙◌, arith, true≢false}
use Rattle.ssa_path.specs.Children.{elements}
use Rattle.ssa_model.proofs.Basics.{both-true as both}
use Rattle.ssa_typed.specs.Rows.{are_trees, below, is_tree, leaf_content, own_content}
use Rattle.ssa_typed.specs.declared.node.Leaf.{Leaf}
use Rattle.ssa_typed.specs.declared.node.Leaf.TheVariants.{Scalar, Atomic}
use Rattle.ssa_typed.specs.declared.node.Node.{Node, Leaf as LeafOf, Branch, Dict, List as ListOf}
use Rattle.ssa_typed.specs.declared.node.Node.TheOpen.{Node-F}
use Rattle.ssa_typed.specs.declared.node.Node.TheViews.{out-Node, roll-Node, roll-out-Node}
use Rattle.ssa_typed.proofs.Levels.{Children}
use Rattle.ssa_typed.proofs.OverNodes.{own-Leaf}
use Rattle.ssa_turn_body.specs.Marks.{Child, may_stand, with_order}
use Rattle.ssa_turn_body.proofs.Finishing.{below-Leaf-is}
use Rattle.ssa_turn_body.proofs.Places.{IsKind, kind-Branch, kind-Dict, kind-List}

-- children that are as few as memory can hold, as the program would hold them
abbrev held-as : (v : Children) (ds : List Child) → length ds < 2 ^ 63 → Children
held-as v ds small = record { ptr = v.ptr; len = length ds; cap = length ds; alloc = v.alloc; items = ds; ok = (refl, omega arith); small = small }

-- a place with the content of the first, in the order of its children, which are these
pub record IsRemade (live : Node) (ds : List Child) (to : Node) : Type 0 where
  pub tree : is_tree to ≡ true
  pub own : own_content to ≡ with_order (own_content live) (elements ds)
  pub below_is : below to ≡ ds

abbrev CanBeRemade : Node → Type 0
CanBeRemade live = (ds : List Child) → length ds < 2 ^ 63 → may_stand (own_content live) (elements ds) ≡ true → are_trees ds ≡ true
    → (to : Node) × IsRemade live ds to

remade-kind : (kind : Children → Node) → IsKind kind → (v : Children) → CanBeRemade (kind v)
remade-kind kind is v ds small stand trees =
    let w = held-as v ds small in (
      kind w,
      record {
        tree = is.tree w ∙ both _ _ (sym (is.asked v (elements ds)) ∙ stand) trees;
        own = is.ordered v w;
        below_is = is.children w;
      },
    )

no-leaf : (l : Leaf) (ds : List Child) → may_stand (leaf_content l) (elements ds) ≡ true → ⊥
no-leaf (Scalar s) ds h = true≢false (sym h)
no-leaf (Atomic v) ds h = true≢false (sym h)

remade-made : (x : Node-F Node) → CanBeRemade (roll-Node x)
unfolding roll-Node denote.Hole.Carrier.roll
remade-made (Node-F.Leaf l) = λ ds small stand trees. absurd (no-leaf l ds (ap (λ c. may_stand c (elements ds)) (sym (own-Leaf l)) ∙ stand))
remade-made (Node-F.Branch v) = remade-kind (λ w. Branch w) kind-Branch v
remade-made (Node-F.Dict v) = remade-kind (λ w. Dict w) kind-Dict v
remade-made (Node-F.List v) = remade-kind (λ w. ListOf w) kind-List v

-- a place can have any children that may stand there, if they are not more than memory can hold
pub remade : (live : Node) → CanBeRemade live
remade live = subst CanBeRemade (roll-out-Node live) (remade-made (out-Node live))

few-kind : (kind : Children → Node) → IsKind kind → (v : Children) → length (below (kind v)) < 2 ^ 63
few-kind kind is v =
    let same = ap length (is.children v) in
    let long = v.ok.0 in
    let room = v.ok.1 in
    let small = v.small in
    omega arith

few-made : (x : Node-F Node) → length (below (roll-Node x)) < 2 ^ 63
unfolding roll-Node denote.Hole.Carrier.roll
few-made (Node-F.Leaf l) = let none : length (below (LeafOf l)) ≡ 0 = ap length (below-Leaf-is l) in omega (arith, none)
few-made (Node-F.Branch v) = few-kind (λ w. Branch w) kind-Branch v
few-made (Node-F.Dict v) = few-kind (λ w. Dict w) kind-Dict v
few-made (Node-F.List v) = few-kind (λ w. ListOf w) kind-List v

-- a place has no more children than memory can hold
pub few-below : (n : Node) → length (below n) < 2 ^ 63
few-below n = subst (λ m. length (below m) < 2 ^ 63) (roll-out-Node n) (few-made (out-Node n))
