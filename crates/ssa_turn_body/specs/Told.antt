-- Changes of trees, told by the contents of their bodies at whole paths.
use Rattle.std.specs.Prelude.{◌≡◌, [], ◌∷◌, ◌++◌, Option, Some, None, false, true, option_map, if◌then◌else◌}
use Rattle.ssa_model.specs.definitions.Body.{Body, Content}
use Rattle.ssa_model.specs.definitions.Path.{Element, Path, same_element, same_path, under}
use Rattle.ssa_model.specs.definitions.PathMap.{get}
use Rattle.ssa_typed.specs.Rows.{body_of, is_tree, leaf_content}
use Rattle.ssa_typed.specs.declared.node.Node.{Node}
use Rattle.ssa_turn_body.specs.Descent.{IsChange}
use Rattle.ssa_turn_body.specs.Marks.{Kids, Mark, Marks, marks, marks_in, names, Place, seen, with_order}
use Rattle.ssa_turn_body.specs.Edits.{LeafGives, EditGives, edited}
use Rattle.ssa_turn_body.specs.declared.children.ChildrenEdit.{ChildrenEdit}
use Rattle.ssa_turn_body.specs.declared.children.LeafSwap.{LeafSwap}

-- the content in a mark
abbrev pub content_told : Option Mark → Option Content
content_told o = option_map (λ m. m.0) o

-- a body has at each path the content that the marks of its tree tell
abbrev pub MarksTellContents : Type 0
MarksTellContents = (n : Node) (p : Path) → is_tree n ≡ true → get (body_of n) p ≡ content_told (marks n p)

-- what the child of an element tells
abbrev pub named : Kids → Element → Option Marks
named [] e = None
named (k ∷ ks) e = if same_element e k.0 then Some k.1 else named ks e

-- what a place tells
abbrev pub from_place : Place → Marks
from_place v [] = Some (v.0, names v.1)
from_place v (e ∷ p) = marks_in (named v.1 e) p

-- the leaf at the path is exchanged, and nothing else
pub record IsLeafTold (s : LeafSwap) (t : LeafSwap) (p : Path) (b c : Body) : Type 0 where
  pub before : get b p ≡ Some (leaf_content t.leaf)
  pub after : get c p ≡ Some (leaf_content s.leaf)
  pub others : (q : Path) → same_path q p ≡ false → get c q ≡ get b q

abbrev pub LeafTurnTold : Type 0
LeafTurnTold = (s t : LeafSwap) (p : Path) (v w : Node) → is_tree v ≡ true → IsChange (λ n m. LeafGives s (seen n) t (seen m)) p v w
    → IsLeafTold s t p (body_of v) (body_of w)

-- the children at the path are others, and nothing else is
pub record AreChildrenTold (change : Kids → Kids) (p : Path) (b c : Body) : Type 0 where
  pub children : Kids
  pub before : (e : Element) (q : Path) → get b (p ++ e ∷ q) ≡ content_told (marks_in (named children e) q)
  pub after : (e : Element) (q : Path) → get c (p ++ e ∷ q) ≡ content_told (marks_in (named (change children) e) q)
  pub here : get c p ≡ option_map (λ x. with_order x (names (change children))) (get b p)
  pub others : (q : Path) → under p q ≡ false → get c q ≡ get b q

abbrev pub EditTurnTold : Type 0
EditTurnTold = (s t : ChildrenEdit) (p : Path) (v w : Node) → is_tree v ≡ true → IsChange (λ n m. EditGives s (seen n) t (seen m)) p v w
    → AreChildrenTold (edited s) p (body_of v) (body_of w)
