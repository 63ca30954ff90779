-- Changes of trees, told by the contents of their bodies.
use Rattle.std.proofs.Common.{◌≡◌, [], ◌∷◌, ◌++◌, Bool, true, false, Option, Some, None, option_map, refl, sym, ap, subst, ◌∙◌, true≢false, append-nil}
use Rattle.ssa_model.specs.definitions.Path.{Element, Path, same_path, under}
use Rattle.ssa_model.specs.definitions.PathMap.{get}
use Rattle.ssa_model.proofs.PathMaps.{same_path-itself}
use Rattle.ssa_model.proofs.Pruned.{under-rest}
use Rattle.ssa_typed.specs.Rows.{body_of, is_tree}
use Rattle.ssa_typed.specs.declared.node.Node.{Node}
use Rattle.ssa_typed.proofs.Looks.{get-body}
use Rattle.ssa_typed.specs.Nodes.{node_on}
use Rattle.ssa_turn_body.specs.Descent.{GivesIn, IsChange}
use Rattle.ssa_turn_body.specs.Marks.{Kids, marks, marks_in, names, Place, seen, with_order}
use Rattle.ssa_turn_body.specs.Edits.{LeafGives, EditGives, edited}
use Rattle.ssa_turn_body.specs.Told.{content_told, from_place, named, MarksTellContents, LeafTurnTold, AreChildrenTold, EditTurnTold}
use Rattle.ssa_turn_body.proofs.Again.{marks-on, marks-place}
use Rattle.ssa_turn_body.proofs.BodyMarks.{content-marks}

-- a body has at each path the content that its tree tells
pub marks-tell : MarksTellContents
marks-tell n p tree = get-body n p ∙ content-marks p n tree

-- what a body has at and below the place at a path
told-at : (p : Path) (v : Node) (o : Option Node) (q : Path) → is_tree v ≡ true → node_on p v ≡ o
    → get (body_of v) (p ++ q) ≡ content_told (marks_in (option_map marks o) q)
told-at p v o q tree is = marks-tell v (p ++ q) tree ∙ ap content_told (marks-on p v q ∙ ap (λ x. marks_in (option_map marks x) q) is)

told-outside : (G : Place → Place → Type 0) (p : Path) (v w : Node) (q : Path) → is_tree v ≡ true → IsChange (λ n m. G (seen n) (seen m)) p v w
    → under p q ≡ false → get (body_of w) q ≡ get (body_of v) q
told-outside G p v w q tree change u = marks-tell w q change.tree ∙ ap content_told (change.outside q u) ∙ sym (marks-tell v q tree)

-- both places
record IsInside (G : Place → Place → Type 0) (p : Path) (v w : Node) : Type 0 where
  before : Node
  after : Node
  before_is : node_on p v ≡ Some before
  after_is : node_on p w ≡ Some after
  given : G (seen before) (seen after)

inside : (G : Place → Place → Type 0) (p : Path) (v w : Node) → IsChange (λ n m. G (seen n) (seen m)) p v w → IsInside G p v w
inside G p v w change = in_both (node_on p v) (node_on p w) refl refl change.inside
  where
    in_both : (a b : Option Node) → node_on p v ≡ a → node_on p w ≡ b → GivesIn (λ n m. G (seen n) (seen m)) a b → IsInside G p v w
    in_both None b e f g = absurd g
    in_both (Some n) None e f g = absurd g
    in_both (Some n) (Some m) e f g = record { before = n; after = m; before_is = e; after_is = f; given = g }

here-told : (p : Path) (v n : Node) (q : Path) → is_tree v ≡ true → node_on p v ≡ Some n → get (body_of v) (p ++ q) ≡ content_told (from_place (seen n) q)
here-told p v n q tree is = told-at p v (Some n) q tree is ∙ ap content_told (marks-place n q)

root-told : (p : Path) (v n : Node) → is_tree v ≡ true → node_on p v ≡ Some n → get (body_of v) p ≡ Some (seen n).0
root-told p v n tree is = ap (get (body_of v)) (sym (append-nil p)) ∙ here-told p v n [] tree is

-- after the change of a leaf the body has the other leaf there, and elsewhere what it had
pub leaf-told : LeafTurnTold
leaf-told s t p v w tree change =
    let i = inside (λ x y. LeafGives s x t y) p v w change in
    let below_none : (n : Node) (u : Node) → is_tree u ≡ true → node_on p u ≡ Some n → (seen n).1 ≡ [] → (e : Element) (q : Path)
    → get (body_of u) (p ++ e ∷ q) ≡ None =
    λ n u tu is none e q. here-told p u n (e ∷ q) tu is ∙ ap (λ ks. content_told (marks_in (named ks e) q)) none in
    record {
      before = root-told p v i.before tree i.before_is ∙ ap Some i.given.taken;
      after = root-told p w i.after change.tree i.after_is ∙ ap Some i.given.put;
      others = λ q u. at q u (under p q) refl (below_none i.before v tree i.before_is i.given.none_before)
          (below_none i.after w change.tree i.after_is i.given.none_after);
    }
  where
    below_same : (r : Path) → same_path (p ++ r) p ≡ false → ((e : Element) (q : Path) → get (body_of v) (p ++ e ∷ q) ≡ None)
        → ((e : Element) (q : Path) → get (body_of w) (p ++ e ∷ q) ≡ None) → get (body_of w) (p ++ r) ≡ get (body_of v) (p ++ r)
    below_same [] u a b = absurd (true≢false (sym (same_path-itself p) ∙ sym (ap (λ q. same_path q p) (append-nil p)) ∙ u))
    below_same (e ∷ r) u a b = b e r ∙ sym (a e r)

    at : (q : Path) → same_path q p ≡ false → (b : Bool) → under p q ≡ b → ((e : Element) (q : Path) → get (body_of v) (p ++ e ∷ q) ≡ None)
        → ((e : Element) (q : Path) → get (body_of w) (p ++ e ∷ q) ≡ None) → get (body_of w) q ≡ get (body_of v) q
    at q u true x a b =
        let rest = under-rest p q x in
        subst (λ z. get (body_of w) z ≡ get (body_of v) z) (sym rest.1) (below_same rest.0 (ap (λ z. same_path z p) (sym rest.1) ∙ u) a b)
    at q u false x a b = told-outside (λ y z. LeafGives s y t z) p v w q tree change x

children-told : (G : Place → Place → Type 0) (f : Kids → Kids) → ((x y : Place) → G x y → y.1 ≡ f x.1)
    → ((x y : Place) → G x y → y.0 ≡ with_order x.0 (names y.1)) → (p : Path) (v w : Node) → is_tree v ≡ true
    → IsChange (λ n m. G (seen n) (seen m)) p v w → AreChildrenTold f p (body_of v) (body_of w)
children-told G f below own p v w tree change =
    let i = inside G p v w change in
    let is = below (seen i.before) (seen i.after) i.given in
    record {
      children = (seen i.before).1;
      before = λ e q. here-told p v i.before (e ∷ q) tree i.before_is;
      after = λ e q. here-told p w i.after (e ∷ q) change.tree i.after_is ∙ ap (λ ks. content_told (marks_in (named ks e) q)) is;
      here =
          root-told p w i.after change.tree i.after_is ∙ ap Some (own (seen i.before) (seen i.after) i.given
          ∙ ap (λ ks. with_order (seen i.before).0 (names ks)) is)
          ∙ sym (ap (λ o. option_map (λ x. with_order x (names (f (seen i.before).1))) o) (root-told p v i.before tree i.before_is));
      others = λ q u. told-outside G p v w q tree change u;
    }

-- after an edit the body has the edited children below the place, and elsewhere what it had
pub edit-told : EditTurnTold
edit-told s t p v w tree change = children-told (λ x y. EditGives s x t y) (edited s) (λ x y g. g.children) (λ x y g. g.own) p v w tree change
