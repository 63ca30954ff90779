-- One list of children over another, by one walk over both, whose elements rise.
use Rattle.std.proofs.Common.{◌≡◌, List, [], ◌∷◌, ◌++◌, true, false, cond, Option, Some, None, Less, Equal, Greater, refl, sym, ap, subst, ◌∙◌, append_assoc, append-nil}
use Rattle.std.specs.Ordering.{is_lt}
use Rattle.ssa_model.specs.definitions.Body.{over_content}
use Rattle.ssa_model.specs.definitions.Path.{Element, Path, element_cmp, same_element}
use Rattle.ssa_model.proofs.Basics.{both-true as both}
use Rattle.ssa_path.specs.Children.{child_at, elements, heads_order, is_below, rises}
use Rattle.ssa_path.specs.View.{element_view}
use Rattle.ssa_path.proofs.Combining.{tied-heads}
use Rattle.ssa_path.proofs.Orders.{both_first, both_second}
use Rattle.ssa_typed.specs.Copies.{kept}
use Rattle.ssa_typed.specs.Over.{AreAlikeBelow, AreAlikeTrees, AreOverInOrder, HaveOver, IsOver}
use Rattle.ssa_typed.specs.Points.{content_in}
use Rattle.ssa_typed.specs.Rows.{are_trees, content_at, is_tree, rows}
use Rattle.ssa_typed.specs.declared.node.Node.{Node}
use Rattle.ssa_typed.proofs.Building.{Child}
use Rattle.ssa_typed.proofs.Copying.{kept-rows, kept-tree}
use Rattle.ssa_typed.proofs.Levels.{rises-apart}
use Rattle.ssa_typed.proofs.Making.{IsFront, front-both, front-other, front-own}
use Rattle.ssa_typed.proofs.OverNodes.{head-child, later-child}
use Rattle.ssa_typed.proofs.Overlaying.{over-none}

-- ---- one child in front

-- the child stands under the element, with the configuration's contents over the live ones
record IsPlaced (f : Element) (own other : Option Node) (x : Child) : Type 0 where
  element : element_view x.0 ≡ f
  content : (p : Path) → content_at (rows x.1) p ≡ over_content (content_in own p) (content_in other p)
  tree : is_tree x.1 ≡ true

-- these children are those of both lists, one over the other, in order
pub record IsMadeOver (cs ds us : List Child) : Type 0 where
  -- their elements rise
  pub rise : rises (elements us) ≡ true
  -- at each path is the configuration's content over the live one's
  pub contents : HaveOver cs ds us
  -- they are trees
  pub trees : are_trees us ≡ true
  -- what is below the elements of both lists is below theirs
  pub lower : (e : Element) → is_below e (elements cs) ≡ true → is_below e (elements ds) ≡ true → is_below e (elements us) ≡ true

module _ (f : Element) (own other : Option Node) (cs0 ds0 cs ds us : List Child) (x : Child) (front : IsFront f own other cs0 ds0 cs ds)
    (placed : element_view x.0 ≡ f) where
  made-front : IsPlaced f own other x → IsMadeOver cs ds us → IsMadeOver cs0 ds0 (x ∷ us)
  made-front child h = record {
    rise = both _ _ (ap (λ e. is_below e (elements us)) placed ∙ h.lower f front.own_above front.other_above) h.rise;
    contents = λ e p.
        ap (λ g. content_in (cond (same_element e g) (Some x.1) (child_at e us)) p) placed
        ∙ (elim (same_element e f) as (λ t. content_in (cond t (Some x.1) (child_at e us)) p
        ≡ over_content (content_in (cond t own (child_at e cs)) p) (content_in (cond t other (child_at e ds)) p)) [
          | true ↦ child.content p
          | false ↦ h.contents e p
        ])
        ∙ sym (λ i. over_content (content_in (front.own e i) p) (content_in (front.other e i) p));
    trees = both _ _ child.tree h.trees;
    lower = λ e a b. let parts = front.lower e a b in both _ _ (ap (λ g. is_lt (element_cmp e g)) placed ∙ parts.0) (h.lower e parts.1 parts.2);
  }

-- ---- the walk over both lists

-- what is left of both lists can be put one over the other, and what is made of it, behind what is there, is made of both
pub record IsOverSoFar (cs0 ds0 cs ds out : List Child) : Type 0 where
  -- what is left of the live children rises
  pub own_rise : rises (elements cs) ≡ true
  -- what is left of the configuration's rises
  pub others_rise : rises (elements ds) ≡ true
  -- the live children left are trees
  pub own_trees : are_trees cs ≡ true
  -- so are the configuration's
  pub others_trees : are_trees ds ≡ true
  -- where both have a child left, the two are alike
  pub alike : AreAlikeBelow cs ds
  -- what is made of what is left completes what is there
  pub rest : (us : List Child) → IsMadeOver cs ds us → IsMadeOver cs0 ds0 (out ++ us)

-- before the walk all is left
pub over-start : (cs ds : List Child) → rises (elements cs) ≡ true → rises (elements ds) ≡ true → are_trees cs ≡ true → are_trees ds ≡ true
    → AreAlikeBelow cs ds → IsOverSoFar cs ds cs ds []
over-start cs ds own_rise others_rise own_trees others_trees alike =
    record {
      own_rise = own_rise;
      others_rise = others_rise;
      own_trees = own_trees;
      others_trees = others_trees;
      alike = alike;
      rest = λ us h. h;
    }

-- where nothing is left, all are there
pub over-end : (cs0 ds0 cs ds out : List Child) → cs ≡ [] → ds ≡ [] → IsOverSoFar cs0 ds0 cs ds out → AreOverInOrder cs0 ds0 out
over-end cs0 ds0 cs ds out e f h =
    let none : IsMadeOver [] [] [] = record { rise = refl; contents = λ e p. refl; trees = refl; lower = λ e a b. refl } in
    let left : IsMadeOver cs ds [] = rw (e, f) none in
    let made = subst (IsMadeOver cs0 ds0) (append-nil out) (h.rest [] left) in
    record { rise = made.rise; contents = made.contents; trees = made.trees }

behind : (out new us : List Child) (x : Child) → new ≡ out ++ x ∷ [] → new ++ us ≡ out ++ x ∷ us
behind out new us x pushed = ap (λ l. l ++ us) pushed ∙ append_assoc out (x ∷ []) us

module _ (cs0 ds0 : List Child) (c : Child) (cs ds out new : List Child) (x : Child) (h : IsOverSoFar cs0 ds0 (c ∷ cs) ds out)
    (order : heads_order (c ∷ cs) ds ≡ Some Less) (same : element_view x.0 ≡ element_view c.0) (copy : kept x.1 ≡ kept c.1) (pushed : new ≡ out ++ x ∷ []) where
  -- a live child that the configuration lacks is copied
  pub over-copied : IsOverSoFar cs0 ds0 cs ds new
  over-copied =
      let e = element_view c.0 in
      let front = front-own c cs ds order h.own_rise h.others_rise in
      record {
        own_rise = both_second (is_below e (elements cs)) _ h.own_rise;
        others_rise = h.others_rise;
        own_trees = both_second (is_tree c.1) _ h.own_trees;
        others_trees = h.others_trees;
        alike = λ g a b is_a is_b. h.alike g a b (later-child c cs g a (rises-apart (elements (c ∷ cs)) h.own_rise) is_a) is_b;
        rest = λ us g.
            subst (IsMadeOver cs0 ds0) (sym (behind out new us x pushed))
            (h.rest (x ∷ us) (made-front e (Some c.1) None (c ∷ cs) ds cs ds us x front same
            (record {
              element = same;
              content = λ p. ap (λ rs. content_at rs p) (kept-rows x.1 c.1 copy);
              tree = kept-tree x.1 c.1 copy ∙ both_first (is_tree c.1) _ h.own_trees;
            }) g));
      }

-- a child that the configuration alone has is moved
pub over-moved : (cs0 ds0 cs : List Child) (d : Child) (ds out new : List Child) → heads_order cs (d ∷ ds) ≡ Some Greater → new ≡ out ++ d ∷ []
    → IsOverSoFar cs0 ds0 cs (d ∷ ds) out → IsOverSoFar cs0 ds0 cs ds new
over-moved cs0 ds0 cs d ds out new order pushed h =
    let e = element_view d.0 in
    let front = front-other cs d ds order h.own_rise h.others_rise in
    record {
      own_rise = h.own_rise;
      others_rise = both_second (is_below e (elements ds)) _ h.others_rise;
      own_trees = h.own_trees;
      others_trees = both_second (is_tree d.1) _ h.others_trees;
      alike = λ g a b is_a is_b. h.alike g a b is_a (later-child d ds g b (rises-apart (elements (d ∷ ds)) h.others_rise) is_b);
      rest = λ us g.
          subst (IsMadeOver cs0 ds0) (sym (behind out new us d pushed))
          (h.rest (d ∷ us) (made-front e None (Some d.1) cs (d ∷ ds) cs ds us d front refl
          (record {
            element = refl;
            content = λ p. sym (over-none (content_at (rows d.1) p));
            tree = both_first (is_tree d.1) _ h.others_trees;
          }) g));
    }

module _ (cs0 ds0 : List Child) (c d : Child) (cs ds out : List Child) (h : IsOverSoFar cs0 ds0 (c ∷ cs) (d ∷ ds) out)
    (order : heads_order (c ∷ cs) (d ∷ ds) ≡ Some Equal) where
  -- both children are trees, and alike
  pub heads-alike : (is_tree c.1 ≡ true) × (is_tree d.1 ≡ true) × AreAlikeTrees c.1 d.1
  heads-alike = (
    both_first (is_tree c.1) _ h.own_trees,
    both_first (is_tree d.1) _ h.others_trees,
    h.alike (element_view c.0) c.1 d.1 (head-child c cs) (ap (λ e. child_at e (d ∷ ds)) (tied-heads c d cs ds order) ∙ head-child d ds),
  )

  module _ (n : Node) (new : List Child) (pushed : new ≡ out ++ (d.0, n) ∷ []) where
    -- the configuration's child is put over the live one of its element
    pub over-both : IsOver c.1 d.1 n → IsOverSoFar cs0 ds0 cs ds new
    over-both over =
        let e = element_view c.0 in
        let x : Child = (d.0, n) in
        let front = front-both c d cs ds order h.own_rise h.others_rise in
        let same = sym (tied-heads c d cs ds order) in
        record {
          own_rise = both_second (is_below e (elements cs)) _ h.own_rise;
          others_rise = both_second (is_below (element_view d.0) (elements ds)) _ h.others_rise;
          own_trees = both_second (is_tree c.1) _ h.own_trees;
          others_trees = both_second (is_tree d.1) _ h.others_trees;
          alike = λ g a b is_a is_b. h.alike g a b (later-child c cs g a (rises-apart (elements (c ∷ cs)) h.own_rise) is_a)
              (later-child d ds g b (rises-apart (elements (d ∷ ds)) h.others_rise) is_b);
          rest = λ us g.
              subst (IsMadeOver cs0 ds0) (sym (behind out new us x pushed))
              (h.rest (x ∷ us) (made-front e (Some c.1) (Some d.1) (c ∷ cs) (d ∷ ds) cs ds us x front same
              (record { element = same; content = over.content; tree = over.tree }) g));
        }
