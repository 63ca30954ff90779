-- Changes made one after the other, and those that lead back, the last first.
use Rattle.std.proofs.Common.{◌≡◌, ℕ, ◌+◌, ◌<◌, List, [], ◌∷◌, ◌++◌, length, take, drop, get_or, set, map, reverse, true, refl, sym, ap, subst, ◌∙◌, arith}
use Rattle.std.proofs.lemmas.List.{map-append, reverse-append, reverse-reverse, drop_more, take_more, take_more_set, drop-set-lt, length-set}
use Rattle.ssa_model.specs.definitions.Path.{Path}
use Rattle.ssa_path.specs.View.{path_view}
use Rattle.ssa_typed.specs.Rows.{is_tree}
use Rattle.ssa_typed.specs.declared.node.Node.{Node}
use Rattle.ssa_turn_body.specs.Changes.{ChangeFits, ChangeGives, change_steps, leaf_change, children_change}
use Rattle.ssa_typed.specs.Nodes.{node_on}
use Rattle.ssa_turn_body.specs.Descent.{FitsIn, IsChange}
use Rattle.ssa_turn_body.specs.Marks.{Place, marks, seen}
use Rattle.ssa_turn_body.specs.Steps.{StepFits, StepLeads, StepsFit, StepsLead, step_says}
use Rattle.ssa_turn_body.specs.declared.change.PlaceChange.{PlaceChange}
use Rattle.ssa_turn_body.specs.declared.change.PlaceChange.TheVariants.{Leaf, Children}
use Rattle.ssa_turn_body.specs.declared.steps.Step.{Step}
use Rattle.ssa_turn_body.proofs.Again.{fits-on, back-on, round-trip, change-on}
use Rattle.ssa_turn_body.proofs.Edits.{leaf-back, leaf-again, edit-back, edit-again}

-- ---- one change

change-back : (s t : PlaceChange) (x y : Place) → ChangeFits s x → ChangeGives s x t y → ChangeFits t y
change-back (Leaf s) (Leaf t) x y h g = leaf-back s t x y h g
change-back (Leaf s) (Children t) x y h g = absurd g
change-back (Children s) (Leaf t) x y h g = absurd g
change-back (Children s) (Children t) x y h g = edit-back s.value t.value x y h g

change-again : (s t u : PlaceChange) (x y z : Place) → ChangeFits s x → ChangeGives s x t y → ChangeGives t y u z → (z ≡ x) × (change_steps u ≡ change_steps s)
change-again (Leaf s) (Leaf t) (Leaf u) x y z h g k = let a = leaf-again s t u x y z h g k in (a.0, ap leaf_change a.1)
change-again (Leaf s) (Leaf t) (Children u) x y z h g k = absurd k
change-again (Leaf s) (Children t) u x y z h g k = absurd g
change-again (Children s) (Leaf t) u x y z h g k = absurd g
change-again (Children s) (Children t) (Leaf u) x y z h g k = absurd k
change-again (Children s) (Children t) (Children u) x y z h g k = let a = edit-again s.value t.value u.value x y z h g k in (a.0, ap children_change a.1)

-- two trees tell the same at each path
abbrev pub SameMarks : Node → Node → Type 0
SameMarks n m = (q : Path) → marks n q ≡ marks m q

-- what a change becomes fits what the change leaves
pub step-back : (s t : Step) (v w : Node) → StepFits s v → StepLeads s v t w → StepFits t w
step-back s t v w h l =
    subst (λ p. FitsIn (λ n. ChangeFits t.change (seen n)) (node_on (path_view p) w)) (sym l.path)
    (back-on (ChangeFits s.change) (λ x y. ChangeGives s.change x t.change y) (ChangeFits t.change) (λ x y. change-back s.change t.change x y)
    (path_view s.path.items) v w h l.change)

step-fits : (t : Step) (w w2 : Node) → is_tree w ≡ true → is_tree w2 ≡ true → SameMarks w w2 → StepFits t w → StepFits t w2
step-fits t w w2 tw tw2 same h = fits-on (ChangeFits t.change) (path_view t.path.items) w w2 tw tw2 same h

step-again : (s t u : Step) (v w w2 k : Node) → StepFits s v → StepLeads s v t w → is_tree w2 ≡ true → SameMarks w w2 → StepLeads t w2 u k → SameMarks k v
    × (step_says u ≡ step_says s)
step-again s t u v w w2 k h l tree same again =
    let change : IsChange (λ n m. ChangeGives t.change (seen n) u.change (seen m)) (path_view s.path.items) w2 k =
    subst (λ p. IsChange (λ n m. ChangeGives t.change (seen n) u.change (seen m)) (path_view p) w2 k) l.path again.change in
    let trip =
    round-trip (ChangeFits s.change) (λ x y. ChangeGives s.change x t.change y) (λ x y. ChangeGives t.change x u.change y)
    (change_steps u.change ≡ change_steps s.change) (λ x y z. change-again s.change t.change u.change x y z)
    (path_view s.path.items) v w w2 k h l.change tree same change in (
      trip.0,
      (λ i. (ap path_view (again.path ∙ l.path) i, trip.1 i)),
    )

-- ---- lists of changes

-- changes made one after the other leave a tree
pub leads-tree : (ss : List Step) (v : Node) (ts : List Step) (w : Node) → is_tree v ≡ true → StepsLead ss v ts w → is_tree w ≡ true
leads-tree [] v [] w tree l = ap is_tree l ∙ tree
leads-tree [] v (t ∷ ts) w tree l = absurd l
leads-tree (s ∷ ss) v [] w tree l = absurd l
leads-tree (s ∷ ss) v (t ∷ ts) w tree l = leads-tree ss l.0 ts w l.1.change.tree l.2

fit-append : (xs : List Step) (t : Step) (v : Node) → StepsFit xs v → ((ys : List Step) (w : Node) → StepsLead xs v ys w → StepFits t w)
    → StepsFit (xs ++ t ∷ []) v
fit-append [] t v h f = (f [] v refl, λ u w l. tt)
fit-append (x ∷ xs) t v h f = (h.0, λ y w l. fit-append xs t w (h.1 y w l) (λ ys z m. f (y ∷ ys) z (w, l, m)))

record IsSplit (xs : List Step) (t : Step) (v : Node) (us : List Step) (w : Node) : Type 0 where
  front : List Step
  last : Step
  middle : Node
  whole : us ≡ front ++ last ∷ []
  leads : StepsLead xs v front middle
  step : StepLeads t middle last w

lead-append : (xs : List Step) (t : Step) (v : Node) (us : List Step) (w : Node) → StepsLead (xs ++ t ∷ []) v us w → IsSplit xs t v us w
lead-append [] t v [] w l = absurd l
lead-append [] t v (u ∷ []) w l = record { front = []; last = u; middle = v; whole = refl; leads = refl; step = subst (λ x. StepLeads t v u x) (sym l.2) l.1 }
lead-append [] t v (u ∷ u2 ∷ us) w l = absurd l.2
lead-append (x ∷ xs) t v [] w l = absurd l
lead-append (x ∷ xs) t v (u ∷ us) w l =
    let rest = lead-append xs t l.0 us w l.2 in
    record {
      front = u ∷ rest.front;
      last = rest.last;
      middle = rest.middle;
      whole = ap (λ ys. u ∷ ys) rest.whole;
      leads = (l.0, l.1, rest.leads);
      step = rest.step;
    }

-- the changes that lead back fit what was left, and leave what was there
abbrev LeadsBack : List Step → Node → List Step → Node → Type 0
LeadsBack ss v rs w = StepsFit rs w × ((us : List Step) (x : Node) → StepsLead rs w us x → SameMarks x v × (map step_says us ≡ reverse (map step_says ss)))

none-back : (v w w2 : Node) → w ≡ v → SameMarks w w2 → LeadsBack [] v [] w2
none-back v w w2 e same = (tt, λ us x l. left us x l)
  where
    left : (us : List Step) (x : Node) → StepsLead [] w2 us x → SameMarks x v × (map step_says us ≡ [])
    left [] x l = (λ q. ap (λ n. marks n q) l ∙ sym (same q) ∙ ap (λ n. marks n q) e, refl)
    left (u ∷ us) x l = absurd l

-- what changes become, the last first, leads back from each tree that tells what they left
pub lead-back : (ss : List Step) (v : Node) (ts : List Step) (w w2 : Node) → is_tree v ≡ true → StepsFit ss v → StepsLead ss v ts w → is_tree w2 ≡ true
    → SameMarks w w2 → LeadsBack ss v (reverse ts) w2
lead-back [] v [] w w2 tree fit lead tree2 same = none-back v w w2 lead same
lead-back [] v (t ∷ ts) w w2 tree fit lead tree2 same = absurd lead
lead-back (s ∷ ss) v [] w w2 tree fit lead tree2 same = absurd lead
lead-back (s ∷ ss) v (t ∷ ts) w w2 tree fit lead tree2 same =
    let m = lead.0 in
    let step = lead.1 in
    let rest = lead-back ss m ts w w2 step.change.tree (fit.1 t m step) lead.2 tree2 same in
    subst (λ rs. LeadsBack (s ∷ ss) v rs w2) (sym (reverse-append (t ∷ []) ts)) (
      fit-append (reverse ts) t w2 rest.0 (λ ys x l.
          step-fits t m x step.change.tree (leads-tree (reverse ts) w2 ys x tree2 l) (λ q. sym ((rest.1 ys x l).0 q)) (step-back s t v m fit.0 step)),
      λ us x l.
          let split = lead-append (reverse ts) t w2 us x l in
          let front = rest.1 split.front split.middle split.leads in
          let tree_middle = leads-tree (reverse ts) w2 split.front split.middle tree2 split.leads in
          let last = step-again s t split.last v m split.middle x fit.0 step tree_middle (λ q. sym (front.0 q)) split.step in (
            last.0,
            ap (map step_says) split.whole ∙ map-append step_says split.front (split.last ∷ []) ∙ (λ i. front.1 i ++ last.1 i ∷ [])
                ∙ sym (reverse-append (step_says s ∷ []) (map step_says ss)),
          ),
    )

-- ---- the turn of a record

lead-push : (xs : List Step) (v : Node) (ys : List Step) (m : Node) (s t : Step) (w : Node) → StepsLead xs v ys m → StepLeads s m t w
    → StepsLead (xs ++ s ∷ []) v (ys ++ t ∷ []) w
lead-push [] v [] m s t w l k = (w, subst (λ n. StepLeads s n t w) l k, refl)
lead-push [] v (y ∷ ys) m s t w l k = absurd l
lead-push (x ∷ xs) v [] m s t w l k = absurd l
lead-push (x ∷ xs) v (y ∷ ys) m s t w l k = (l.0, l.1, lead-push xs l.0 ys m s t w l.2 k)

-- so many of the changes are made
pub record IsTurning (before : List Step) (v : Node) (i : ℕ) (steps : List Step) (w : Node) : Type 0 where
  -- the first changes have led to the tree, and have become what stands in their place
  pub leads : StepsLead (take i before) v (take i steps) w
  -- the changes still to be made are as they were
  pub rest : drop i steps ≡ drop i before
  -- those still to be made fit the tree
  pub fit : StepsFit (drop i before) w
  -- there are as many changes as before
  pub long : length steps ≡ length before
  -- what stands now is a tree
  pub tree : is_tree w ≡ true

module _ (before : List Step) (v : Node) (i : ℕ) (steps : List Step) (w : Node) (s : Step) (lt : i < length steps) (is : s ≡ get_or steps i s)
    (h : IsTurning before v i steps w) where
  before_long : i < length before
  before_long = let e = h.long in omega arith

  heads : s ∷ drop (i + 1) steps ≡ get_or before i s ∷ drop (i + 1) before
  heads = ap (λ x. x ∷ drop (i + 1) steps) is ∙ sym (drop_more steps i s lt) ∙ h.rest ∙ drop_more before i s before_long

  head_of : Step → List Step → Step
  head_of d [] = d
  head_of d (x ∷ xs) = x

  rest_of : List Step → List Step
  rest_of [] = []
  rest_of (x ∷ xs) = xs

  same_step : s ≡ get_or before i s
  unfolding head_of
  same_step = ap (head_of s) heads

  same_rest : drop (i + 1) steps ≡ drop (i + 1) before
  unfolding rest_of
  same_rest = ap rest_of heads

  fit_more : StepsFit (s ∷ drop (i + 1) before) w
  fit_more = subst (λ xs. StepsFit xs w) (drop_more before i s before_long ∙ ap (λ x. x ∷ drop (i + 1) before) (sym same_step)) h.fit

  -- with one change more made, the turn goes on
  pub turning-step : (t : Step) (x : Node) → StepLeads s w t x → IsTurning before v (i + 1) (set steps i t) x
  turning-step t x l = record {
    leads =
        subst (λ xs. StepsLead xs v (take (i + 1) (set steps i t)) x) (ap (λ y. take i before ++ y ∷ []) same_step ∙ sym (take_more before i s before_long))
        (subst (λ ys. StepsLead (take i before ++ s ∷ []) v ys x) (sym (take_more_set steps i t lt))
        (lead-push (take i before) v (take i steps) w s t x h.leads l));
    rest = drop-set-lt (i + 1) steps i t (omega arith) ∙ same_rest;
    fit = fit_more.1 t x l;
    long = length-set steps i t ∙ h.long;
    tree = l.change.tree;
  }

-- after the turn a tree is left, which the changes fit that lead back
pub leads-reversed : (ss ts rs : List Step) (v w : Node) → rs ≡ reverse ts → is_tree v ≡ true → StepsFit ss v → StepsLead ss v ts w
    → (StepsLead ss v (reverse rs) w) × (is_tree w ≡ true) × StepsFit rs w
leads-reversed ss ts rs v w e tree fit l =
    let tree_after = leads-tree ss v ts w tree l in (
      subst (λ xs. StepsLead ss v xs w) (sym (reverse-reverse ts) ∙ ap reverse (sym e)) l,
      tree_after,
      subst (λ xs. StepsFit xs w) (sym e) (lead-back ss v ts w w tree fit l tree_after (λ q. refl)).0,
    )

-- what changes say in the other order is what they say, in the other order
pub says-reverse : (xs : List Step) → map step_says (reverse xs) ≡ reverse (map step_says xs)
says-reverse [] = refl
says-reverse (y ∷ ys) =
    ap (map step_says) (reverse-append (y ∷ []) ys) ∙ map-append step_says (reverse ys) (y ∷ [])
    ∙ ap (λ zs. zs ++ step_says y ∷ []) (says-reverse ys) ∙ sym (reverse-append (step_says y ∷ []) (map step_says ys))

-- a second turn
pub turned-twice : (ss rs us : List Step) (v w w2 x : Node) → is_tree v ≡ true → is_tree w2 ≡ true → SameMarks w w2 → StepsFit ss v
    → StepsLead ss v (reverse rs) w → StepsLead rs w2 (reverse us) x → SameMarks x v × (map step_says us ≡ map step_says ss)
turned-twice ss rs us v w w2 x tree tree2 same fit there again =
    let back = lead-back ss v (reverse rs) w w2 tree fit there tree2 same in
    let trip = back.1 (reverse us) x (subst (λ xs. StepsLead xs w2 (reverse us) x) (sym (reverse-reverse rs)) again) in (
      trip.0,
      ap (map step_says) (sym (reverse-reverse us)) ∙ says-reverse (reverse us) ∙ ap reverse trip.1 ∙ reverse-reverse (map step_says ss),
    )

-- ---- over trees that tell the same

-- changes that fit a tree fit each one that tells the same
pub steps-fit : (ss : List Step) (n m : Node) → is_tree n ≡ true → is_tree m ≡ true → SameMarks n m → StepsFit ss n → StepsFit ss m
steps-fit [] n m tn tm same h = h
steps-fit (s ∷ ss) n m tn tm same h = (
  step-fits s n m tn tm same h.0,
  λ t w l. h.1 t w (record { path = l.path; change = change-on (λ x y. ChangeGives s.change x t.change y) (path_view s.path.items) n m w tn tm same l.change }),
)
