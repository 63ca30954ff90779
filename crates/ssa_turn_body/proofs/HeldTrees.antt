-- What changes hold is made of trees, so steps that say the same say one record.
use Rattle.std.proofs.Common.{◌≡◌, ℕ, List, [], ◌∷◌, ◌++◌, map, Bool, true, false, length, Some, None, Option, reverse, refl, sym, ap, subst, ◌∙◌, arith, true≢false}
use Rattle.std.proofs.lemmas.List.{reverse-append}
use Rattle.ssa_model.specs.definitions.Body.{Content}
use Rattle.ssa_model.specs.definitions.Path.{Element, Path}
use Rattle.ssa_model.specs.definitions.PathMap.{from_entries}
use Rattle.ssa_path.specs.View.{element_view, path_view}
use Rattle.ssa_path.proofs.Orders.{both_first, both_second}
use Rattle.ssa_typed.specs.Rows.{are_trees, is_tree}
use Rattle.ssa_typed.specs.Nodes.{node_on}
use Rattle.ssa_typed.specs.declared.node.Node.{Node}
use Rattle.ssa_turn_body.specs.Changes.{ChangeFits, ChangeGives, ChangeSteps, change_steps, leaf_change, children_change}
use Rattle.ssa_turn_body.specs.Descent.{FitsIn, GivesIn}
use Rattle.ssa_turn_body.specs.Edits.{EditSteps, edit_steps}
use Rattle.ssa_turn_body.specs.Marks.{Child, Marks, Place, kids, marks, seen}
use Rattle.ssa_turn_body.specs.Records.{at_place, body_told, cuts_in, leaves_in, orders_in, parts_in, parts_of, place_after, told_by, told_order}
use Rattle.ssa_turn_body.specs.Steps.{StepsFit, StepsLead, step_says}
use Rattle.ssa_turn_body.specs.Turns.{SameSteps}
use Rattle.ssa_turn_body.specs.declared.change.PlaceChange.{PlaceChange}
use Rattle.ssa_turn_body.specs.declared.change.PlaceChange.TheVariants.{Leaf, Children}
use Rattle.ssa_turn_body.specs.declared.steps.BodySteps.{BodySteps}
use Rattle.ssa_turn_body.specs.declared.steps.Step.{Step}
use Rattle.ssa_turn_body.proofs.BodyMarks.{body-same}
use Rattle.ssa_turn_body.proofs.EditSays.{head_or, rest_after}

-- ---- what is held is made of trees

-- what the change holds is made of trees
abbrev pub HoldsTrees : PlaceChange → Type 0
HoldsTrees (Leaf s) = Unit {0}
HoldsTrees (Children s) = are_trees s.value.held.items ≡ true

-- what each of the changes holds is made of trees
abbrev pub AllHoldTrees : List Step → Type 0
AllHoldTrees [] = Unit {0}
AllHoldTrees (s ∷ ss) = HoldsTrees s.change × AllHoldTrees ss

fit-holds : (x : PlaceChange) (v : Place) → ChangeFits x v → HoldsTrees x
fit-holds (Leaf s) v h = tt
fit-holds (Children s) v h = h.trees

left-holds : (x y : PlaceChange) (v w : Place) → ChangeGives x v y w → HoldsTrees y
left-holds (Leaf s) (Leaf t) v w h = tt
left-holds (Leaf s) (Children t) v w h = absurd h
left-holds (Children s) (Leaf t) v w h = absurd h
left-holds (Children s) (Children t) v w h = h.trees

-- a change that fits somewhere holds trees
pub fit-in : (x : PlaceChange) (o : Option Node) → FitsIn (λ n. ChangeFits x (seen n)) o → HoldsTrees x
fit-in x None h = absurd h
fit-in x (Some n) h = fit-holds x (seen n) h

left-in : (x y : PlaceChange) (a b : Option Node) → GivesIn (λ n m. ChangeGives x (seen n) y (seen m)) a b → HoldsTrees y
left-in x y None b h = absurd h
left-in x y (Some n) None h = absurd h
left-in x y (Some n) (Some m) h = left-holds x y (seen n) (seen m) h

-- changes that fit a tree and are made hold trees
pub fit-hold : (ss : List Step) (v : Node) (ts : List Step) (w : Node) → StepsFit ss v → StepsLead ss v ts w → AllHoldTrees ss
fit-hold [] v ts w h l = tt
fit-hold (s ∷ ss) v [] w h l = absurd l
fit-hold (s ∷ ss) v (t ∷ ts) w h l = (fit-in s.change (node_on (path_view s.path.items) v) h.0, fit-hold ss l.0 ts w (h.1 t l.0 l.1) l.2)

-- what changes become holds trees
pub left-hold : (ss : List Step) (v : Node) (ts : List Step) (w : Node) → StepsLead ss v ts w → AllHoldTrees ts
left-hold [] v [] w l = tt
left-hold [] v (t ∷ ts) w l = absurd l
left-hold (s ∷ ss) v [] w l = absurd l
left-hold (s ∷ ss) v (t ∷ ts) w l =
    (left-in s.change t.change (node_on (path_view s.path.items) v) (node_on (path_view s.path.items) l.0) l.1.change.inside, left-hold ss l.0 ts w l.2)

both-hold : (ss ts : List Step) → AllHoldTrees ss → AllHoldTrees ts → AllHoldTrees (ss ++ ts)
both-hold [] ts h g = g
both-hold (s ∷ ss) ts h g = (h.0, both-hold ss ts h.1 g)

-- changes that hold trees do so in the other order
pub reverse-hold : (ss : List Step) → AllHoldTrees ss → AllHoldTrees (reverse ss)
reverse-hold [] h = tt
reverse-hold (s ∷ ss) h = subst AllHoldTrees (sym (reverse-append (s ∷ []) ss)) (both-hold (reverse ss) (s ∷ []) (reverse-hold ss h.1) (h.0, tt))

-- ---- changes that say the same

parts-alike : (order : List Element) (ks : List ℕ) (hs gs : List Child) → kids hs ≡ kids gs → are_trees hs ≡ true → are_trees gs ≡ true
    → parts_of order ks hs ≡ parts_of order ks gs
parts-alike order [] hs gs is h g = refl
parts-alike order (k ∷ ks) [] [] is h g = refl
parts-alike order (k ∷ ks) [] (y ∷ gs) is h g = absurd (omega (arith, ap length is))
parts-alike order (k ∷ ks) (x ∷ hs) [] is h g = absurd (omega (arith, ap length is))
parts-alike order (k ∷ ks) (x ∷ hs) (y ∷ gs) is h g =
    let head : (element_view x.0, marks x.1) ≡ (element_view y.0, marks y.1) = ap (head_or (element_view x.0, marks x.1)) is in
    let part =
    body-same x.1 y.1 (both_first (is_tree x.1) (are_trees hs) h) (both_first (is_tree y.1) (are_trees gs) g) (λ q. ap (λ (z : Element × Marks). z.1 q) head) in
    λ i. (ap (λ (z : Element × Marks). z.0) head i ∷ [], record { below = part i; place = place_after order (ap (λ (z : Element × Marks). z.0) head i) k })
    ∷ parts-alike order ks hs gs (ap rest_after is) (both_second (is_tree x.1) (are_trees hs) h) (both_second (is_tree y.1) (are_trees gs) g) i

abbrev leaf_or : Content → ChangeSteps → Content
leaf_or c (leaf_change d) = d
leaf_or c (children_change s) = c

abbrev edit_or : EditSteps → ChangeSteps → EditSteps
edit_or e (leaf_change d) = e
edit_or e (children_change s) = s

abbrev is_leaf_change : ChangeSteps → Bool
is_leaf_change (leaf_change d) = true
is_leaf_change (children_change s) = false

-- both say one record of their place
record AreOne (x y : PlaceChange) : Type 0 where
  cut : cuts_in x ≡ cuts_in y
  leaf : leaves_in x ≡ leaves_in y
  order : orders_in x ≡ orders_in y
  put : parts_in x ≡ parts_in y

changes-one : (x y : PlaceChange) → change_steps x ≡ change_steps y → HoldsTrees x → HoldsTrees y → AreOne x y
changes-one (Leaf s) (Leaf t) e h g =
    let same = ap (leaf_or (Rattle.ssa_turn_body.specs.Edits.leaf_steps s)) e in
    record { cut = refl; leaf = λ i. ([], same i) ∷ []; order = refl; put = refl }
changes-one (Leaf s) (Children t) e h g = absurd (true≢false (ap is_leaf_change e))
changes-one (Children s) (Leaf t) e h g = absurd (true≢false (sym (ap is_leaf_change e)))
changes-one (Children s) (Children t) e h g =
    let same : edit_steps s.value ≡ edit_steps t.value = ap (edit_or (edit_steps s.value)) e in
    record {
      cut = ap (λ (z : EditSteps). map (λ x. (x ∷ [], tt)) z.gone.1) same;
      leaf = refl;
      order = ap (λ (z : EditSteps). told_order z.order_before z.order_after) same;
      put = ap (λ (z : EditSteps). parts_of z.order_after z.come.0 s.value.held.items) same
          ∙ parts-alike (path_view t.value.order.after.items) t.value.come.places.items s.value.held.items t.value.held.items (ap (λ (z : EditSteps). z.held) same) h g;
    }

record AreAllOne (us ss : List Step) : Type 0 where
  cut : told_by cuts_in us ≡ told_by cuts_in ss
  leaf : told_by leaves_in us ≡ told_by leaves_in ss
  order : told_by orders_in us ≡ told_by orders_in ss
  put : told_by parts_in us ≡ told_by parts_in ss

abbrev first_said : Path × ChangeSteps → List (Path × ChangeSteps) → Path × ChangeSteps
first_said d [] = d
first_said d (x ∷ xs) = x

steps-one : (us ss : List Step) → map step_says us ≡ map step_says ss → AllHoldTrees us → AllHoldTrees ss → AreAllOne us ss
steps-one [] [] e h g = record { cut = refl; leaf = refl; order = refl; put = refl }
steps-one [] (s ∷ ss) e h g = absurd (omega (arith, ap length e))
steps-one (u ∷ us) [] e h g = absurd (omega (arith, ap length e))
steps-one (u ∷ us) (s ∷ ss) e h g =
    let first : step_says u ≡ step_says s = ap (first_said (step_says u)) e in
    let path : path_view u.path.items ≡ path_view s.path.items = ap (λ (z : Path × ChangeSteps). z.0) first in
    let one = changes-one u.change s.change (ap (λ (z : Path × ChangeSteps). z.1) first) h.0 g.0 in
    let rest = steps-one us ss (ap rest_after e) h.1 g.1 in
    record {
      cut = λ i. at_place (path i) (one.cut i) ++ rest.cut i;
      leaf = λ i. at_place (path i) (one.leaf i) ++ rest.leaf i;
      order = λ i. at_place (path i) (one.order i) ++ rest.order i;
      put = λ i. at_place (path i) (one.put i) ++ rest.put i;
    }

-- steps that say the same, and hold trees, say one record
pub same-told : (u s : BodySteps) → SameSteps u s → AllHoldTrees u.steps.items → AllHoldTrees s.steps.items → body_told u ≡ body_told s
same-told u s e h g =
    let one = steps-one u.steps.items s.steps.items e h g in
    λ i. record { cut = from_entries (one.cut i); leaves = from_entries (one.leaf i); order = from_entries (one.order i); put = from_entries (one.put i) }
