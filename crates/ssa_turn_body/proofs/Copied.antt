-- A copy of a change says the same, fits where the change fits and leads where it leads.
use Rattle.std.proofs.Common.{◌≡◌, ℕ, ◌+◌, ◌≤◌, List, [], ◌∷◌, map, length, reverse, Bool, true, ◌&&◌, Some, None, Option, refl, sym, ap, subst, ◌∙◌, arith}
use Rattle.std.proofs.lemmas.List.{length-map}
use Rattle.std.specs.List.Sorted.{SwapsInRange}
use Rattle.std.specs.Prelude.{vec_capacity}
use Rattle.ssa_model.specs.definitions.Path.{Element, Path}
use Rattle.ssa_model.specs.definitions.PathMap.{from_entries}
use Rattle.ssa_model.specs.definitions.Record.{Part}
use Rattle.ssa_path.specs.View.{element_view, path_view}
use Rattle.ssa_path.proofs.Orders.{both_first, both_second}
use Rattle.ssa_typed.specs.Copies.{kept, kept_below}
use Rattle.ssa_typed.specs.Nodes.{node_on}
use Rattle.ssa_typed.specs.Rows.{Row, are_trees, is_tree}
use Rattle.ssa_typed.specs.declared.node.Node.{Node}
use Rattle.ssa_typed.proofs.Copying.{kept-rows, kept-same, kept-tree}
use Rattle.ssa_turn_body.specs.Changes.{ChangeFits, ChangeGives}
use Rattle.ssa_turn_body.specs.Copies.{ChangeIsCopied, EditIsCopied, StepIsCopied}
use Rattle.ssa_turn_body.specs.Descent.{FitsIn, GivesIn, IsChange}
use Rattle.ssa_turn_body.specs.Edits.{EditFits, EditGives, edited, going, keeps_places, staying, told_unless}
use Rattle.ssa_turn_body.specs.Marks.{Child, Kids, Place, kids, may_stand, names, seen}
use Rattle.ssa_turn_body.specs.Orders.{is_none, reordered}
use Rattle.ssa_turn_body.specs.Records.{cuts_in, leaves_in, orders_in, parts_in, parts_of, place_after, told_order}
use Rattle.ssa_turn_body.specs.Steps.{StepFits, StepLeads}
use Rattle.ssa_turn_body.specs.Woven.{ArePlaces, left, room_for, taken, woven}
use Rattle.ssa_turn_body.specs.declared.change.PlaceChange.{PlaceChange}
use Rattle.ssa_turn_body.specs.declared.change.PlaceChange.TheVariants.{Leaf, Children}
use Rattle.ssa_turn_body.specs.declared.children.ChildrenEdit.{ChildrenEdit}
use Rattle.ssa_turn_body.specs.declared.steps.Step.{Step}
use Rattle.ssa_turn_body.proofs.BodyMarks.{body-marks}
use Rattle.ssa_turn_body.proofs.EditSays.{head_or, rest_after}
use Rattle.ssa_turn_body.proofs.HeldTrees.{HoldsTrees, fit-in}

-- ---- children that are held

-- what a copy of a tree keeps
abbrev Kept : Type 0
Kept = List Row × Bool

-- the parts, told by what copies keep
parts_from : List Element → List ℕ → List (Element × Kept) → List (Path × Part)
parts_from order [] hs = []
parts_from order (k ∷ ks) [] = []
parts_from order (k ∷ ks) (h ∷ hs) = (h.0 ∷ [], record { below = from_entries h.1.0; place = place_after order h.0 k }) ∷ parts_from order ks hs

parts-from : (order : List Element) (ks : List ℕ) (hs : List Child) → parts_of order ks hs ≡ parts_from order ks (kept_below hs)
unfolding parts_from
parts-from order [] hs = refl
parts-from order (k ∷ ks) [] = refl
parts-from order (k ∷ ks) (h ∷ hs) =
    λ i. (element_view h.0 ∷ [], record { below = from_entries (kept h.1).0; place = place_after order (element_view h.0) k }) ∷ parts-from order ks hs i

-- trees that keep the same tell the same
kids-kept : (cs ds : List Child) → kept_below ds ≡ kept_below cs → are_trees cs ≡ true → kids ds ≡ kids cs
kids-kept [] [] e h = refl
kids-kept [] (d ∷ ds) e h = absurd (omega (arith, ap length e))
kids-kept (c ∷ cs) [] e h = absurd (omega (arith, ap length e))
kids-kept (c ∷ cs) (d ∷ ds) e h =
    let head : (element_view d.0, kept d.1) ≡ (element_view c.0, kept c.1) = ap (head_or (element_view d.0, kept d.1)) e in
    let same : kept d.1 ≡ kept c.1 = ap (λ (x : Element × Kept). x.1) head in
    let tree : is_tree c.1 ≡ true = both_first (is_tree c.1) (are_trees cs) h in
    let told = body-marks d.1 c.1 (kept-tree d.1 c.1 same ∙ tree) tree (ap from_entries (kept-rows d.1 c.1 same)) in
    λ i. (ap (λ (x : Element × Kept). x.0) head i, λ q. told q i) ∷ kids-kept cs ds (ap rest_after e) (both_second (is_tree c.1) (are_trees cs) h) i

-- ---- an edit

module _ (s c : ChildrenEdit) (copy : EditIsCopied s c) where
  put-copied : parts_of (path_view c.order.after.items) c.come.places.items c.held.items
      ≡ parts_of (path_view s.order.after.items) s.come.places.items s.held.items
  put-copied =
      parts-from (path_view c.order.after.items) c.come.places.items c.held.items
      ∙ (λ i. parts_from (copy.order_after i) (copy.come i) (copy.held i))
      ∙ sym (parts-from (path_view s.order.after.items) s.come.places.items s.held.items)

  going-copied : {X : Type 0} (xs : List X) → going c xs ≡ going s xs
  going-copied xs = λ i. taken (copy.gone i) 0 (reordered xs (copy.before i))

  staying-copied : {X : Type 0} (xs : List X) → staying c xs ≡ staying s xs
  staying-copied xs = λ i. left (copy.gone i) 0 (reordered xs (copy.before i))

  held-length : length c.held.items ≡ length s.held.items
  held-length = sym (length-map c.held.items _) ∙ ap length copy.held ∙ length-map s.held.items _

  after-length : (xs : Kids) → length c.held.items + length (staying c xs) ≡ length s.held.items + length (staying s xs)
  after-length xs = λ i. held-length i + length (staying-copied xs i)

  keeps-copied : keeps_places c ≡ keeps_places s
  keeps-copied = λ i. is_none (copy.before i) && is_none (copy.after i)

  module _ (trees : are_trees s.held.items ≡ true) where
    kids-copied : kids c.held.items ≡ kids s.held.items
    kids-copied = kids-kept s.held.items c.held.items copy.held trees

    edited-copied : (xs : Kids) → edited c xs ≡ edited s xs
    edited-copied xs = λ i. reordered (woven (copy.come i) 0 (kids-copied i) (staying-copied xs i)) (copy.after i)

  edit-fits : (v : Place) → EditFits s v → EditFits c v
  edit-fits v h =
      let all = sym (after-length v.1) in
      let count : ℕ = length s.held.items + length (staying s v.1) in
      let now = edited-copied h.trees v.1 in
      let need : room_for c.gone.places.items c.come.places.items (length c.held.items + length (staying c v.1))
      ≡ room_for s.gone.places.items s.come.places.items (length s.held.items + length (staying s v.1)) =
      λ i. room_for (copy.gone i) (copy.come i) (after-length v.1 i) in
      record {
        before = subst (SwapsInRange (length v.1)) (sym copy.before) h.before;
        gone = subst (λ ps. ArePlaces 0 ps (length v.1)) (sym copy.gone) h.gone;
        gone_named = copy.gone_named ∙ h.gone_named ∙ ap names (sym (going-copied v.1));
        come = subst (ArePlaces 0 c.come.places.items) all (subst (λ ps. ArePlaces 0 ps count) (sym copy.come) h.come);
        come_named = copy.come_named ∙ h.come_named ∙ ap names (sym (kids-copied h.trees));
        held = held-length ∙ h.held ∙ ap length (sym copy.come);
        after = subst (λ n. SwapsInRange n c.after.items) all (subst (SwapsInRange count) (sym copy.after) h.after);
        order_before = copy.order_before ∙ h.order_before ∙ ap (λ b. told_unless b (names v.1)) (sym keeps-copied);
        order_after = copy.order_after ∙ h.order_after ∙ sym (λ i. told_unless (keeps-copied i) (names (now i)));
        stands = ap (λ ks. may_stand v.0 (names ks)) now ∙ h.stands;
        trees = (kept-same c.held.items s.held.items copy.held).trees_same ∙ h.trees;
        out_empty = copy.out_empty;
        out_room = let n = ap length copy.gone in let m = copy.out_room in let le = h.out_room in omega (arith, n, m, le);
        room_empty = copy.room_empty;
        room = let m = copy.room in let le = h.room in omega (arith, need, m, le);
      }

  edit-gives : are_trees s.held.items ≡ true → (t : ChildrenEdit) (v w : Place) → EditGives c v t w → EditGives s v t w
  edit-gives trees t v w g = record {
    children = g.children ∙ edited-copied trees v.1;
    own = g.own;
    stood = g.stood;
    order = g.order;
    held = g.held ∙ going-copied v.1;
    trees = g.trees;
    before = g.before ∙ ap reverse copy.after;
    gone = g.gone ∙ copy.come;
    gone_named = g.gone_named ∙ ap names (kids-copied trees);
    come = g.come ∙ copy.gone;
    come_named = g.come_named ∙ ap names (going-copied v.1);
    after = g.after ∙ ap reverse copy.before;
    order_before = g.order_before ∙ copy.order_after;
    order_after = g.order_after ∙ copy.order_before;
    out_empty = g.out_empty;
    out_room = subst (λ n. n ≤ vec_capacity t.out) held-length g.out_room;
    room_empty = g.room_empty;
    room = g.room;
  }

-- ---- a change of any sort

-- both changes say the same record of their place
pub record SaySame (x y : PlaceChange) : Type 0 where
  -- the same children are cut
  pub cut : cuts_in y ≡ cuts_in x
  -- the same leaf is told
  pub leaf : leaves_in y ≡ leaves_in x
  -- the same order is told
  pub order : orders_in y ≡ orders_in x
  -- the same parts are put
  pub put : parts_in y ≡ parts_in x

-- a copy of a change says the same record of its place
pub say-same : (x y : PlaceChange) → ChangeIsCopied x y → SaySame x y
say-same (Leaf s) (Leaf c) copy = record { cut = refl; leaf = ap (λ l. ([], l) ∷ []) copy; order = refl; put = refl }
say-same (Leaf s) (Children c) copy = absurd copy
say-same (Children s) (Leaf c) copy = absurd copy
say-same (Children s) (Children c) copy = record {
  cut = ap (map (λ e. (e ∷ [], tt))) copy.gone_named;
  leaf = refl;
  order = λ i. told_order (copy.order_before i) (copy.order_after i);
  put = put-copied s.value c.value copy;
}

change-fits : (x y : PlaceChange) (v : Place) → ChangeIsCopied x y → ChangeFits x v → ChangeFits y v
change-fits (Leaf s) (Leaf c) v copy h = h
change-fits (Leaf s) (Children c) v copy h = absurd copy
change-fits (Children s) (Leaf c) v copy h = absurd copy
change-fits (Children s) (Children c) v copy h = edit-fits s.value c.value copy v h

change-gives : (x y t : PlaceChange) (v w : Place) → ChangeIsCopied x y → HoldsTrees x → ChangeGives y v t w → ChangeGives x v t w
change-gives (Leaf s) (Leaf c) (Leaf t) v w copy h g = record { taken = g.taken; put = g.put ∙ copy; none_before = g.none_before; none_after = g.none_after }
change-gives (Leaf s) (Leaf c) (Children t) v w copy h g = absurd g
change-gives (Leaf s) (Children c) t v w copy h g = absurd copy
change-gives (Children s) (Leaf c) t v w copy h g = absurd copy
change-gives (Children s) (Children c) (Leaf t) v w copy h g = absurd g
change-gives (Children s) (Children c) (Children t) v w copy h g = edit-gives s.value c.value copy h t.value v w g

-- ---- a change at a path

-- a copy of a change fits where the change fits
pub copy-fits : (s c : Step) (v : Node) → StepIsCopied s c → StepFits s v → StepFits c v
copy-fits s c v copy h =
    subst (λ p. FitsIn (λ n. ChangeFits c.change (seen n)) (node_on p v)) (sym copy.path) (in_both (node_on (path_view s.path.items) v) h)
  where
    in_both : (o : Option Node) → FitsIn (λ n. ChangeFits s.change (seen n)) o → FitsIn (λ n. ChangeFits c.change (seen n)) o
    in_both None h = h
    in_both (Some n) h = change-fits s.change c.change (seen n) copy.change h

-- the change at the path of the first
abbrev pub placed_as : Step → Step → Step
placed_as s t = record { path = s.path; change = t.change }

-- where a copy of a change leads, the change leads too
pub copy-leads : (s c t : Step) (v w : Node) → StepIsCopied s c → StepFits s v → StepLeads c v t w → StepLeads s v (placed_as s t) w
copy-leads s c t v w copy fits l =
    let change : IsChange (λ n m. ChangeGives c.change (seen n) t.change (seen m)) (path_view s.path.items) v w =
    subst (λ p. IsChange (λ n m. ChangeGives c.change (seen n) t.change (seen m)) p v w) copy.path l.change in
    record {
      path = refl;
      change = record {
        inside = in_both (node_on (path_view s.path.items) v) (node_on (path_view s.path.items) w) change.inside;
        outside = change.outside;
        tree = change.tree;
      };
    }
  where
    holds : HoldsTrees s.change
    holds = fit-in s.change (node_on (path_view s.path.items) v) fits

    in_both : (a b : Option Node) → GivesIn (λ n m. ChangeGives c.change (seen n) t.change (seen m)) a b
        → GivesIn (λ n m. ChangeGives s.change (seen n) t.change (seen m)) a b
    in_both None b g = g
    in_both (Some n) None g = g
    in_both (Some n) (Some m) g = change-gives s.change c.change t.change (seen n) (seen m) copy.change holds g
