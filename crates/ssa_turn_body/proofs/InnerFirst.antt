-- A change fits by the content of its place and the elements of its children, which changes elsewhere keep.
use Rattle.std.proofs.Common.{◌≡◌, ◌+◌, ◌≤◌, List, [], ◌∷◌, length, Option, Some, None, option_map, sym, ap, subst, ◌∙◌, append-nil, vec_capacity}
use Rattle.std.proofs.lemmas.List.{length-map}
use Rattle.std.proofs.lemmas.Option.{none-some, same_Some}
use Rattle.std.specs.List.Sorted.{SwapsInRange}
use Rattle.ssa_model.specs.definitions.Body.{is_leaf}
use Rattle.ssa_model.specs.definitions.Path.{Element, Path}
use Rattle.ssa_path.specs.Children.{elements}
use Rattle.ssa_path.specs.View.{path_view}
use Rattle.ssa_typed.specs.Rows.{below, own_content}
use Rattle.ssa_typed.specs.declared.node.Node.{Node}
use Rattle.ssa_turn_body.specs.Changes.{ChangeFits}
use Rattle.ssa_typed.specs.Nodes.{node_on}
use Rattle.ssa_turn_body.specs.Descent.{FitsIn}
use Rattle.ssa_turn_body.specs.Inner.{AllFit, AreElsewhere, InnerStepsFit}
use Rattle.ssa_turn_body.specs.Marks.{Kids, Mark, Marks, marks, marks_in, kids, names, Place, seen, may_stand}
use Rattle.ssa_turn_body.specs.Steps.{StepFits, StepLeads}
use Rattle.ssa_turn_body.specs.Edits.{EditFits, edited, going, staying, remade, keeps_places, told_unless}
use Rattle.ssa_turn_body.specs.Woven.{ArePlaces, room_for}
use Rattle.ssa_turn_body.specs.declared.change.PlaceChange.{PlaceChange}
use Rattle.ssa_turn_body.specs.declared.change.PlaceChange.TheVariants.{Leaf, Children}
use Rattle.ssa_turn_body.specs.declared.children.ChildrenEdit.{ChildrenEdit}
use Rattle.ssa_turn_body.specs.declared.steps.Step.{Step}
use Rattle.ssa_turn_body.proofs.Again.{marks-on}
use Rattle.ssa_turn_body.proofs.Edits.{map-going, map-staying, map-remade}
use Rattle.ssa_turn_body.proofs.Marking.{marks-level, names-kids}

-- ---- by the content and the elements

abbrev Kid : Type 0
Kid = Element × Marks

name_of : Kid → Element
name_of k = k.0

names-edited : (s : ChildrenEdit) (ks : Kids) → names (edited s ks) ≡ remade s (names (kids s.held.items)) (names ks)
names-edited s ks = sym (map-remade (λ (k : Kid). k.0) s (kids s.held.items) ks)

names-going : (s : ChildrenEdit) (ks : Kids) → names (going s ks) ≡ going s (names ks)
names-going s ks = sym (map-going (λ (k : Kid). k.0) s ks)

names-staying : (s : ChildrenEdit) (ks : Kids) → length (staying s (names ks)) ≡ length (staying s ks)
names-staying s ks = ap length (map-staying (λ (k : Kid). k.0) s ks) ∙ length-map (staying s ks) (λ (k : Kid). k.0)

same-length : (ks ls : Kids) → names ks ≡ names ls → length ks ≡ length ls
same-length ks ls e = sym (length-map ks (λ (k : Kid). k.0)) ∙ ap length e ∙ length-map ls (λ (k : Kid). k.0)

edit-by : (s : ChildrenEdit) (v w : Place) → v.0 ≡ w.0 → names v.1 ≡ names w.1 → EditFits s v → EditFits s w
edit-by s v w own ns h =
    let staying_same : length (staying s v.1) ≡ length (staying s w.1) = sym (names-staying s v.1) ∙ ap (λ es. length (staying s es)) ns
    ∙ names-staying s w.1 in
    let edited_same : names (edited s w.1) ≡ names (edited s v.1) = names-edited s w.1 ∙ ap (remade s (names (kids s.held.items))) (sym ns)
    ∙ sym (names-edited s v.1) in
    record {
      before = subst (λ l. SwapsInRange l s.before.items) (same-length v.1 w.1 ns) h.before;
      gone = subst (λ l. ArePlaces 0 s.gone.places.items l) (same-length v.1 w.1 ns) h.gone;
      gone_named = h.gone_named ∙ names-going s v.1 ∙ ap (going s) ns ∙ sym (names-going s w.1);
      come = subst (λ l. ArePlaces 0 s.come.places.items (length s.held.items + l)) staying_same h.come;
      come_named = h.come_named;
      held = h.held;
      after = subst (λ l. SwapsInRange (length s.held.items + l) s.after.items) staying_same h.after;
      order_before = h.order_before ∙ ap (told_unless (keeps_places s)) ns;
      order_after = h.order_after ∙ ap (told_unless (keeps_places s)) (sym edited_same);
      stands = (λ i. may_stand (sym own i) (edited_same i)) ∙ h.stands;
      trees = h.trees;
      out_empty = h.out_empty;
      out_room = h.out_room;
      room_empty = h.room_empty;
      room = subst (λ l. room_for s.gone.places.items s.come.places.items (length s.held.items + l) ≤ vec_capacity s.room) staying_same h.room;
    }

fits-by : (c : PlaceChange) (v w : Place) → v.0 ≡ w.0 → names v.1 ≡ names w.1 → ChangeFits c v → ChangeFits c w
fits-by (Leaf s) v w own ns h = ap (λ x. is_leaf (Some x)) (sym own) ∙ h
fits-by (Children s) v w own ns h = edit-by s.value v w own ns h

-- ---- at a path

mark-on : (p : Path) (v : Node) → marks v p ≡ marks_in (option_map marks (node_on p v)) []
mark-on p v = ap (marks v) (sym (append-nil p)) ∙ marks-on p v []

fits-there : (c : PlaceChange) (a b : Option Node) → marks_in (option_map marks a) [] ≡ marks_in (option_map marks b) []
    → FitsIn (λ n. ChangeFits c (seen n)) a → FitsIn (λ n. ChangeFits c (seen n)) b
fits-there c None b same h = absurd h
fits-there c (Some n) None same h = absurd (none-some _ (sym same ∙ marks-level n []))
fits-there c (Some n) (Some m) same h =
    let mark : (own_content n, elements (below n)) ≡ (own_content m, elements (below m)) = same_Some _ _ (sym (marks-level n []) ∙ same ∙ marks-level m []) in
    fits-by c (seen n) (seen m) (ap (λ (x : Mark). x.0) mark) (names-kids (below n) ∙ ap (λ (x : Mark). x.1) mark ∙ sym (names-kids (below m))) h

step-kept : (u : Step) (v w : Node) → marks w (path_view u.path.items) ≡ marks v (path_view u.path.items) → StepFits u v → StepFits u w
step-kept u v w same h =
    let p = path_view u.path.items in
    fits-there u.change (node_on p v) (node_on p w) (sym (mark-on p v) ∙ sym same ∙ mark-on p w) h

-- ---- lists of changes

all-kept : (s t : Step) (v w : Node) → StepLeads s v t w → (us : List Step) → AreElsewhere (path_view s.path.items) us → AllFit us v → AllFit us w
all-kept s t v w l [] elsewhere h = h
all-kept s t v w l (u ∷ us) elsewhere h = (step-kept u v w (l.change.outside (path_view u.path.items) elsewhere.0) h.0, all-kept s t v w l us elsewhere.1 h.1)

-- changes that each fit the first tree, the inner ones first, fit one after the other
pub inner-steps-fit : InnerStepsFit
inner-steps-fit [] v tree h inner = h
inner-steps-fit (s ∷ ss) v tree h inner = (h.0, λ t w l. inner-steps-fit ss w l.change.tree (all-kept s t v w l ss inner.0 h.1) inner.1)
