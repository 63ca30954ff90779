-- Changes hold no more than they say: as they are made, turned and copied, together and in the other order.
use Rattle.std.proofs.Common.{◌≡◌, ℕ, ◌≤◌, List, [], ◌∷◌, ◌++◌, length, Bool, true, false, ◌&&◌, Option, Some, None, Vec, Global, reverse, refl, sym, ap, subst, ◌∙◌, arith, true≢false}
use Rattle.std.proofs.lemmas.List.{length-map, length-reverse, reverse-append}
use Rattle.std.specs.Cmp.Lexicographic.{pointwise}
use Rattle.std.specs.List.{AllZip}
use Rattle.ssa_model.specs.definitions.Body.{Content, leaf, atom, record_branch, dict_branch, list_branch}
use Rattle.ssa_model.specs.definitions.Kind.{is_among}
use Rattle.ssa_model.specs.definitions.Path.{Element, same_element}
use Rattle.ssa_model.specs.definitions.Record.{are_in_one_order, common}
use Rattle.ssa_model.proofs.Basics.{and-true}
use Rattle.ssa_model.proofs.Fitting.{among-filter}
use Rattle.ssa_path.specs.Children.{elements, rises}
use Rattle.ssa_path.specs.View.{element_view, path_view}
use Rattle.ssa_path.specs.declared.element.Elem.{Elem}
use Rattle.ssa_path.proofs.InPart.{filter-rises}
use Rattle.ssa_path.proofs.Orders.{both_first, both_second}
use Rattle.ssa_typed.specs.Nodes.{node_on}
use Rattle.ssa_typed.specs.Rows.{are_apart, are_fields, are_items}
use Rattle.ssa_typed.specs.declared.node.Node.{Node}
use Rattle.ssa_turn_body.specs.Between.{IsEditBetween}
use Rattle.ssa_turn_body.specs.Changes.{ChangeGives}
use Rattle.ssa_turn_body.specs.Copies.{ChangeIsCopied, EditIsCopied, StepIsCopied}
use Rattle.ssa_turn_body.specs.Descent.{GivesIn}
use Rattle.ssa_turn_body.specs.Edits.{EditGives, is_idle, keeps_places, told_unless}
use Rattle.ssa_turn_body.specs.Lean.{AreLean, IsLean, IsLeanEdit}
use Rattle.ssa_turn_body.specs.Marks.{Child, Place, may_stand, seen}
use Rattle.ssa_turn_body.specs.Orders.{is_none}
use Rattle.ssa_turn_body.specs.Records.{are_some_items}
use Rattle.ssa_turn_body.specs.Steps.{StepsLead}
use Rattle.ssa_turn_body.specs.declared.change.PlaceChange.{PlaceChange}
use Rattle.ssa_turn_body.specs.declared.change.PlaceChange.TheVariants.{Leaf, Children}
use Rattle.ssa_turn_body.specs.declared.children.ChildrenEdit.{ChildrenEdit}
use Rattle.ssa_turn_body.specs.declared.steps.Step.{Step}
use Rattle.ssa_turn_body.proofs.BodyMarks.{SameMembers, rising-same}
use Rattle.ssa_turn_body.proofs.EditSays.{both-items}
use Rattle.ssa_turn_body.proofs.Edits.{either-way, turned-keeps}
use Rattle.ssa_turn_body.proofs.Missing.{length-elements}
use Rattle.ssa_turn_body.proofs.Saying.{elements-themselves}

-- elements that stand for the same are as many
as-many : (es fs : List Elem) → path_view es ≡ path_view fs → length es ≡ length fs
as-many es fs same = sym (length-map es element_view) ∙ ap length same ∙ length-map fs element_view

-- ---- as they are made

same-common : (es fs : List Element) → SameMembers (common es fs) (common fs es)
unfolding SameMembers
same-common es fs x =
    among-filter (λ e. is_among e fs) es x ∙ either-way (is_among x es) (is_among x fs) ∙ sym (among-filter (λ e. is_among e es) fs x)

-- elements that rise stand in one order
rising-order : (es fs : List Element) → rises es ≡ true → rises fs ≡ true → are_in_one_order es fs ≡ true
rising-order es fs re rf =
    let same = rising-same (common es fs) (common fs es) (filter-rises (λ e. is_among e fs) es re) (filter-rises (λ e. is_among e es) fs rf)
    (same-common es fs) in
    ap (pointwise same_element (common es fs)) (sym same) ∙ elements-themselves (common es fs)

-- children that stand in another order are items of a list
items-exchanged : (o : Content) (es fs : List Element) → may_stand o es ≡ true → may_stand o fs ≡ true → are_in_one_order es fs ≡ false
    → (are_some_items es && are_some_items fs) ≡ true
items-exchanged (leaf s) es fs h k other = absurd (true≢false (sym h))
items-exchanged (atom v) es fs h k other = absurd (true≢false (sym h))
items-exchanged record_branch es fs h k other =
    absurd (true≢false (sym (rising-order es fs (both_first _ (are_fields es) h) (both_first _ (are_fields fs) k)) ∙ other))
items-exchanged dict_branch es fs h k other =
    absurd (true≢false (sym (rising-order es fs (both_first _ (are_fields es) h) (both_first _ (are_fields fs) k)) ∙ other))
items-exchanged (list_branch os) es fs h k other = both-items es fs (both_second _ (are_items es) h) (both_second _ (are_items fs) k) other

-- exchanges that are few beside the children are few beside the order that is told of these
few-told : {X : Type 0} (xs : List X) (es : List Element) (told : List Elem) → path_view told ≡ told_unless (is_none xs) es → length xs ≤ length es
    → length xs ≤ length told
few-told [] es told is few = omega arith
few-told (x ∷ xs) es told is few = let long = sym (length-map told element_view) ∙ ap length is in omega (arith, long, few)

-- an edit that leads from one place to another, and is not idle, holds no more than it says, whatever comes by it
pub between-lean : (o : Content) (cs ds : List Child) (fs : List (Option ℕ)) (s : ChildrenEdit) → IsEditBetween cs ds fs s → (h : Vec Child Global)
    → are_apart (elements cs) ≡ true → may_stand o (elements cs) ≡ true → may_stand o (elements ds) ≡ true → is_idle s ≡ false
    → IsLeanEdit (record s { held = h })
between-lean o cs ds fs s between h apart stand_before stand_after busy = record {
  busy = busy;
  items = λ moved.
      let keeps : is_none s.before.items ≡ keeps_places s =
      sym (and-true (is_none s.before.items)) ∙ ap (λ xs. is_none s.before.items && is_none xs) (sym between.after) in
      let told : is_none s.before.items ≡ false = keeps ∙ moved in
      (λ i. are_some_items ((between.order_before ∙ ap (λ b. told_unless b (elements cs)) told) i)
      && are_some_items ((between.order_after ∙ ap (λ b. told_unless b (elements ds)) told) i))
      ∙ items-exchanged o (elements cs) (elements ds) stand_before stand_after (sym (between.in_order apart) ∙ told);
  few_before = few-told s.before.items (elements cs) s.order.before.items between.order_before
      (let few = between.few in let long = length-elements cs in omega arith);
  few_after = let none = ap length between.after in omega arith;
}

-- ---- turned

last-exchanged : (a b c : Bool) → (a && b && c) ≡ (a && c && b)
last-exchanged true b c = either-way b c
last-exchanged false b c = refl

edit-turned : (s t : ChildrenEdit) (v w : Place) → EditGives s v t w → IsLeanEdit s → IsLeanEdit t
edit-turned s t v w g h =
    let keeps = turned-keeps s t v w g in
    record {
      busy = (λ i. sym keeps i && is_none (g.gone i) && is_none (g.come i))
          ∙ last-exchanged (keeps_places s) (is_none s.come.places.items) (is_none s.gone.places.items) ∙ h.busy;
      items = λ moved.
          (λ i. are_some_items (g.order_before i) && are_some_items (g.order_after i))
          ∙ either-way (are_some_items (path_view s.order.after.items)) (are_some_items (path_view s.order.before.items)) ∙ h.items (keeps ∙ moved);
      few_before =
          let few = h.few_after in
          let long = ap length g.before ∙ length-reverse s.after.items in
          let told = as-many t.order.before.items s.order.after.items g.order_before in
          omega arith;
      few_after =
          let few = h.few_before in
          let long = ap length g.after ∙ length-reverse s.before.items in
          let told = as-many t.order.after.items s.order.before.items g.order_after in
          omega arith;
    }

change-turned : (x y : PlaceChange) (v w : Place) → ChangeGives x v y w → IsLean x → IsLean y
change-turned (Leaf s) (Leaf t) v w g h = tt
change-turned (Leaf s) (Children t) v w g h = absurd g
change-turned (Children s) (Leaf t) v w g h = absurd g
change-turned (Children s) (Children t) v w g h = edit-turned s.value t.value v w g h

turned-in : (x y : PlaceChange) (a b : Option Node) → GivesIn (λ n m. ChangeGives x (seen n) y (seen m)) a b → IsLean x → IsLean y
turned-in x y None b g h = absurd g
turned-in x y (Some n) None g h = absurd g
turned-in x y (Some n) (Some m) g h = change-turned x y (seen n) (seen m) g h

-- what changes become holds no more than it says
pub turned-lean : (ss : List Step) (v : Node) (ts : List Step) (w : Node) → StepsLead ss v ts w → AreLean ss → AreLean ts
turned-lean [] v [] w l h = tt
turned-lean [] v (t ∷ ts) w l h = absurd l
turned-lean (s ∷ ss) v [] w l h = absurd l
turned-lean (s ∷ ss) v (t ∷ ts) w l h = (
  turned-in s.change t.change (node_on (path_view s.path.items) v) (node_on (path_view s.path.items) l.0) l.1.change.inside h.0,
  turned-lean ss l.0 ts w l.2 h.1,
)

-- ---- copied

edit-copied : (s c : ChildrenEdit) → EditIsCopied s c → IsLeanEdit s → IsLeanEdit c
edit-copied s c copy h = record {
  busy = (λ i. is_none (copy.before i) && is_none (copy.after i) && is_none (copy.gone i) && is_none (copy.come i)) ∙ h.busy;
  items = λ moved.
      (λ i. are_some_items (copy.order_before i) && are_some_items (copy.order_after i))
      ∙ h.items ((λ i. is_none (sym copy.before i) && is_none (sym copy.after i)) ∙ moved);
  few_before =
      let few = h.few_before in
      let long = ap length copy.before in
      let told = as-many c.order.before.items s.order.before.items copy.order_before in
      omega arith;
  few_after =
      let few = h.few_after in
      let long = ap length copy.after in
      let told = as-many c.order.after.items s.order.after.items copy.order_after in
      omega arith;
}

change-copied : (x y : PlaceChange) → ChangeIsCopied x y → IsLean x → IsLean y
change-copied (Leaf s) (Leaf c) copy h = tt
change-copied (Leaf s) (Children c) copy h = absurd copy
change-copied (Children s) (Leaf c) copy h = absurd copy
change-copied (Children s) (Children c) copy h = edit-copied s.value c.value copy h

-- copies of changes hold no more than they say
pub copies-lean : (ss cs : List Step) → AllZip StepIsCopied ss cs → AreLean ss → AreLean cs
copies-lean [] [] z h = tt
copies-lean [] (c ∷ cs) z h = absurd z
copies-lean (s ∷ ss) [] z h = absurd z
copies-lean (s ∷ ss) (c ∷ cs) z h = (change-copied s.change c.change z.0.change h.0, copies-lean ss cs z.1 h.1)

-- ---- together, and in the other order

-- two lists of changes together
pub both-lean : (ss ts : List Step) → AreLean ss → AreLean ts → AreLean (ss ++ ts)
both-lean [] ts h g = g
both-lean (s ∷ ss) ts h g = (h.0, both-lean ss ts h.1 g)

-- changes in the other order
pub reverse-lean : (ss : List Step) → AreLean ss → AreLean (reverse ss)
reverse-lean [] h = tt
reverse-lean (s ∷ ss) h = subst AreLean (sym (reverse-append (s ∷ []) ss)) (both-lean (reverse ss) (s ∷ []) (reverse-lean ss h.1) (h.0, tt))
