-- An edit of the children of a place says what the place before and the place after say.
use Rattle.std.proofs.Common.{◌≡◌, ℕ, List, [], ◌∷◌, Bool, true, false, ◌&&◌, not, Box, Global, Option, Some, None, option_map, refl, sym, ap, ◌∙◌}
use Rattle.std.specs.Prelude.{is_some, if◌then◌else◌}
use Rattle.std.specs.FinMap.Entries.{find}
use Rattle.ssa_model.specs.definitions.Body.{Content}
use Rattle.ssa_model.specs.definitions.Kind.{is_among}
use Rattle.ssa_model.specs.definitions.Path.{Element, Path, path_cmp}
use Rattle.ssa_model.specs.definitions.Record.{are_in_one_order, new_order}
use Rattle.ssa_model.proofs.Fitting.{among-filter}
use Rattle.ssa_path.specs.View.{path_view}
use Rattle.ssa_typed.specs.Rows.{are_trees}
use Rattle.ssa_turn_body.specs.Edits.{named_in, told_unless}
use Rattle.ssa_turn_body.specs.Found.{AreKnown, fresh, nones}
use Rattle.ssa_turn_body.specs.Marks.{Kids, Marks, kids, may_stand, names, with_order}
use Rattle.ssa_turn_body.specs.Records.{parts_of, told_order}
use Rattle.ssa_turn_body.specs.Said.{AreTold, Contents, Said, between, contents, shown, stands_in, swapped}
use Rattle.ssa_turn_body.specs.Told.{content_told, from_place, named}
use Rattle.ssa_turn_body.specs.declared.change.PlaceChange.TheVariants.{Children}
use Rattle.ssa_turn_body.specs.declared.children.ChildrenEdit.{ChildrenEdit}
use Rattle.ssa_turn_body.specs.declared.steps.Step.{Step}
use Rattle.ssa_turn_body.proofs.EditSays.{come_first, told_in, cut-found, cut-root, cut-deeper, part-root, part-deeper, parts-come, come-both, come-absent, come-new, place-of, named-among, order-below, order-said, no-swap, place-said, no-leaf, no-list, deep-said}
use Rattle.ssa_turn_body.proofs.Knowing.{fresh-known}
use Rattle.ssa_turn_body.proofs.Saying.{order-itself, root-said, said_in, says-inside, says-outside, swap-itself}

-- an edit leads from the first children to the second, where the common ones are the same
pub record IsEdit (o : Content) (n : Bool) (ks ls : Kids) (x : ChildrenEdit) : Type 0 where
  -- of each of the first children its place among the second, if it has one
  pub back : List (Option ℕ)
  -- of each of the second children its place among the first, if it has one
  pub found : List (Option ℕ)
  -- the first children may stand at the place
  pub stand_before : may_stand o (names ks) ≡ true
  -- the second children may stand at the place
  pub stand_after : may_stand o (names ls) ≡ true
  -- no order is told just where the common children stand in one order
  pub in_order : n ≡ are_in_one_order (names ks) (names ls)
  -- the order before is that of the first children, where one is told
  pub order_before : path_view x.order.before.items ≡ told_unless n (names ks)
  -- the order after is that of the second children, where one is told
  pub order_after : path_view x.order.after.items ≡ told_unless n (names ls)
  -- those that go are the first children that are not among the second
  pub gone : named_in x.gone ≡ fresh back (names ks)
  -- the places told of the first children are of just those among the second
  pub gone_known : AreKnown back (names ks) (names ls)
  -- the places of those that come are those of the second children that are not among the first
  pub come : x.come.places.items ≡ nones 0 found
  -- the places told of the second children are of just those among the first
  pub come_known : AreKnown found (names ls) (names ks)
  -- what is held is what comes
  pub held : kids x.held.items ≡ fresh found ls
  -- what is held is made of trees
  pub trees : are_trees x.held.items ≡ true
  -- a child that both have tells the same in both
  pub same : (e : Element) (f h : Marks) → named ks e ≡ Some f → named ls e ≡ Some h → (q : Path) → f q ≡ h q
  -- each of the first children has something at its root
  pub root_before : (e : Element) (f : Marks) → named ks e ≡ Some f → is_some (content_told (f [])) ≡ true
  -- each of the second children has something at its root
  pub root_after : (e : Element) (f : Marks) → named ls e ≡ Some f → is_some (content_told (f [])) ≡ true

-- what two places say of one child
abbrev child_said : Option Marks → Option Marks → Option ℕ → Said
child_said x y k = record {
  cut = if is_some (told_in x []) && (not (is_some (told_in y [])) && true) then Some tt else None;
  leaf = swapped (told_in x []) (told_in y []);
  order = new_order (told_in x []) (told_in y []);
  put = if is_some (told_in y []) && (not (is_some (told_in x [])) && true) then Some (told_in y, k) else None;
}

module _ (o : Content) (n : Bool) (ks ls : Kids) (x : Box ChildrenEdit Global) (h : IsEdit o n ks ls x.value) where
  abbrev first : Contents
  first = contents (from_place (with_order o (names ks), ks))

  abbrev second : Contents
  second = contents (from_place (with_order o (names ls), ls))

  abbrev order : List Element
  order = told_unless n (names ls)

  cut-is : (e : Element) → find path_cmp (e ∷ []) (Rattle.ssa_turn_body.proofs.EditSays.singles (named_in x.value.gone))
      ≡ (if is_some (named ks e) && not (is_some (named ls e)) then Some tt else None)
  cut-is e =
      cut-found (named_in x.value.gone) e
      ∙ ap (λ es. if is_among e es then Some tt else None) (h.gone ∙ fresh-known h.back (names ks) (names ls) h.gone_known)
      ∙ ap (λ b. if b then Some tt else None) (among-filter (λ f. not (is_among f (names ls))) (names ks) e
      ∙ (λ i. named-among ks e i && not (named-among ls e i)))

  put-is : (e : Element) → option_map shown (find path_cmp (e ∷ []) (parts_of (path_view x.value.order.after.items) x.value.come.places.items x.value.held.items))
      ≡ come_first order h.found 0 ls e
  put-is e =
      (λ i. option_map shown (find path_cmp (e ∷ []) (parts_of (h.order_after i) (h.come i) x.value.held.items)))
      ∙ parts-come order h.found 0 ls x.value.held.items e h.held h.trees

  among-first : (e : Element) (f : Marks) → named ks e ≡ Some f → is_among e (names ks) ≡ true
  among-first e f is = named-among ks e ∙ ap is_some is

  child-by : (e : Element) (a b : Option Marks) → named ks e ≡ a → named ls e ≡ b
      → ◌≡◌ {A = Said} (record {
        cut = if is_some a && not (is_some b) then Some tt else None;
        leaf = None;
        order = None;
        put = come_first order h.found 0 ls e;
      }) (child_said a b (stands_in second (e ∷ [])))
  child-by e None None is_a is_b = λ i. record { cut = None; leaf = None; order = None; put = come-absent order h.found 0 ls e is_b i }
  child-by e (Some f) None is_a is_b =
      let root = h.root_before e f is_a in
      λ i. record {
        cut = if sym root i && (true && true) then Some tt else None;
        leaf = sym (no-leaf (content_told (f []))) i;
        order = sym (no-list (content_told (f []))) i;
        put = come-absent order h.found 0 ls e is_b i;
      }
  child-by e None (Some g) is_a is_b =
      let root = h.root_after e g is_b in
      let at = place-of ls 0 e g is_b in
      let new : is_among e (names ks) ≡ false = named-among ks e ∙ ap is_some is_a in
      let put =
      come-new order h.found 0 ls (names ks) e g at.place h.come_known new is_b at.is
      ∙ ap (λ k. Some (contents g, k)) (place-said o n (names ls) e at.place h.stand_after at.is)
      ∙ (λ i. if sym root i && (true && true) then Some (contents g, stands_in second (e ∷ [])) else None) in
      λ i. record { cut = None; leaf = None; order = None; put = put i }
  child-by e (Some f) (Some g) is_a is_b =
      let root = h.root_before e f is_a in
      let root_after = h.root_after e g is_b in
      let same = ap content_told (h.same e f g is_a is_b []) in
      let none = come-both order h.found 0 ls (names ks) e h.come_known (among-first e f is_a) in
      let leaf_none = ap (swapped (content_told (f []))) (sym same) ∙ swap-itself (content_told (f [])) in
      let order_none = ap (new_order (content_told (f []))) (sym same) ∙ order-itself (content_told (f [])) in
      let put = none ∙ (λ i. if sym root_after i && (not (sym root i) && true) then Some (contents g, stands_in second (e ∷ [])) else None) in
      λ i. record {
        cut = if sym root i && (not (sym root_after i) && true) then Some tt else None;
        leaf = sym leaf_none i;
        order = sym order_none i;
        put = put i;
      }

  -- the edit says of each path from the place on what the two places say of it
  pub edit-says : (r : Path) → said_in (Children x) r ≡ between first second r
  edit-says [] =
      let order_is =
      (λ i. find path_cmp [] (told_order (h.order_before i) (h.order_after i)))
      ∙ order-said o n (names ks) (names ls) h.stand_before h.stand_after h.in_order in
      (λ i. record {
        cut = cut-root (named_in x.value.gone) i;
        leaf = sym (no-swap o (names ks) (names ls) h.stand_before) i;
        order = order_is i;
        put = option_map shown (part-root (path_view x.value.order.after.items) x.value.come.places.items x.value.held.items i);
      })
      ∙ sym (root-said first second)
  edit-says (e ∷ []) =
      (λ i. record {
        cut = cut-is e i;
        leaf = None;
        order = order-below (path_view x.value.order.before.items) (path_view x.value.order.after.items) e [] i;
        put = put-is e i;
      })
      ∙ child-by e (named ks e) (named ls e) refl refl
  edit-says (e ∷ g ∷ q) =
      (λ i. record {
        cut = cut-deeper (named_in x.value.gone) e g q i;
        leaf = None;
        order = order-below (path_view x.value.order.before.items) (path_view x.value.order.after.items) e (g ∷ q) i;
        put = option_map shown (part-deeper (path_view x.value.order.after.items) x.value.come.places.items x.value.held.items e g q i);
      })
      ∙ sym (deep-said (named ks e) (named ls e) g q (λ f k is_f is_k. h.same e f k is_f is_k))

  -- a step with this edit says at and below its path what the two places say
  pub edit-step-told : (s : Step) → s.change ≡ Children x → AreTold (path_view s.path.items) first second (s ∷ [])
  edit-step-told s is = record {
    inside = λ r. says-inside s r ∙ ap (λ c. said_in c r) is ∙ edit-says r;
    outside = λ q u. says-outside s q u;
  }
