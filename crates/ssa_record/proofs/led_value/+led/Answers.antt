use Rattle.std.proofs.Common.{◌≡◌, ◌+◌, ◌*◌, ◌<◌, ◌∷◌, [], ◌++◌, drop, get_or, take, length, Some, None, refl, sym, ap, subst, ◌∙◌, arith, rules}
use Rattle.std.proofs.lemmas.List.{map-append, take_all}
use Rattle.std.specs.Option.{option_copied, unwrap_or}
use Rattle.std.specs.Prelude.{option_map, IfNone, IfSome}
use Rattle.ssa_model.specs.definitions.Body.{order_at}
use Rattle.ssa_model.specs.definitions.Json.{list}
use Rattle.ssa_model.specs.definitions.PathMap.{get, has}
use Rattle.ssa_model.proofs.Fitting.{same_element-true}
use Rattle.ssa_json.proofs.Views.{view-List, view-Object}
use Rattle.ssa_json.specs.View.{items_view, members_view, view}
use Rattle.ssa_path.specs.Children.{child_at, elements, IsChildAt}
use Rattle.ssa_path.specs.View.{element_view, path_view}
use Rattle.ssa_path.proofs.Levels.{trie-parts}
use Rattle.ssa_path.proofs.Lists.{parted, taken-at}
use Rattle.ssa_typed.specs.Rows.{below, own_content, rows}
use Rattle.ssa_typed.specs.Values.{leaf_value, with_member_under}
use Rattle.ssa_typed.proofs.Levels.{level-below}
use Rattle.ssa_typed.proofs.Lookups.{tree-child}
use Rattle.ssa_typed.proofs.OverNodes.{own-Leaf}
use Rattle.ssa_typed.proofs.Overlaying.{child-at-index}
use Rattle.ssa_typed.proofs.Values.{items_after, items_view-push}
use Rattle.ssa_turn_body.proofs.Matching.{place-told}
use Rattle.ssa_turn_body.proofs.Walking.{child-there}
use Rattle.ssa_record.specs.LedValues.{values_below, AreBelow, ArePut, HaveItems, HaveKept, IsLed, IsLedItem}
use Rattle.ssa_record.specs.Places.{maps_of, IsOrderOf, IsRefilled, IsTouchedBelow}
use Rattle.ssa_record.proofs.LedChildren.{child-named, falls-into, led-given, new-at-index, touched-child, untouched-led}
use Rattle.ssa_record.proofs.LedFields.{members-led}
use Rattle.ssa_record.proofs.LedItems.{all-below, below-at, item-led, item-none, item-put, list-led, order-led, values-last}
use Rattle.ssa_record.proofs.LedLeaves.{leaf-led}
use Rattle.ssa_record.proofs.LedMembers.{AreKeptSoFar, all-met, kept-add, kept-end, kept-skip}
use Rattle.ssa_record.proofs.led_value.+led.Goals as goal

-- ---- the members that stay

pub kept_members-loop-child-preserved-then-is_cut : goal.kept_members-loop-child-preserved-then-is_cut
kept_members-loop-child-preserved-then-is_cut t c =
    let m = maps_of c.args.told.now in
    let n = c.args.node.now in
    let p = path_view c.args.path.now.items in
    let i = c.loop-child.child-index in
    let child = c.child-item.result in
    let lent = c.children-child-items.ensures.own in
    let within : i < length (below n) = subst (λ xs. i < length xs) lent c.loop-child-test.true in
    let more = taken-at (below n) i child within (c.child-item.is ∙ ap (λ xs. get_or xs i child) lent) in
    let here = ap path_view (c.deref.ensures.value ∙ c.loop-child.invariant.path) in
    let cut = ap (λ g. has m.cut (g ++ element_view child.0 ∷ [])) (sym here) ∙ sym c.is_cut.ensures ∙ c.if-is_cut.true in
    record {
      path = c.loop-child.invariant.path;
      kept =
          subst (λ xs. AreKeptSoFar m p n xs (members_view c.loop-child.members.entries)) (sym more)
          (kept-skip m p n (take i (below n)) child (members_view c.loop-child.members.entries) c.loop-child.invariant.kept cut);
    }

pub kept_members-led_child-requires : goal.kept_members-led_child-requires
kept_members-led_child-requires t c =
    let n = c.args.node.now in
    let i = c.loop-child.child-index in
    let child = c.child-item.result in
    let lent = c.children-child-items.ensures.own in
    let within : i < length (below n) = subst (λ xs. i < length xs) lent c.loop-child-test.true in
    let is = c.child-item.is ∙ ap (λ xs. get_or xs i child) lent in
    let found = child-at-index (below n) i child within is ((level-below n).apart c.requires.tree) in
    let small : 8 * length (rows child.1) + 6 < 8 * length (rows n) + 3 = let part = falls-into n (element_view child.0) child.1 found in omega arith in (
      search (rules, small),
      (
        tree-child n (element_view child.0) child.1 c.requires.tree found,
        (
          subst (λ xs. IsTouchedBelow (maps_of c.args.told.now) (path_view xs) c.args.touched.now) (sym c.loop-child.invariant.path) c.requires.touched,
          c.requires.all,
        ),
      ),
    )

pub kept_members-returns-in-None-clause-kept : goal.kept_members-returns-in-None-clause-kept
kept_members-returns-in-None-clause-kept t c = λ kind v w q f h.
    let m = maps_of c.args.told.now in
    let n = c.args.node.now in
    let p = path_view c.args.path.now.items in
    let i = c.loop-child.child-index in
    let child = c.child-item.result in
    let e = element_view child.0 in
    let lent = c.children-child-items.ensures.own in
    let within : i < length (below n) = subst (λ xs. i < length xs) lent c.loop-child-test.true in
    let is = c.child-item.is ∙ ap (λ xs. get_or xs i child) lent in
    let found = child-at-index (below n) i child within is ((level-below n).apart c.requires.tree) in
    let here = ap path_view (c.deref.ensures.value ∙ c.loop-child.invariant.path) in
    let uncut = ap (λ g. has m.cut (g ++ e ∷ [])) (sym here) ∙ sym c.is_cut.ensures ∙ c.if-is_cut.false in
    let led : IsLed m (p ++ e ∷ []) child.1 c.in_ok-value.field-0 =
    subst (λ xs. IsLed m (path_view xs ++ e ∷ []) child.1 c.in_ok-value.field-0) c.loop-child.invariant.path c.in_ok-value.ensures.led in
    (led-given m p n e child.1 None c.requires.tree found uncut (subst (λ o. IsLed m (p ++ e ∷ []) child.1 o) c.in-None.is led) kind v w q f h).1.1

pub kept_members-loop-child-preserved : goal.kept_members-loop-child-preserved
kept_members-loop-child-preserved t c =
    let m = maps_of c.args.told.now in
    let n = c.args.node.now in
    let p = path_view c.args.path.now.items in
    let i = c.loop-child.child-index in
    let child = c.child-item.result in
    let e = element_view child.0 in
    let ms = members_view c.loop-child.members.entries in
    let value = c.in-Some.value in
    let lent = c.children-child-items.ensures.own in
    let within : i < length (below n) = subst (λ xs. i < length xs) lent c.loop-child-test.true in
    let is = c.child-item.is ∙ ap (λ xs. get_or xs i child) lent in
    let apart = (level-below n).apart c.requires.tree in
    let found = child-at-index (below n) i child within is apart in
    let more = taken-at (below n) i child within is in
    let here = ap path_view (c.deref.ensures.value ∙ c.loop-child.invariant.path) in
    let uncut = ap (λ g. has m.cut (g ++ e ∷ [])) (sym here) ∙ sym c.is_cut.ensures ∙ c.if-is_cut.false in
    let led : IsLed m (p ++ e ∷ []) child.1 c.in_ok-value.field-0 =
    subst (λ xs. IsLed m (path_view xs ++ e ∷ []) child.1 c.in_ok-value.field-0) c.loop-child.invariant.path c.in_ok-value.ensures.led in
    let made : members_view c.put_under.new.members.entries ≡ with_member_under e (view value) ms = c.in_ok-put_under-in-Some.ensures.put in
    record {
      path = c.in_ok-value.ensures.path ∙ c.loop-child.invariant.path;
      kept =
          subst (λ xs. AreKeptSoFar m p n xs (members_view c.put_under.new.members.entries)) (sym more)
          (subst (λ x. AreKeptSoFar m p n (take i (below n) ++ child ∷ []) x) (sym made)
          (kept-add m p n (take i (below n)) child ms c.loop-child.invariant.kept (view value) (new-at-index (below n) i child within is apart)
          (λ kind v w q f h.
          let g = led-given m p n e child.1 (Some value) c.requires.tree found uncut (subst (λ o. IsLed m (p ++ e ∷ []) child.1 o) c.in-Some.is led) kind v w
          q f h in
          g.1.0 ∙ ap (λ j. Some j) (sym g.1.1))));
    }

pub kept_members-returns-clause-kept : goal.kept_members-returns-clause-kept
kept_members-returns-clause-kept t c =
    let m = maps_of c.args.told.now in
    let n = c.args.node.now in
    let p = path_view c.args.path.now.items in
    let i = c.loop-child.child-index in
    let ms = members_view c.loop-child.members.entries in
    let all : take i (below n) ≡ below n = take_all i (below n) (omega (arith, c.loop-child-test.false, ap length c.children-child-items.ensures.own)) in
    kept-end m p n ms c.requires.tree (subst (λ xs. AreKeptSoFar m p n xs ms) all c.loop-child.invariant.kept)

pub led_child-find_child-requires : goal.led_child-find_child-requires
led_child-find_child-requires t c = ap (λ xs. Rattle.ssa_path.specs.Children.rises (elements xs)) c.deref.ensures.value
    ∙ (trie-parts c.args.touched.now _ refl c.requires.touched.0).0

pub led_child-led_value-requires : goal.led_child-led_value-requires
led_child-led_value-requires t c =
    let m = maps_of c.args.told.now in
    let e = element_view c.args.child.now.0 in
    let n = c.args.child.now.1 in
    let small : 8 * length (rows n) + 5 < 8 * length (rows n) + 6 = omega arith in
    let is = sym (ap (child_at e) c.deref.ensures.value) ∙ sym c.find_child.ensures ∙ ap option_copied c.in-Some.is in
    let below = touched-child m (path_view c.args.path.now.items) c.args.touched.now c.in-Some.below.now e c.requires.touched is in
    let path = ap path_view c.in_ok-push-in-Some.ensures.items ∙ map-append element_view c.args.path.now.items (c.in_ok-element-in-Some.element ∷ [])
    ∙ ap (λ d. path_view c.args.path.now.items ++ d ∷ []) c.in_ok-element-in-Some.ensures in
    (search (rules, small), (c.requires.tree, (subst (λ g. IsTouchedBelow m g c.in-Some.below.now) (sym path) below, c.requires.all)))

pub led_child-returns-in_ok-to_json-in-None-clause-led : goal.led_child-returns-in_ok-to_json-in-None-clause-led
led_child-returns-in_ok-to_json-in-None-clause-led t c = λ kind v w q f h.
    let m = maps_of c.args.told.now in
    let e = element_view c.args.child.now.0 in
    let none = sym (ap (child_at e) c.deref.ensures.value) ∙ sym c.find_child.ensures ∙ ap option_copied c.in-None.is in
    c.in_ok-to_json-in-None.ensures.value
    ∙ untouched-led m (path_view c.args.path.now.items) c.args.touched.now e c.args.child.now.1 c.requires.tree c.requires.touched none kind v w q f h

-- ---- one item

pub led_item-bounds-children-place : goal.led_item-bounds-children-place
led_item-bounds-children-place t c =
    let cs = below c.args.node.now in
    let e = element_view c.args.element.now in
    let place = place-told e cs c.find_place.result (c.find_place.ensures ∙ c.requires.sorted.same e) in
    let at = subst (λ o. IfSome o (IsChildAt e cs)) c.in-Some-find_place.is place.0 in
    subst (λ xs. c.in-Some-find_place.place < length xs) (sym c.children.ensures.own) at.within

pub led_item-offset_bounds-children-place : goal.led_item-offset_bounds-children-place
led_item-offset_bounds-children-place t c =
    let cs = below c.args.node.now in
    let e = element_view c.args.element.now in
    let place = place-told e cs c.find_place.result (c.find_place.ensures ∙ c.requires.sorted.same e) in
    let at = subst (λ o. IfSome o (IsChildAt e cs)) c.in-Some-find_place.is place.0 in
    let within : c.in-Some-find_place.place < length c.children.result.now =
    subst (λ xs. c.in-Some-find_place.place < length xs) (sym c.children.ensures.own) at.within in
    omega (arith, within, c.children.type_inv.1)

pub led_item-led_child-requires : goal.led_item-led_child-requires
led_item-led_child-requires t c =
    let n = c.args.node.now in
    let cs = below n in
    let e = element_view c.args.element.now in
    let child = c.index-children-place.result in
    let place = place-told e cs c.find_place.result (c.find_place.ensures ∙ c.requires.sorted.same e) in
    let at = subst (λ o. IfSome o (IsChildAt e cs)) c.in-Some-find_place.is place.0 in
    let there = child-there e cs c.children.result.now c.in-Some-find_place.place child c.children.ensures.own at c.index-children-place.is
    ((level-below n).apart c.requires.tree) in
    let small : 8 * length (rows child.1) + 6 < 8 * length (rows n) + 2 = falls-into n e child.1 there in
    (search (rules, small), (tree-child n e child.1 c.requires.tree there, (c.requires.touched, c.requires.all)))

pub led_item-returns-in_ok-copy-in-Some-clause-led : goal.led_item-returns-in_ok-copy-in-Some-clause-led
led_item-returns-in_ok-copy-in-Some-clause-led t c =
    let m = maps_of c.args.told.now in
    let p = path_view c.args.path.now.items in
    let e = element_view c.args.element.now in
    let put = c.in-Some.put.now in
    let told : get m.put (p ++ e ∷ []) ≡ Some (view put.value, put.place) =
    ap (λ g. get m.put (path_view g ++ e ∷ [])) (sym c.deref.ensures.value) ∙ sym c.put_at.ensures
    ∙ ap (option_map (λ x. (view x.now.value, x.now.place))) c.in-Some.is in
    item-put m p c.args.node.now e (view put.value, put.place) c.in_ok-copy-in-Some.field-0 told c.in_ok-copy-in-Some.ensures

pub led_item-returns-in-Some-find_place-clause-led : goal.led_item-returns-in-Some-find_place-clause-led
led_item-returns-in-Some-find_place-clause-led t c =
    let m = maps_of c.args.told.now in
    let p = path_view c.args.path.now.items in
    let n = c.args.node.now in
    let cs = below n in
    let e = element_view c.args.element.now in
    let child = c.index-children-place.result in
    let place = place-told e cs c.find_place.result (c.find_place.ensures ∙ c.requires.sorted.same e) in
    let at = subst (λ o. IfSome o (IsChildAt e cs)) c.in-Some-find_place.is place.0 in
    let there = child-there e cs c.children.result.now c.in-Some-find_place.place child c.children.ensures.own at c.index-children-place.is
    ((level-below n).apart c.requires.tree) in
    let read : child ≡ get_or cs c.in-Some-find_place.place child = c.index-children-place.is
    ∙ ap (λ xs. get_or xs c.in-Some-find_place.place child) c.children.ensures.own in
    let own : element_view child.0 ≡ e = sym (same_element-true e (element_view child.0) (child-named e cs c.in-Some-find_place.place child at read)) in
    item-led m p n e child.0 child.1 c.led_child.result c.requires.tree there own c.led_child.ensures.led

pub led_item-returns-in-None-find_place-clause-led : goal.led_item-returns-in-None-find_place-clause-led
led_item-returns-in-None-find_place-clause-led t c =
    let m = maps_of c.args.told.now in
    let p = path_view c.args.path.now.items in
    let n = c.args.node.now in
    let cs = below n in
    let e = element_view c.args.element.now in
    let place = place-told e cs c.find_place.result (c.find_place.ensures ∙ c.requires.sorted.same e) in
    let none = subst (λ o. IfNone o (child_at e cs ≡ None)) c.in-None-find_place.is place.1 in
    let untold : get m.put (p ++ e ∷ []) ≡ None =
    ap (λ g. get m.put (path_view g ++ e ∷ [])) (sym c.deref.ensures.value) ∙ sym c.put_at.ensures
    ∙ ap (option_map (λ x. (view x.now.value, x.now.place))) c.in-None.is in
    item-none m p n e c.requires.tree none untold

-- ---- the items of a list

pub led_items-returns-in-None-clause-led : goal.led_items-returns-in-None-clause-led
led_items-returns-in-None-clause-led t c = λ kind v w q f h all.
    let m = maps_of c.args.told.now in
    let p = path_view c.args.path.now.items in
    let n = c.args.node.now in
    let order = c.args.order.now in
    let i = c.loop-element.element-index in
    let e = c.element-item.result in
    let split = ap path_view (parted order i e c.loop-element-test.true c.element-item.is) ∙ map-append element_view (take i order) (e ∷ drop (i + 1) order) in
    let there = below-at q w p (path_view (take i order)) (path_view (drop (i + 1) order)) (element_view e) (subst (AreBelow q w p) split all) in
    let led : IsLedItem m p n (element_view e) c.in_ok-value.field-0 =
    subst (λ xs. IsLedItem m (path_view xs) n (element_view e) c.in_ok-value.field-0) c.loop-element.invariant.path c.in_ok-value.ensures.led in
    subst (IsLedItem m p n (element_view e)) c.in-None.is led kind v w q f h there.0 there.1

pub led_items-loop-element-preserved : goal.led_items-loop-element-preserved
led_items-loop-element-preserved t c =
    let m = maps_of c.args.told.now in
    let p = path_view c.args.path.now.items in
    let n = c.args.node.now in
    let order = c.args.order.now in
    let i = c.loop-element.element-index in
    let e = c.element-item.result in
    let value = c.in-Some.value in
    let led : IsLedItem m p n (element_view e) c.in_ok-value.field-0 =
    subst (λ xs. IsLedItem m (path_view xs) n (element_view e) c.in_ok-value.field-0) c.loop-element.invariant.path c.in_ok-value.ensures.led in
    let more = ap path_view (taken-at order i e c.loop-element-test.true c.element-item.is) ∙ map-append element_view (take i order) (e ∷ []) in
    let split = ap path_view (parted order i e c.loop-element-test.true c.element-item.is) ∙ map-append element_view (take i order) (e ∷ drop (i + 1) order) in
    record {
      path = c.in_ok-value.ensures.path ∙ c.loop-element.invariant.path;
      items = λ kind v w q f h all.
          let there = below-at q w p (path_view (take i order)) (path_view (drop (i + 1) order)) (element_view e) (subst (AreBelow q w p) split all) in
          let given = subst (IsLedItem m p n (element_view e)) c.in-Some.is led kind v w q f h there.0 there.1 in
          ap items_view c.in_ok-push-in-Some.ensures.items ∙ items_view-push c.loop-element.items.items value
          ∙ (λ k. items_after (c.loop-element.invariant.items kind v w q f h all k) (given k))
          ∙ sym (ap (values_below q w p) more ∙ values-last q w p (path_view (take i order)) (element_view e) there.0 there.1);
    }

-- ---- lists, records and leaves

pub led_list-returns-in_default-clause-led : goal.led_list-returns-in_default-clause-led
led_list-returns-in_default-clause-led t c = λ kind v w q f h.
    let m = maps_of c.args.told.now in
    let p = path_view c.args.path.now.items in
    let n = c.args.node.now in
    let order = order-led m p n (option_map (λ es. es.items) c.in_ok-order.field-0) c.requires.tree c.requires.items
    (λ gs some. c.in_ok-order.ensures.told gs (ap (λ g. get m.order (path_view g)) c.deref.ensures.value ∙ some))
    (λ none fs re. c.in_ok-order.ensures.refilled (ap (λ g. get m.order (path_view g)) c.deref.ensures.value ∙ none) fs
    (subst (λ g. IsRefilled m (path_view g) (elements c.children.result.now) fs) (sym c.deref.ensures.value)
    (subst (λ xs. IsRefilled m p (elements xs) fs) (sym c.children.ensures.own) re)))
    kind v w q f h in
    subst (λ o. IsOrderOf (option_map (λ es. es.items) o) (order_at (get w p))) c.in_default.is order

pub led_list-returns-in-Some-2-clause-led : goal.led_list-returns-in-Some-2-clause-led
led_list-returns-in-Some-2-clause-led t c = λ kind v w q f h.
    let m = maps_of c.args.told.now in
    let p = path_view c.args.path.now.items in
    let n = c.args.node.now in
    let order = order-led m p n (option_map (λ es. es.items) c.in_ok-order.field-0) c.requires.tree c.requires.items
    (λ gs some. c.in_ok-order.ensures.told gs (ap (λ g. get m.order (path_view g)) c.deref.ensures.value ∙ some))
    (λ none fs re. c.in_ok-order.ensures.refilled (ap (λ g. get m.order (path_view g)) c.deref.ensures.value ∙ none) fs
    (subst (λ g. IsRefilled m (path_view g) (elements c.children.result.now) fs) (sym c.deref.ensures.value)
    (subst (λ xs. IsRefilled m p (elements xs) fs) (sym c.children.ensures.own) re)))
    kind v w q f h in
    let names : path_view c.deref-2.result.now ≡ order_at (get w p) =
    ap path_view c.deref-2.ensures.value ∙ subst (λ o. IsOrderOf (option_map (λ es. es.items) o) (order_at (get w p))) c.in-Some.is order in
    let led = c.in_ok-items.ensures.led kind v w q f h (subst (AreBelow q w p) (sym names) (all-below m kind v w f p q n h c.requires.tree c.requires.items)) in
    let have = subst (λ o. HaveItems q w p (path_view c.deref-2.result.now) (option_map (λ vs. items_view vs.items) o)) c.in-Some-2.is led in
    view-List c.in-Some-2.items ∙ ap list (have ∙ ap (values_below q w p) names) ∙ list-led m kind v w f p q n h c.requires.tree c.requires.items

pub led_list-returns-clause-led : goal.led_list-returns-clause-led
led_list-returns-clause-led t c = λ kind v w q f h.
    let m = maps_of c.args.told.now in
    let p = path_view c.args.path.now.items in
    let n = c.args.node.now in
    let order = order-led m p n (option_map (λ es. es.items) c.in_ok-order.field-0) c.requires.tree c.requires.items
    (λ gs some. c.in_ok-order.ensures.told gs (ap (λ g. get m.order (path_view g)) c.deref.ensures.value ∙ some))
    (λ none fs re. c.in_ok-order.ensures.refilled (ap (λ g. get m.order (path_view g)) c.deref.ensures.value ∙ none) fs
    (subst (λ g. IsRefilled m (path_view g) (elements c.children.result.now) fs) (sym c.deref.ensures.value)
    (subst (λ xs. IsRefilled m p (elements xs) fs) (sym c.children.ensures.own) re)))
    kind v w q f h in
    let names : path_view c.deref-2.result.now ≡ order_at (get w p) =
    ap path_view c.deref-2.ensures.value ∙ subst (λ o. IsOrderOf (option_map (λ es. es.items) o) (order_at (get w p))) c.in-Some.is order in
    let led = c.in_ok-items.ensures.led kind v w q f h (subst (AreBelow q w p) (sym names) (all-below m kind v w f p q n h c.requires.tree c.requires.items)) in
    subst (λ o. HaveItems q w p (path_view c.deref-2.result.now) (option_map (λ vs. items_view vs.items) o)) c.in-None.is led

pub led_object-returns-clause-led : goal.led_object-returns-clause-led
led_object-returns-clause-led t c = λ kind v w q f h.
    let m = maps_of c.args.told.now in
    let p = path_view c.args.path.now.items in
    let n = c.args.node.now in
    let kept = members_view c.in-Some.members.entries in
    let all = members_view c.put_members.new.members.entries in
    let have : HaveKept v w q p (Some kept) = subst (λ o. HaveKept v w q p (option_map (λ x. members_view x.entries) o)) c.in-Some.is
    (c.in_ok-members.ensures.kept kind v w q f h) in
    let put : ArePut m p kept all = subst (λ g. ArePut m (path_view g) kept all) (c.deref.ensures.value
    ∙ c.in_ok-members.ensures.path) c.in_ok-put_members.ensures in
    let met = all-met m p n kept all kind v w q c.requires.tree f h have put in
    view-Object c.put_members.new.members ∙ members-led m kind v w f p q n h c.requires.tree c.requires.members all met.0 met.1

pub led_value-returns-in_ok-led_leaf-in-Leaf-clause-led : goal.led_value-returns-in_ok-led_leaf-in-Leaf-clause-led
led_value-returns-in_ok-led_leaf-in-Leaf-clause-led t c = λ kind v w q f h.
    let m = maps_of c.args.told.now in
    let p = path_view c.args.path.now.items in
    let l = c.in-Leaf.leaf in
    c.in_ok-led_leaf-in-Leaf.ensures ∙ ap (λ g. unwrap_or (get m.leaves (path_view g)) (leaf_value l)) c.deref.ensures.value
    ∙ leaf-led m kind v w f p q c.args.node.now h c.requires.tree l (ap own_content c.in-Leaf.is ∙ own-Leaf l)
