-- The record of two bodies of a kind fits the first.
use Rattle.std.proofs.Common.{◌≡◌, inl, inr, ℕ, ◌+◌, List, [], ◌∷◌, ◌++◌, Bool, true, false, cond, not, ◌&&◌, ◌||◌, Option, Some, None, refl, sym, ap, subst, ◌∙◌, true≢false, append_assoc}
use Rattle.std.proofs.lemmas.Option.{none-some, same_Some}
use Rattle.std.specs.Cmp.{first_so, second_so}
use Rattle.std.specs.List.{position_from, list_any}
use Rattle.std.specs.Prelude.{is_some, if◌then◌else◌}
use Rattle.ssa_model.specs.definitions.Json.{Text, Scalar, same_text}
use Rattle.ssa_model.specs.definitions.Path.{Element, field, key, Path, same_element, parent, is_item, is_item_element, is_key_field}
use Rattle.ssa_model.specs.definitions.PathMap.{get, has, below, has_at_or_above}
use Rattle.ssa_model.specs.definitions.Kind.{Kind, is_among}
use Rattle.ssa_model.specs.definitions.Body.{Content, leaf, list_branch, Body, is_other_leaf, order_at}
use Rattle.ssa_model.specs.definitions.Fitting.{are_distinct, scalar_of, IsBodyOf}
use Rattle.ssa_model.specs.definitions.Record.{Part, BodyRecord, is_top, item_place, part_at, new_leaf, are_in_one_order, is_reordered, new_order, body_record}
use Rattle.ssa_model.specs.definitions.Carry.{staying_items}
use Rattle.ssa_model.specs.laws.RecordWalks.{IsTree, AreAlike}
use Rattle.ssa_model.specs.laws.FittingRecords.{stays, CutFits, LeafFits, IsPartOf, PutFits, order_after, ListFits, IsListAt, BodyFits, TakenBodyFits}
use Rattle.ssa_model.proofs.PathMaps.{get-over_paths}
use Rattle.ssa_model.proofs.Pruned.{closed-above}
use Rattle.ssa_model.proofs.Tests.{by_test}
use Rattle.ssa_model.proofs.Scalars.{same_scalar-itself}
use Rattle.ssa_model.proofs.Fitting.{list_place, some_there, among-filter}
use Rattle.ssa_model.proofs.Places.{below as place-below}
use Rattle.ssa_model.proofs.Beginnings.{parent-push, last-push}
use Rattle.ssa_model.proofs.PutParts.{get-below, has-below}
use Rattle.ssa_model.proofs.Differing.{reordered_lists}
use Rattle.ssa_model.proofs.RecordTurns.{some-put}
use Rattle.ssa_model.proofs.BodyLeads.{get-cuts, lost, left, content_is, bodies_are_trees}
use Rattle.ssa_model.proofs.CarryBelow.{part_is_tree}
use Rattle.ssa_model.proofs.FittingBodies.{list-item}
use Rattle.ssa_model.proofs.FittingTells.{split_last, parent_above, item-push}
use Rattle.ssa_model.proofs.Basics.{not_true as no, yes_no}

-- ---- key fields

record IsKeyOf (p : Path) : Type 0 where
  item : Path
  keys : List (Text × Scalar)
  name : Text
  own : Scalar
  is : p ≡ (item ++ key keys ∷ []) ++ field name ∷ []
  found : scalar_of name keys ≡ Some own

scalar-there : (n : Text) (ks : List (Text × Scalar)) → list_any (λ k. same_text n k.0) ks ≡ true → (s : Scalar) × (scalar_of n ks ≡ Some s)
scalar-there n [] h = absurd (true≢false (sym h))
scalar-there n (k ∷ ks) h =
    elim (same_text n k.0) as (λ t. (t || list_any (λ k. same_text n k.0) ks) ≡ true → (s : Scalar) × ((if t then Some k.1 else scalar_of n ks) ≡ Some s)) [
      | true ↦ λ h. (k.1, refl)
      | false ↦ λ h. scalar-there n ks h
    ] h

-- a key field of an item has a scalar of the item's key
key-told : (p : Path) → is_key_field p ≡ true → IsKeyOf p
key-told [] h = absurd (true≢false (sym h))
key-told (e ∷ []) h = absurd (true≢false (sym h))
key-told (key ks ∷ field n ∷ []) h = let s = scalar-there n ks h in record { item = []; keys = ks; name = n; own = s.0; is = refl; found = s.1 }
key-told (e ∷ f ∷ g ∷ p) h = let k = key-told (f ∷ g ∷ p) h in
    record { item = e ∷ k.item; keys = k.keys; name = k.name; own = k.own; is = ap (λ q. e ∷ q) k.is; found = k.found }
key-told _ h = absurd (true≢false (sym h))

-- ---- answers

-- where a map of answers answers, both of its tests pass
answer-is : {X : Type 0} (a b : Bool) (o : Option X) (x : X) → cond a (if b then o else None) None ≡ Some x → (a ≡ true) × ((b ≡ true) × (o ≡ Some x))
answer-is true true o x h = (refl, (refl, h))
answer-is true false o x h = absurd (none-some x h)
answer-is false b o x h = absurd (none-some x h)

some-position : (e : Element) (i : ℕ) (fs : List Element) → is_some (position_from (same_element e) i fs) ≡ is_among e fs
some-position e i [] = refl
some-position e i (f ∷ fs) =
    elim (same_element e f) as (λ t. is_some (cond t (Some i) (position_from (same_element e) (i + 1) fs)) ≡ (t || is_among e fs))
    [ true ↦ refl | false ↦ some-position e (i + 1) fs ]

reordered-list : (o q : Option Content) → is_reordered o q ≡ true → (es : List Element) × (o ≡ Some (list_branch es))
reordered-list (Some (list_branch es)) q h = (es, refl)
reordered-list _ _ h = absurd (true≢false (sym h))

-- an item of the second list stayed or came
listed-both : (i x y : Bool) → (y ≡ true → i ≡ true) → (i && y) ≡ (((i && x) && not (x && (not y && true))) || (y && (not x && true)))
listed-both true true true h = refl
listed-both true true false h = refl
listed-both true false true h = refl
listed-both true false false h = refl
listed-both false x true h = absurd (true≢false (sym (h refl)))
listed-both false x false h = refl

module _ (kind : Kind) (v w : Body) (a : IsBodyOf kind v) (b : IsBodyOf kind w) where
  abbrev d : BodyRecord
  d = body_record v w

  tree_v : IsTree v
  tree_v = (bodies_are_trees kind v w a b).0

  tree_w : IsTree w
  tree_w = (bodies_are_trees kind v w a b).1

  alike : AreAlike v w
  alike = (bodies_are_trees kind v w a b).2

  -- nothing that the second body has is at or below what is cut
  pub uncut : (q : Path) → has w q ≡ true → has_at_or_above d.cut q ≡ false
  uncut q there = by_test (has_at_or_above d.cut q) (λ t. yes_no (has w q) there (lost v w tree_v tree_w alike q t)) (λ k. k)

  stay : (q : Path) → has v q ≡ true → has w q ≡ true → stays d v q ≡ true
  stay q here there = λ i. here i && not (uncut q there i)

  -- a path that stays is one of the second body
  pub stayed-there : (q : Path) → stays d v q ≡ true → has w q ≡ true
  stayed-there q h = left v w tree_v tree_w alike q (first_so (has v q) (not (has_at_or_above d.cut q)) h)
      (no (has_at_or_above d.cut q) (second_so (has v q) (not (has_at_or_above d.cut q)) h))

  parent_in : (x : Body) → IsBodyOf kind x → (p : Path) → has x p ≡ true → has x (parent p) ≡ true
  parent_in x k p there = closed-above x k.closed (parent p) p there (parent_above p)

  -- the parent of a key field is its item
  item-parent : (p : Path) (k : IsKeyOf p) → parent p ≡ k.item ++ key k.keys ∷ []
  item-parent p k = ap parent k.is ∙ parent-push (k.item ++ key k.keys ∷ []) (field k.name)

  -- a body that has an item has its key fields
  key-there : (x : Body) → IsBodyOf kind x → (p : Path) (k : IsKeyOf p) → has x (parent p) ≡ true → get x p ≡ Some (leaf k.own)
  key-there x b p k there = ap (get x) k.is ∙ b.keys k.item k.keys k.name k.own k.found (ap (has x) (sym (item-parent p k)) ∙ there)

  cut-fits : (p : Path) → has d.cut p ≡ true → CutFits d v p
  cut-fits p cut =
      let both = sym (get-cuts v w p) ∙ cut in
      let top = second_so (has v p) (is_top w p) both in
      let off = no (has w p) (first_so (not (has w p)) (has w (parent p)) top) in
      let up = second_so (not (has w p)) (has w (parent p)) top in
      record {
        there = first_so (has v p) (is_top w p) both;
        top = uncut (parent p) up;
        free = by_test (is_key_field p) (λ t. yes_no (has w p) (ap is_some (key-there w b p (key-told p t) up)) off) (λ k. k);
      }

  leaf-fits : (p : Path) (c : Content) → get d.leaves p ≡ Some c → LeafFits kind d v p c
  leaf-fits p c found =
      let x = answer-is (has v p) (is_other_leaf (get v p) (get w p)) (get w p) c (sym (get-over_paths v (λ q. new_leaf (get v q) (get w q)) p) ∙ found) in
      let other = x.1.0 in
      let is = x.1.1 in
      record {
        stay = stay p x.0 (ap is_some is);
        other = ap (is_other_leaf (get v p)) (sym is) ∙ other;
        at = b.fits p c is;
        free = by_test (is_key_field p)
            (λ t.
            let k = key-told p t in
            let one = key-there v a p k (parent_in v a p x.0) in
            let two = key-there w b p k (parent_in w b p (ap is_some is)) in
            absurd (true≢false (sym other ∙ (λ i. is_other_leaf (one i) (two i)) ∙ ap not (same_scalar-itself k.own))))
            (λ k. k);
      }

  -- ---- what is put

  -- what the second body has at and below a path may stand there
  pub part-of : (p : Path) → has w p ≡ true → IsPartOf kind p (below w p)
  part-of p here =
      let t = part_is_tree w p tree_w here in
      record {
        root = t.root;
        closed = t.closed;
        fits = λ q c is. b.fits (p ++ q) c (sym (get-below w p q) ∙ is);
        once = t.once;
        keys = λ q g ks n s path found one.
            get-below w p (q ++ field n ∷ []) ∙ ap (get w) (sym (append_assoc p q (field n ∷ [])) ∙ ap (λ r. r ++ field n ∷ []) path)
            ∙ b.keys g ks n s found (ap (has w) (sym path) ∙ sym (has-below w p q) ∙ one);
        items = t.items;
      }

  abbrev place_of : Path → Option Element → Option ℕ
  place_of q o = elim o [ None ↦ None | Some e ↦ position_from (same_element e) 0 (order_at (get w q)) ]

  place-push : (q : Path) (e : Element) → item_place w (q ++ e ∷ []) ≡ position_from (same_element e) 0 (order_at (get w q))
  place-push q e = λ i. place_of (parent-push q e i) (last-push q e i)

  place-fits : (p : Path) → has w p ≡ true → has v p ≡ false → is_some (item_place w p) ≡ is_item p
  place-fits p here lacks =
      elim (split_last p) [
        | inl root ↦ yes_no (has v p) (ap (has v) root ∙ a.root) lacks
        | inr s ↦
            let q = s.0 in
            let e = s.1.0 in
            let there = ap (has w) (sym s.1.1) ∙ here in
            ap (λ r. is_some (item_place w r)) s.1.1 ∙ ap is_some (place-push q e) ∙ some-position e 0 (order_at (get w q)) ∙ b.items q e
            ∙ by_test (is_item_element e) (λ i. (λ k. i k && there k) ∙ sym i) (λ n. (λ k. n k && has w (q ++ e ∷ [])) ∙ sym n)
            ∙ sym (ap is_item s.1.1 ∙ item-push q e)
      ]

  -- what is put at a path
  put-is : (p : Path) (x : Part) → get d.put p ≡ Some x → (has w p ≡ true) × ((is_top v p ≡ true) × (Some (part_at w p) ≡ Some x))
  put-is p x found = answer-is (has w p) (is_top v p) (Some (part_at w p)) x (sym (get-over_paths w (λ q. if is_top v q then Some (part_at w q) else None) p)
      ∙ found)

  put-fits : (p : Path) (x : Part) → get d.put p ≡ Some x → PutFits kind d v p x
  put-fits p x found =
      let at = put-is p x found in
      let lacks = no (has v p) (first_so (not (has v p)) (has v (parent p)) at.1.0) in
      let up = second_so (not (has v p)) (has v (parent p)) at.1.0 in
      subst (PutFits kind d v p) (same_Some (part_at w p) x at.1.1)
      (record { absent = lacks; top = stay (parent p) up (parent_in w b p at.0); part = part-of p at.0; place = place-fits p at.0 lacks })

  -- ---- lists

  module _ (p : Path) (es : List Element) (h : stays d v p ≡ true) (is : get v p ≡ Some (list_branch es)) where
    abbrev fs : List Element
    fs = order_after d p es

    there_w : has w p ≡ true
    there_w = stayed-there p h

    is_w : get w p ≡ Some (list_branch fs)
    is_w =
        let c = some_there (get w p) there_w in
        c.1 ∙ ap (λ e. Some e) (sym (content_is v w tree_v tree_w alike p (list_branch es) c.0 is c.1 (alike p (list_branch es) c.0 is c.1)))

    item-there : (e : Element) → has w (p ++ e ∷ []) ≡ true → is_item_element e ≡ true
    item-there e one =
        let at = b.fits p (list_branch fs) is_w in
        let under_p = place-below kind w b p at.place e at.there one in
        list-item at.place e under_p.place under_p.below (sym (list_place at.place (list_branch fs) at.fits))

    cut-item : (e : Element) → has d.cut (p ++ e ∷ []) ≡ (has v (p ++ e ∷ []) && (not (has w (p ++ e ∷ [])) && true))
    cut-item e = get-cuts v w (p ++ e ∷ []) ∙ (λ i. has v (p ++ e ∷ []) && (not (has w (p ++ e ∷ [])) && (ap (has w) (parent-push p e) ∙ there_w) i))

    put-item : (e : Element) → has d.put (p ++ e ∷ []) ≡ (has w (p ++ e ∷ []) && (not (has v (p ++ e ∷ [])) && true))
    put-item e =
        let q = p ++ e ∷ [] in
        ap is_some (get-over_paths w (λ r. if is_top v r then Some (part_at w r) else None) q) ∙ some-put (has w q) (is_top v q) (part_at w q)
        ∙ (λ i. has w q && (not (has v q) && (ap (has v) (parent-push p e) ∙ ap is_some is) i))

    list-items : (e : Element) → is_among e fs ≡ (is_among e (staying_items d p es) || has d.put (p ++ e ∷ []))
    list-items e =
        let q = p ++ e ∷ [] in
        ap (λ o. is_among e (order_at o)) (sym is_w) ∙ b.items p e
        ∙ listed-both (is_item_element e) (has v q) (has w q) (item-there e)
        ∙ sym (
        (λ i. among-filter (λ x. not (has d.cut (p ++ x ∷ []))) es e i || put-item e i)
        ∙ (λ i. ((ap (λ o. is_among e (order_at o)) (sym is) ∙ a.items p e) i && not (cut-item e i)) || (has w q && (not (has v q) && true)))
        )

    list-places : (e : Element) (x : Part) → get d.put (p ++ e ∷ []) ≡ Some x → x.place ≡ position_from (same_element e) 0 fs
    list-places e x found =
        ap (λ (y : Part). y.place) (sym (same_Some (part_at w (p ++ e ∷ [])) x (put-is (p ++ e ∷ []) x found).1.1))
        ∙ place-push p e ∙ ap (λ o. position_from (same_element e) 0 (order_at o)) is_w

    list-order : is_some (get d.order p) ≡ not (are_in_one_order es fs)
    list-order =
        ap is_some (get-over_paths v (λ q. new_order (get v q) (get w q)) p)
        ∙ some-put (has v p) (is_reordered (get v p) (get w p)) (order_at (get w p))
        ∙ (λ i. is_some (is i) && is_reordered (is i) (is_w i))

    list-fits : ListFits d p es
    list-fits = record { once = ap (λ o. are_distinct (order_at o)) (sym is_w) ∙ b.once p; items = list-items; places = list-places; order = list-order }

  order-fits : (p : Path) → has d.order p ≡ true → (stays d v p ≡ true) × IsListAt v p
  order-fits p told =
      let both = sym (ap is_some (get-over_paths v (λ q. new_order (get v q) (get w q)) p)
      ∙ some-put (has v p) (is_reordered (get v p) (get w p)) (order_at (get w p))) ∙ told in
      let other = second_so (has v p) (is_reordered (get v p) (get w p)) both in (
        stay p (first_so (has v p) (is_reordered (get v p) (get w p)) both) (reordered_lists.second (get v p) (get w p) other),
        reordered-list (get v p) (get w p) other,
      )

  record-fits : BodyFits kind d v
  record-fits = record { cut = cut-fits; leaves = leaf-fits; put = put-fits; lists = λ p es touched h is. list-fits p es h is; orders = order-fits }

-- a record that takes a body anywhere fits it
pub taken_body_fits : TakenBodyFits
taken_body_fits kind d v w h = subst (λ (e : BodyRecord). BodyFits kind e v) (sym h.is) (record-fits kind v w h.from h.to)
