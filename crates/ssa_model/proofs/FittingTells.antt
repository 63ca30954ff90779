-- A fitting record is the record of the body and of what it leads to.
use Rattle.std.proofs.Common.{◌≡◌, ◌⊎◌, inl, inr, ℕ, List, [], ◌∷◌, ◌++◌, true, false, cond, not, ◌&&◌, Option, Some, None, refl, sym, ap, ◌∙◌, true≢false, append-nil}
use Rattle.std.proofs.lemmas.Option.{none-some}
use Rattle.std.specs.Cmp.{first_so, second_so}
use Rattle.std.specs.List.{position_from}
use Rattle.std.specs.Option.{unwrap_or}
use Rattle.std.specs.Prelude.{is_some, if◌then◌else◌}
use Rattle.ssa_model.specs.definitions.Path.{Element, Path, same_element, under, parent, last_element, is_item, is_item_element}
use Rattle.ssa_model.specs.definitions.PathMap.{get, has, paths, below, has_at_or_above}
use Rattle.ssa_model.specs.definitions.Kind.{Kind}
use Rattle.ssa_model.specs.definitions.Body.{Content, leaf, atom, record_branch, dict_branch, list_branch, Body, is_other_leaf, order_at}
use Rattle.ssa_model.specs.definitions.Fitting.{IsBodyOf}
use Rattle.ssa_model.specs.definitions.Record.{Part, BodyRecord, is_top, item_place, part_at, cuts, puts, new_leaf, new_leaves, is_reordered, new_order, new_orders, body_record}
use Rattle.ssa_model.specs.definitions.Carry.{refilled, carried_order, carried_content, carry_body}
use Rattle.ssa_model.specs.laws.FittingRecords.{order_after, BodyFits, FittingBodyLeads}
use Rattle.ssa_model.proofs.PathMaps.{has-paths, same_map, same_sets, get-over_paths}
use Rattle.ssa_model.proofs.Pruned.{some_one, from_one, closed-above, under-append, under-push}
use Rattle.ssa_model.proofs.Tables.{under-itself}
use Rattle.ssa_model.proofs.Tests.{by_test, same_tests}
use Rattle.ssa_model.proofs.Scalars.{same_scalar-itself}
use Rattle.ssa_model.proofs.SameValues.{same_json-itself}
use Rattle.ssa_model.proofs.Fitting.{is_list, some_there}
use Rattle.ssa_model.proofs.Beginnings.{parent-push, last-push}
use Rattle.ssa_model.proofs.PutParts.{get-below}
use Rattle.ssa_model.proofs.RecordTurns.{nothing}
use Rattle.ssa_model.proofs.BodyLeads.{get-cuts}
use Rattle.ssa_model.proofs.CarriedPaths.{stayed, came, away, source, at_put, at_stay, at_cut, parent_there}
use Rattle.ssa_model.proofs.FittingBodies.{plain, listed, carried, no-item, list-fits, root-there, stay-there, parent_uncut, body-after}
use Rattle.ssa_model.proofs.Basics.{not_true as no, none-there as nothing_there, yes_no}

-- ---- paths

-- a path is the root or has a last element
pub split_last : (p : Path) → (p ≡ []) ⊎ ((q : Path) × ((e : Element) × (p ≡ q ++ e ∷ [])))
split_last [] = inl refl
split_last (e ∷ p) = elim (split_last p) [ inl is ↦ inr ([], (e, ap (λ q. e ∷ q) is)) | inr x ↦ inr (e ∷ x.0, (x.1.0, ap (λ q. e ∷ q) x.1.1)) ]

-- each path is under its parent
pub parent_above : (p : Path) → under (parent p) p ≡ true
parent_above p =
    elim (split_last p) [
      | inl is ↦ ap (λ q. under (parent q) q) is
      | inr x ↦ (λ i. under ((ap parent x.1.1 ∙ parent-push x.0 x.1.0) i) (x.1.1 i)) ∙ under-append x.0 (x.1.0 ∷ [])
    ]

-- a path with one element more is that of an item exactly where this element is an item's
pub item-push : (q : Path) (e : Element) → is_item (q ++ e ∷ []) ≡ is_item_element e
item-push [] e = refl
item-push (f ∷ []) e = refl
item-push (f ∷ g ∷ q) e = item-push (g ∷ q) e

-- ---- contents

-- a content has no other order where nothing stands in the second body
pub no_order : (c : Content) → is_reordered (Some c) None ≡ false
no_order (leaf s) = refl
no_order (atom s) = refl
no_order record_branch = refl
no_order dict_branch = refl
no_order (list_branch es) = refl

-- a new leaf is what is carried
leaf-carried : (d : BodyRecord) (p : Path) (c e : Content) → is_other_leaf (Some c) (Some e) ≡ true → get d.leaves p ≡ Some e → carried_content d p c ≡ e
leaf-carried d p (leaf s) e other found = ap (λ o. unwrap_or o (leaf s)) found
leaf-carried d p (atom s) e other found = ap (λ o. unwrap_or o (atom s)) found
leaf-carried d p record_branch e other found = absurd (true≢false (sym other))
leaf-carried d p dict_branch e other found = absurd (true≢false (sym other))
leaf-carried d p (list_branch es) e other found = absurd (true≢false (sym other))

-- without a new leaf, what is carried is no other leaf
same-leaf : (d : BodyRecord) (p : Path) (c : Content) → get d.leaves p ≡ None → is_other_leaf (Some c) (Some (carried_content d p c)) ≡ false
same-leaf d p (leaf s) none = ap (λ o. is_other_leaf (Some (leaf s)) (Some (unwrap_or o (leaf s)))) none ∙ ap not (same_scalar-itself s)
same-leaf d p (atom s) none = ap (λ o. is_other_leaf (Some (atom s)) (Some (unwrap_or o (atom s)))) none ∙ ap not (same_json-itself s)
same-leaf d p record_branch none = refl
same-leaf d p dict_branch none = refl
same-leaf d p (list_branch es) none = refl

-- what is no list has no other order
no-list : (c : Content) (o : Option Content) → is_list c ≡ false → is_reordered (Some c) o ≡ false
no-list (leaf s) o other = refl
no-list (atom s) o other = refl
no-list record_branch o other = refl
no-list dict_branch o other = refl
no-list (list_branch es) o other = absurd (true≢false other)

module _ (kind : Kind) (d : BodyRecord) (v : Body) (a : IsBodyOf kind v) (f : BodyFits kind d v) where
  abbrev w : Body
  w = carry_body d v

  -- ---- what is cut

  cut-told : (p : Path) → has d.cut p ≡ true → has (cuts v w) p ≡ true
  cut-told p cut =
      let c = f.cut p cut in
      let off = ap is_some (at_cut kind d v a f p c.there (from_one (λ h. under h p) (paths d.cut) p (sym (has-paths d.cut p) ∙ cut) (under-itself p))) in
      let up = stay-there kind d v a f (parent p) (closed-above v a.closed (parent p) p c.there (parent_above p)) c.top in
      get-cuts v w p ∙ (λ i. c.there i && (not (off i) && up i))

  -- what is lost below a path that stays is cut
  lost-cut : (p : Path) → has v p ≡ true → has w p ≡ false → has w (parent p) ≡ true → has d.cut p ≡ true
  lost-cut p there off up =
      by_test (has_at_or_above d.cut p)
      (λ t.
      let x = some_one (λ h. under h p) (paths d.cut) t in
      elim (split_last p) [
        | inl root ↦ yes_no (has w p) (ap (has w) root ∙ root-there kind d v a f) off
        | inr q ↦ elim (under-push x.0 q.0 q.1.0 (ap (under x.0) (sym q.1.1) ∙ x.2)) [
          | inl same ↦ ap (has d.cut) (q.1.1 ∙ sym same) ∙ has-paths d.cut x.0 ∙ x.1
          | inr above ↦
              let is : parent p ≡ q.0 = ap parent q.1.1 ∙ parent-push q.0 q.1.0 in
              let cut : has_at_or_above d.cut (parent p) ≡ true = from_one (λ h. under h (parent p)) (paths d.cut) x.0 x.1 (ap (under x.0) is ∙ above) in
              yes_no (has w (parent p)) up (ap is_some (at_cut kind d v a f (parent p) (closed-above v a.closed (parent p) p there (parent_above p)) cut))
        ]
      ])
      (λ k. yes_no (has w p) (stay-there kind d v a f p there k) off)

  cut-is : d.cut ≡ cuts v w
  cut-is =
      same_sets d.cut (cuts v w) (λ p.
      same_tests (has d.cut p) (has (cuts v w) p) (cut-told p) (λ h.
      let both = sym (get-cuts v w p) ∙ h in
      let top = second_so (has v p) (is_top w p) both in
      lost-cut p (first_so (has v p) (is_top w p) both) (no (has w p) (first_so (not (has w p)) (has w (parent p)) top))
      (second_so (not (has w p)) (has w (parent p)) top)))

  -- ---- leaves

  abbrev leaf_at : Path → Option Content
  leaf_at p = new_leaf (get v p) (get w p)

  leaf-told : (p : Path) (c : Content) → get d.leaves p ≡ Some c → cond (has v p) (leaf_at p) None ≡ Some c
  leaf-told p c found =
      let l = f.leaves p c found in
      let there = first_so (has v p) (not (has_at_or_above d.cut p)) l.stay in
      let uncut = no (has_at_or_above d.cut p) (second_so (has v p) (not (has_at_or_above d.cut p)) l.stay) in
      let x = some_there (get v p) there in
      let is = at_stay kind d v a f p x.0 x.1 uncut ∙ ap (λ e. Some e)
      (leaf-carried d p x.0 c (ap (λ o. is_other_leaf o (Some c)) (sym x.1) ∙ l.other) found) in
      (λ i. cond (there i) (new_leaf (get v p) (is i)) None) ∙ ap (λ b. if b then Some c else None) l.other

  leaf-untold : (p : Path) → get d.leaves p ≡ None → cond (has v p) (leaf_at p) None ≡ None
  leaf-untold p none =
      elim (get v p) as (λ o. get v p ≡ o → cond (is_some o) (new_leaf o (get w p)) None ≡ None) [
        | None ↦ λ is. refl
        | Some c ↦ λ is. by_test (has_at_or_above d.cut p)
            (λ t. ap (new_leaf (Some c)) (at_cut kind d v a f p (ap is_some is) t) ∙ nothing (is_other_leaf (Some c) None))
            (λ k. ap (new_leaf (Some c)) (at_stay kind d v a f p c is k) ∙ ap (λ b. if b then Some (carried_content d p c) else None) (same-leaf d p c none))
      ] refl

  leaves-are : d.leaves ≡ new_leaves v w
  leaves-are =
      same_map d.leaves (new_leaves v w) (λ p.
      elim (get d.leaves p) as (λ o. get d.leaves p ≡ o → o ≡ cond (has v p) (leaf_at p) None)
      [ None ↦ λ none. sym (leaf-untold p none) | Some c ↦ λ found. sym (leaf-told p c found) ] refl
      ∙ sym (get-over_paths v leaf_at p))

  -- ---- orders

  abbrev new_at : Path → Option (List Element)
  new_at p = new_order (get v p) (get w p)

  list-after : (p : Path) (es : List Element) → get v p ≡ Some (list_branch es) → has_at_or_above d.cut p ≡ false
      → new_at p ≡ (if is_some (get d.order p) then Some (order_after d p es) else None)
  list-after p es is uncut =
      (λ i. new_order (is i) (at_stay kind d v a f p (list_branch es) is uncut i))
      ∙ ap (λ b. if b then Some (order_after d p es) else None) (sym (list-fits kind d v a f p es is uncut).order)

  order-told : (p : Path) (fs : List Element) → get d.order p ≡ Some fs → cond (has v p) (new_at p) None ≡ Some fs
  order-told p fs found =
      let o = f.orders p (ap is_some found) in
      let there = first_so (has v p) (not (has_at_or_above d.cut p)) o.0 in
      let uncut = no (has_at_or_above d.cut p) (second_so (has v p) (not (has_at_or_above d.cut p)) o.0) in
      ap (λ b. cond b (new_at p) None) there ∙ list-after p o.1.0 o.1.1 uncut
      ∙ (λ i. if is_some (found i) then Some (carried_order (found i) (refilled d p o.1.0)) else None)

  order-untold : (p : Path) → get d.order p ≡ None → cond (has v p) (new_at p) None ≡ None
  order-untold p none =
      elim (get v p) as (λ o. get v p ≡ o → cond (is_some o) (new_order o (get w p)) None ≡ None) [
        | None ↦ λ is. refl
        | Some c ↦ λ is. by_test (has_at_or_above d.cut p)
            (λ t. ap (new_order (Some c)) (at_cut kind d v a f p (ap is_some is) t) ∙ ap (λ b. if b then Some [] else None) (no_order c))
            (λ k. elim (carried kind d v a f p c is) [
              | plain empty other ↦ ap (λ b. if b then Some (order_at (get w p)) else None) (no-list c (get w p) other)
              | listed es same ↦
                  let is_list = is ∙ ap (λ e. Some e) same in
                  ap (λ o. new_order o (get w p)) (sym is) ∙ list-after p es is_list k ∙ ap (λ o. if is_some o then Some (order_after d p es) else None) none
            ])
      ] refl

  orders-are : d.order ≡ new_orders v w
  orders-are =
      same_map d.order (new_orders v w) (λ p.
      elim (get d.order p) as (λ o. get d.order p ≡ o → o ≡ cond (has v p) (new_at p) None)
      [ None ↦ λ none. sym (order-untold p none) | Some fs ↦ λ found. sym (order-told p fs found) ] refl
      ∙ sym (get-over_paths v new_at p))

  -- ---- what is put

  abbrev put_at : Path → Option Part
  put_at p = if is_top v p then Some (part_at w p) else None

  abbrev place_of : Path → Option Element → Option ℕ
  place_of q o = elim o [ None ↦ None | Some e ↦ position_from (same_element e) 0 (order_at (get w q)) ]

  put-there : (p : Path) (x : Part) → get d.put p ≡ Some x → has w p ≡ true
  put-there p x found = ap (has w) (sym (append-nil p)) ∙ ap is_some (at_put kind d v a f p [] x found) ∙ (f.put p x found).part.root

  -- the place of an item that is put, and of what is no item
  place-told : (p : Path) (x : Part) → get d.put p ≡ Some x → item_place w p ≡ x.place
  place-told p x found =
      elim (split_last p) [
        | inl root ↦ yes_no (has v p) (ap (has v) root ∙ a.root) (f.put p x found).absent
        | inr s ↦
            let q = s.0 in
            let e = s.1.0 in
            let path = s.1.1 in
            let up : parent p ≡ q = ap parent path ∙ parent-push q e in
            let there = ap (has v) (sym up) ∙ parent_there kind d v a f p x found in
            let uncut = ap (has_at_or_above d.cut) (sym up) ∙ parent_uncut kind d v a f p x found in
            let c = some_there (get v q) there in
            (λ i. place_of (up i) ((ap last_element path ∙ last-push q e) i))
            ∙ elim (carried kind d v a f q c.0 c.1) [
              | plain empty other ↦
                  let field : is_item_element e ≡ false =
                  by_test (is_item_element e)
                  (λ i. absurd (true≢false (sym (no-item kind d v a f q c.0 e c.1 other ∙ (λ k. i k && (ap (has w) (sym path) ∙ put-there p x found) k)))))
                  (λ k. k) in
                  ap (λ o. position_from (same_element e) 0 (order_at o)) (at_stay kind d v a f q c.0 c.1 uncut) ∙ ap (position_from (same_element e) 0) empty
                  ∙ sym (nothing_there x.place ((f.put p x found).place ∙ ap is_item path ∙ item-push q e ∙ field))
              | listed es same ↦
                  let is = c.1 ∙ ap (λ y. Some y) same in
                  ap (λ o. position_from (same_element e) 0 (order_at o)) (at_stay kind d v a f q (list_branch es) is uncut)
                  ∙ sym ((list-fits kind d v a f q es is uncut).places e x (ap (get d.put) (sym path) ∙ found))
            ]
      ]

  part-told : (p : Path) (x : Part) → get d.put p ≡ Some x → part_at w p ≡ x
  part-told p x found =
      let under_p = same_map (below w p) x.below (λ r. get-below w p r ∙ at_put kind d v a f p r x found) in
      let place = place-told p x found in
      λ i. record { below = under_p i; place = place i }

  put-told : (p : Path) (x : Part) → get d.put p ≡ Some x → cond (has w p) (put_at p) None ≡ Some x
  put-told p x found =
      let here = put-there p x found in
      let lacks = (f.put p x found).absent in
      let up = parent_there kind d v a f p x found in
      (λ i. cond (here i) (if not (lacks i) && up i then Some (part-told p x found i) else None) None)

  -- what is new below a path of the body is put
  new-put : (p : Path) → has w p ≡ true → has v p ≡ false → has v (parent p) ≡ true → get d.put p ≡ None → ⊥
  new-put p here lacks up none =
      elim (source kind d v a f p) [
        | stayed c is k says ↦ yes_no (has v p) (ap is_some is) lacks
        | came g r x found path says ↦ elim (split_last p) [
          | inl root ↦ yes_no (has v p) (ap (has v) root ∙ a.root) lacks
          | inr s ↦ elim (under-push g s.0 s.1.0 (ap (under g) (sym (path ∙ s.1.1)) ∙ under-append g r)) [
            | inl same ↦ none-some x (sym none ∙ ap (get d.put) (s.1.1 ∙ sym same) ∙ found)
            | inr above ↦ yes_no (has v g) (closed-above v a.closed g s.0 (ap (has v) (sym (ap parent s.1.1 ∙ parent-push s.0 s.1.0)) ∙ up) above)
                (f.put g x found).absent
          ]
        ]
        | away gone ↦ yes_no (has w p) here (ap is_some gone)
      ]

  put-untold : (p : Path) → get d.put p ≡ None → cond (has w p) (put_at p) None ≡ None
  put-untold p none =
      by_test (has w p)
      (λ here. by_test (is_top v p)
      (λ top. absurd (new-put p here (no (has v p) (first_so (not (has v p)) (has v (parent p)) top)) (second_so (not (has v p)) (has v (parent p)) top) none))
      (λ off. (λ i. cond (here i) (if off i then Some (part_at w p) else None) None)))
      (λ off. ap (λ b. cond b (put_at p) None) off)

  puts-are : d.put ≡ puts v w
  puts-are =
      same_map d.put (puts v w) (λ p.
      elim (get d.put p) as (λ o. get d.put p ≡ o → o ≡ cond (has w p) (put_at p) None)
      [ None ↦ λ none. sym (put-untold p none) | Some x ↦ λ found. sym (put-told p x found) ] refl
      ∙ sym (get-over_paths w put_at p))

  -- the record that fits is the one of the body and of what it leads to
  pub record-is : d ≡ body_record v w
  record-is = λ i. record { cut = cut-is i; leaves = leaves-are i; order = orders-are i; put = puts-are i }

-- a record that fits a body of the kind takes it to what it leads to
pub fitting_body_leads : FittingBodyLeads
fitting_body_leads kind d v a f = record { from = a; to = body-after kind d v a f; is = record-is kind d v a f }
