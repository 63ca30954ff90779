-- What a fitting record leads to is a body of the kind.
use Rattle.std.proofs.Common.{◌≡◌, inl, inr, List, [], ◌∷◌, ◌++◌, Bool, true, false, not, ◌&&◌, ◌||◌, Option, Some, None, refl, sym, ap, subst, ◌∙◌, true≢false, append_assoc, append-nil}
use Rattle.std.proofs.lemmas.Option.{none-some, same_Some}
use Rattle.std.specs.Cmp.{second_so}
use Rattle.std.specs.Option.{unwrap_or}
use Rattle.std.specs.Prelude.{is_some}
use Rattle.ssa_model.specs.definitions.Json.{Text, Scalar}
use Rattle.ssa_model.specs.definitions.Path.{Element, field, key, value, Path, under, parent, is_item_element, is_key_field}
use Rattle.ssa_model.specs.definitions.PathMap.{get, has, paths, has_at_or_above}
use Rattle.ssa_model.specs.definitions.Kind as kinds
use Rattle.ssa_model.specs.definitions.Kind.{Kind, record_of, dict_of, items_of, is_among}
use Rattle.ssa_model.specs.definitions.Body.{Content, leaf, atom, record_branch, dict_branch, list_branch, Body, is_other_leaf, order_at}
use Rattle.ssa_model.specs.definitions.Fitting.{Place, of_kind, item_of, place_below, content_fits, IsAt, are_distinct, scalar_of, IsBodyOf}
use Rattle.ssa_model.specs.definitions.Record.{Part, BodyRecord}
use Rattle.ssa_model.specs.definitions.Carry.{carried_content, carry_body}
use Rattle.ssa_model.specs.laws.FittingRecords.{is_touched, order_after, ListFits, BodyFits}
use Rattle.ssa_model.proofs.PathMaps.{has-paths}
use Rattle.ssa_model.proofs.Pruned.{some_one, from_one, closed-above, under-append, under-rest, under-trans, under-push, named, key_field_is}
use Rattle.ssa_model.proofs.Tables.{under-itself}
use Rattle.ssa_model.proofs.Tests.{by_test}
use Rattle.ssa_model.proofs.Fitting.{is_list, is_list_place, list_place, any_order, some_there, among-filter}
use Rattle.ssa_model.proofs.Places.{place-after}
use Rattle.ssa_model.proofs.Beginnings.{parent-push}
use Rattle.ssa_model.proofs.UntouchedLists.{untouched-fits}
use Rattle.ssa_model.proofs.CarriedPaths.{Source, stayed, came, away, source, at_put, at_stay, at_cut, parent_there}
use Rattle.ssa_model.proofs.Basics.{not_true as no, yes_no}

-- ---- places of lists

-- an item stands below a list alone
pub item-list : (r : Place) (e : Element) (s : Place) → place_below r e ≡ Some s → is_item_element e ≡ true → is_list_place r ≡ true
item-list (of_kind (record_of fs)) (field n) s is i = absurd (true≢false (sym i))
item-list (of_kind (dict_of k)) (field n) s is i = absurd (true≢false (sym i))
item-list (of_kind (kinds.set_of k)) (value t) s is i = refl
item-list (of_kind (items_of ns fs)) (key ks) s is i = refl
item-list (item_of ns fs) (field n) s is i = absurd (true≢false (sym i))
item-list _ _ s is i = absurd (none-some s is)

-- and nothing else below a list
pub list-item : (r : Place) (e : Element) (s : Place) → place_below r e ≡ Some s → is_list_place r ≡ true → is_item_element e ≡ true
list-item (of_kind (kinds.set_of k)) (value t) s is i = refl
list-item (of_kind (items_of ns fs)) (key ks) s is i = refl
list-item (of_kind (record_of fs)) (field n) s is i = absurd (true≢false (sym i))
list-item (of_kind (dict_of k)) (field n) s is i = absurd (true≢false (sym i))
list-item (item_of ns fs) (field n) s is i = absurd (true≢false (sym i))
list-item _ _ s is i = absurd (none-some s is)

-- a path that names a key field of its item is one
pub key-named : (p q : Path) (ks : List (Text × Scalar)) (n : Text) (s : Scalar) → p ≡ (q ++ key ks ∷ []) ++ field n ∷ [] → scalar_of n ks ≡ Some s
    → is_key_field p ≡ false → ⊥
key-named p q ks n s is found free = yes_no (is_key_field p) (ap is_key_field is ∙ key_field_is q ks n (named n ks s found)) free

-- ---- orders

other-order : (o : Option Content) (e : Content) → is_other_leaf o (Some e) ≡ true → order_at (Some e) ≡ []
other-order (Some (leaf s)) (leaf t) h = refl
other-order (Some (atom s)) (atom t) h = refl
other-order _ _ h = absurd (true≢false (sym h))

root-only : (g : Path) → under g [] ≡ true → under g (parent g) ≡ true
root-only [] h = refl
root-only (e ∷ g) h = absurd (true≢false (sym h))

-- what is carried of a content that stays is no list, or a list of the record's order
pub data Carried (d : BodyRecord) (q : Path) (c : Content) : Type 0 where
  plain : order_at (Some (carried_content d q c)) ≡ [] → is_list c ≡ false → Carried d q c
  listed : (es : List Element) → c ≡ list_branch es → Carried d q c

items-put : (i b c t : Bool) → (t ≡ true → i ≡ true) → (((i && b) && c) || t) ≡ (i && ((b && c) || t))
items-put true b c t h = refl
items-put false b c true h = absurd (true≢false (sym (h refl)))
items-put false b c false h = refl

module _ (kind : Kind) (d : BodyRecord) (v : Body) (a : IsBodyOf kind v) (f : BodyFits kind d v) where
  abbrev w : Body
  w = carry_body d v

  from : (q : Path) → Source d v w q
  from = source kind d v a f

  -- ---- cuts

  -- where nothing at or above a path is cut, nothing is at or above a beginning of it
  pub uncut-above : (g q : Path) → under g q ≡ true → has_at_or_above d.cut q ≡ false → has_at_or_above d.cut g ≡ false
  uncut-above g q above uncut =
      by_test (has_at_or_above d.cut g)
      (λ t.
      let x = some_one (λ h. under h g) (paths d.cut) t in
      yes_no (has_at_or_above d.cut q) (from_one (λ h. under h q) (paths d.cut) x.0 x.1 (under-trans x.0 g q x.2 above)) uncut)
      (λ k. k)

  -- below a path that stays only the path itself may be cut
  pub uncut-push : (q : Path) (e : Element) → has_at_or_above d.cut q ≡ false → has d.cut (q ++ e ∷ []) ≡ false → has_at_or_above d.cut (q ++ e ∷ []) ≡ false
  uncut-push q e uncut off =
      by_test (has_at_or_above d.cut (q ++ e ∷ []))
      (λ t.
      let x = some_one (λ h. under h (q ++ e ∷ [])) (paths d.cut) t in
      elim (under-push x.0 q e x.2) [
        | inl is ↦ yes_no (has d.cut (q ++ e ∷ [])) (ap (has d.cut) (sym is) ∙ has-paths d.cut x.0 ∙ x.1) off
        | inr up ↦ yes_no (has_at_or_above d.cut q) (from_one (λ h. under h q) (paths d.cut) x.0 x.1 up) uncut
      ])
      (λ k. k)

  -- the root is not cut
  pub uncut-root : has_at_or_above d.cut [] ≡ false
  uncut-root =
      by_test (has_at_or_above d.cut [])
      (λ t.
      let x = some_one (λ h. under h []) (paths d.cut) t in
      yes_no (has_at_or_above d.cut (parent x.0)) (from_one (λ h. under h (parent x.0)) (paths d.cut) x.0 x.1 (root-only x.0 x.2))
      (f.cut x.0 (has-paths d.cut x.0 ∙ x.1)).top)
      (λ k. k)

  cut-here : (q : Path) → has d.cut q ≡ true → has_at_or_above d.cut q ≡ true
  cut-here q one = from_one (λ h. under h q) (paths d.cut) q (sym (has-paths d.cut q) ∙ one) (under-itself q)

  -- the parent of what is put stays
  pub parent_uncut : (g : Path) (x : Part) → get d.put g ≡ Some x → has_at_or_above d.cut (parent g) ≡ false
  parent_uncut g x found = no (has_at_or_above d.cut (parent g)) (second_so (has v (parent g)) (not (has_at_or_above d.cut (parent g))) (f.put g x found).top)

  -- ---- what stays is there

  -- a path of the body that stays is a path of the body after it
  pub stay-there : (q : Path) → has v q ≡ true → has_at_or_above d.cut q ≡ false → has w q ≡ true
  stay-there q there uncut = let c = some_there (get v q) there in ap is_some (at_stay kind d v a f q c.0 c.1 uncut)

  -- the body after it has the root
  pub root-there : has w [] ≡ true
  root-there = stay-there [] a.root uncut-root

  closed-there : (p : Path) (e : Element) → has w (p ++ e ∷ []) ≡ true → has w p ≡ true
  closed-there p e one =
      elim (from (p ++ e ∷ [])) [
        | stayed c is uncut says ↦ stay-there p (a.closed p e (ap is_some is)) (uncut-above p (p ++ e ∷ []) (under-append p (e ∷ [])) uncut)
        | came g r x found is says ↦ elim (under-push g p e (ap (under g) (sym is) ∙ under-append g r)) [
          | inl same ↦
              let up : parent g ≡ p = ap parent same ∙ parent-push p e in
              stay-there p (ap (has v) (sym up) ∙ parent_there kind d v a f g x found) (ap (has_at_or_above d.cut) (sym up) ∙ parent_uncut g x found)
          | inr above ↦
              let rest = under-rest g p above in
              let path : p ++ e ∷ [] ≡ g ++ (rest.0 ++ e ∷ []) = ap (λ s. s ++ e ∷ []) rest.1 ∙ append_assoc g rest.0 (e ∷ []) in
              let there : has x.below (rest.0 ++ e ∷ []) ≡ true = sym (ap is_some (at_put kind d v a f g (rest.0 ++ e ∷ []) x found)) ∙ ap (has w) (sym path)
              ∙ one in
              ap (has w) rest.1 ∙ ap is_some (at_put kind d v a f g rest.0 x found) ∙ (f.put g x found).part.closed rest.0 e there
        ]
        | away none ↦ absurd (true≢false (sym one ∙ ap is_some none))
      ]

  -- ---- what is carried fits

  carried-fits : (q : Path) (c : Content) → get v q ≡ Some c → IsAt kind q (carried_content d q c)
  carried-fits q (leaf s) is =
      elim (get d.leaves q) as (λ o. get d.leaves q ≡ o → IsAt kind q (unwrap_or o (leaf s)))
      [ None ↦ λ none. a.fits q (leaf s) is | Some e ↦ λ found. (f.leaves q e found).at ] refl
  carried-fits q (atom s) is =
      elim (get d.leaves q) as (λ o. get d.leaves q ≡ o → IsAt kind q (unwrap_or o (atom s)))
      [ None ↦ λ none. a.fits q (atom s) is | Some e ↦ λ found. (f.leaves q e found).at ] refl
  carried-fits q record_branch is = a.fits q record_branch is
  carried-fits q dict_branch is = a.fits q dict_branch is
  carried-fits q (list_branch es) is = let at = a.fits q (list_branch es) is in
      record { place = at.place; there = at.there; fits = any_order at.place (order_after d q es) es ∙ at.fits }

  fits-there : (q : Path) (c : Content) → get w q ≡ Some c → IsAt kind q c
  fits-there q c is =
      elim (from q) [
        | stayed e is_v uncut says ↦ subst (IsAt kind q) (same_Some (carried_content d q e) c (sym says ∙ is)) (carried-fits q e is_v)
        | came g r x found path says ↦ subst (λ p. IsAt kind p c) path ((f.put g x found).part.fits r c (sym says ∙ is))
        | away none ↦ absurd (none-some c (sym none ∙ is))
      ]

  -- ---- orders

  -- what is carried of each content of the body is no list, or a list of the record's order
  pub carried : (q : Path) (c : Content) → get v q ≡ Some c → Carried d q c
  carried q (leaf s) is =
      plain (elim (get d.leaves q) as (λ o. get d.leaves q ≡ o
      → order_at (Some (unwrap_or o (leaf s))) ≡ []) [ None ↦ λ none. refl | Some e ↦ λ found. other-order (get v q) e (f.leaves q e found).other ] refl)
      refl
  carried q (atom s) is =
      plain (elim (get d.leaves q) as (λ o. get d.leaves q ≡ o
      → order_at (Some (unwrap_or o (atom s))) ≡ []) [ None ↦ λ none. refl | Some e ↦ λ found. other-order (get v q) e (f.leaves q e found).other ] refl)
      refl
  carried q record_branch is = plain refl refl
  carried q dict_branch is = plain refl refl
  carried q (list_branch es) is = listed es refl

  -- each list that stays fits, whether the record touches it or not
  pub list-fits : (q : Path) (es : List Element) → get v q ≡ Some (list_branch es) → has_at_or_above d.cut q ≡ false → ListFits d q es
  list-fits q es is uncut =
      by_test (is_touched d q)
      (λ t. f.lists q es t (λ i. is_some (is i) && not (uncut i)) is)
      (λ k. untouched-fits kind d v a q es is k)

  once-there : (q : Path) → are_distinct (order_at (get w q)) ≡ true
  once-there q =
      elim (from q) [
        | stayed c is uncut says ↦ elim (carried q c is) [
          | plain none other ↦ ap (λ o. are_distinct (order_at o)) says ∙ ap are_distinct none
          | listed es same ↦ ap (λ o. are_distinct (order_at o)) (says ∙ ap (λ e. Some (carried_content d q e)) same)
              ∙ (list-fits q es (is ∙ ap (λ e. Some e) same) uncut).once
        ]
        | came g r x found path says ↦ ap (λ o. are_distinct (order_at o)) says ∙ (f.put g x found).part.once r
        | away none ↦ ap (λ o. are_distinct (order_at o)) none
      ]

  -- the place at a path of the body, and of what is below it
  place-there : (p : Path) (c : Content) (e : Element) → get v p ≡ Some c → has w (p ++ e ∷ []) ≡ true → (r : Place) × (content_fits r c ≡ true)
      × ((s : Place) × (place_below r e ≡ Some s))
  place-there p c e is one =
      let x = some_there (get w (p ++ e ∷ [])) one in
      let up = a.fits p c is in
      let at = fits-there (p ++ e ∷ []) x.0 x.1 in
      (up.place, up.fits, (at.place, sym (place-after p (of_kind kind) e up.place up.there) ∙ at.there))

  -- no item is below what is no list
  pub no-item : (p : Path) (c : Content) (e : Element) → get v p ≡ Some c → is_list c ≡ false → false ≡ (is_item_element e && has w (p ++ e ∷ []))
  no-item p c e is other =
      by_test (is_item_element e)
      (λ i. by_test (has w (p ++ e ∷ []))
      (λ one. let at = place-there p c e is one in yes_no (is_list c) (list_place at.0 c at.1 ∙ item-list at.0 e at.2.0 at.2.1 i) other)
      (λ off. sym (λ k. i k && off k)))
      (λ n. sym (λ k. n k && has w (p ++ e ∷ [])))

  -- what is below a path that stays: what stays there and what is put there
  child : (p : Path) (e : Element) → has v p ≡ true → has_at_or_above d.cut p ≡ false
      → has w (p ++ e ∷ []) ≡ ((has v (p ++ e ∷ []) && not (has d.cut (p ++ e ∷ []))) || has d.put (p ++ e ∷ []))
  child p e there uncut =
      let q = p ++ e ∷ [] in
      by_test (has d.put q)
      (λ put.
      let x = some_there (get d.put q) put in
      let lacks = (f.put q x.0 x.1).absent in
      ap (has w) (sym (append-nil q)) ∙ ap is_some (at_put kind d v a f q [] x.0 x.1) ∙ (f.put q x.0 x.1).part.root
      ∙ sym (λ i. (lacks i && not (has d.cut q)) || put i))
      (λ unput.
      by_test (has v q)
      (λ here.
      by_test (has d.cut q)
      (λ cut. ap is_some (at_cut kind d v a f q here (cut-here q cut)) ∙ sym (λ i. (here i && not (cut i)) || unput i))
      (λ off. stay-there q here (uncut-push p e uncut off) ∙ sym (λ i. (here i && not (off i)) || unput i)))
      (λ lacks.
      elim (from q) [
        | stayed c is k says ↦ yes_no (has v q) (ap is_some is) lacks
        | came g r x found path says ↦ elim (under-push g p e (ap (under g) (sym path) ∙ under-append g r)) [
          | inl same ↦ yes_no (has d.put q) (ap (has d.put) (sym same) ∙ ap is_some found) unput
          | inr above ↦ yes_no (has v g) (closed-above v a.closed g p there above) (f.put g x found).absent
        ]
        | away none ↦ ap is_some none ∙ sym (λ i. (lacks i && not (has d.cut q)) || unput i)
      ]))

  -- what is put below a list is an item
  put-item : (p : Path) (es : List Element) (e : Element) → get v p ≡ Some (list_branch es) → has_at_or_above d.cut p ≡ false → has d.put (p ++ e ∷ []) ≡ true
      → is_item_element e ≡ true
  put-item p es e is uncut put =
      let x = some_there (get d.put (p ++ e ∷ [])) put in
      let one : has w (p ++ e ∷ []) ≡ true = ap (has w) (sym (append-nil (p ++ e ∷ []))) ∙ ap is_some (at_put kind d v a f (p ++ e ∷ []) [] x.0 x.1)
      ∙ (f.put (p ++ e ∷ []) x.0 x.1).part.root in
      let at = place-there p (list_branch es) e is one in
      list-item at.0 e at.2.0 at.2.1 (sym (list_place at.0 (list_branch es) at.1))

  list-items : (p : Path) (es : List Element) (e : Element) → get v p ≡ Some (list_branch es) → has_at_or_above d.cut p ≡ false
      → is_among e (order_after d p es) ≡ (is_item_element e && has w (p ++ e ∷ []))
  list-items p es e is uncut =
      let q = p ++ e ∷ [] in
      (list-fits p es is uncut).items e
      ∙ ap (λ b. b || has d.put q) (among-filter (λ x. not (has d.cut (p ++ x ∷ []))) es e
      ∙ ap (λ b. b && not (has d.cut q)) (ap (λ o. is_among e (order_at o)) (sym is) ∙ a.items p e))
      ∙ items-put (is_item_element e) (has v q) (not (has d.cut q)) (has d.put q) (put-item p es e is uncut)
      ∙ ap (λ b. is_item_element e && b) (sym (child p e (ap is_some is) uncut))

  items-there : (p : Path) (e : Element) → is_among e (order_at (get w p)) ≡ (is_item_element e && has w (p ++ e ∷ []))
  items-there p e =
      elim (from p) [
        | stayed c is uncut says ↦ elim (carried p c is) [
          | plain none other ↦ ap (λ o. is_among e (order_at o)) says ∙ ap (is_among e) none ∙ no-item p c e is other
          | listed es same ↦ ap (λ o. is_among e (order_at o)) (says ∙ ap (λ x. Some (carried_content d p x)) same)
              ∙ list-items p es e (is ∙ ap (λ x. Some x) same) uncut
        ]
        | came g r x found path says ↦
            let below : p ++ e ∷ [] ≡ g ++ (r ++ e ∷ []) = ap (λ s. s ++ e ∷ []) (sym path) ∙ append_assoc g r (e ∷ []) in
            ap (λ o. is_among e (order_at o)) says ∙ (f.put g x found).part.items r e
            ∙ ap (λ b. is_item_element e && b) (sym (ap (has w) below ∙ ap is_some (at_put kind d v a f g (r ++ e ∷ []) x found)))
        | away none ↦ ap (λ o. is_among e (order_at o)) none
            ∙ by_test (has w (p ++ e ∷ []))
            (λ one. yes_no (has w p) (closed-there p e one) (ap is_some none))
            (λ off. by_test (is_item_element e) (λ i. sym (λ k. i k && off k)) (λ n. sym (λ k. n k && has w (p ++ e ∷ []))))
      ]

  -- ---- key fields

  keys-there : (p : Path) (ks : List (Text × Scalar)) (n : Text) (s : Scalar) → scalar_of n ks ≡ Some s → has w (p ++ key ks ∷ []) ≡ true
      → get w ((p ++ key ks ∷ []) ++ field n ∷ []) ≡ Some (leaf s)
  keys-there p ks n s scalar one =
      let item = p ++ key ks ∷ [] in
      let at = item ++ field n ∷ [] in
      elim (from item) [
        | stayed c is uncut says ↦
            let own = a.keys p ks n s scalar (ap is_some is) in
            let off : has d.cut at ≡ false = by_test (has d.cut at) (λ t. absurd (key-named at p ks n s refl scalar (f.cut at t).free)) (λ k. k) in
            at_stay kind d v a f at (leaf s) own (uncut-push item (field n) uncut off)
            ∙ elim (get d.leaves at) as (λ o. get d.leaves at ≡ o → Some (unwrap_or o (leaf s)) ≡ Some (leaf s)) [
              | None ↦ λ none. refl
              | Some e ↦ λ found. absurd (key-named at p ks n s refl scalar (f.leaves at e found).free)
            ] refl
        | came g r x found path says ↦
            let below : at ≡ g ++ (r ++ field n ∷ []) = ap (λ q. q ++ field n ∷ []) (sym path) ∙ append_assoc g r (field n ∷ []) in
            ap (get w) below ∙ at_put kind d v a f g (r ++ field n ∷ []) x found
            ∙ (f.put g x found).part.keys r p ks n s path scalar (sym (ap is_some says) ∙ one)
        | away none ↦ yes_no (has w item) one (ap is_some none)
      ]

  -- what the record leads to is a body of the kind
  pub body-after : IsBodyOf kind w
  body-after = record { root = root-there; closed = closed-there; fits = fits-there; once = once-there; keys = keys-there; items = items-there }
